use Prim.Native.Nat.{◌≤◌}
use Rattle.bank.specs.Bank.{most_bytes}
use Rattle.bank.proofs.Rest.{Rest}
use Rattle.bank.proofs.inside.Inside.total.Given as goal

abbrev pub invariant-loop-range : goal.invariant-loop-range
invariant-loop-range l = Rest l.self.bytes.now l.self.ranges.now l.sum l.range-index × (l.sum ≤ most_bytes)
