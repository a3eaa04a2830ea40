use Prim.Native.Nat.{◌≤◌}
use Rattle.bank.specs.Bank.{most_tracks}
use Rattle.bank.specs.Entries.{range_in}
use Rattle.bank.proofs.Filling.{Filled}
use Rattle.bank.proofs.entries.ranges_in.Given as goal

abbrev pub invariant-loop-index : goal.invariant-loop-index
invariant-loop-index l = (l.index ≤ most_tracks) × Filled (range_in l.fn.cells) most_tracks l.range-items l.index
