use Prim.Native.Nat.{◌-◌}
use lib.ListN.{length}
use Rattle.smf.specs.Number.{encode_number}
use Rattle.number.proofs.NumberWrites.{Putting}
use Rattle.number.proofs.u28.put.Given as goal

abbrev pub invariant-loop-high : goal.invariant-loop-high
invariant-loop-high l = Putting l.initial.out l.fn.self.0 (l.end - length (encode_number l.fn.self.0)) l.place l.high l.out

abbrev pub decreases-loop-high : goal.decreases-loop-high
decreases-loop-high l = l.high
