use mathlib.Core.Path.{◌≡◌}
use lib.Seq.{paste}
use Rattle.number.proofs.payload.copy_over.Given as goal

abbrev pub invariant-loop-i : goal.invariant-loop-i
invariant-loop-i l = l.to ≡ paste l.initial.to 0 l.from l.i
