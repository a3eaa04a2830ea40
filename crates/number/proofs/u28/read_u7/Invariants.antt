use Rattle.base.specs.Rules.{rules_of}
use Rattle.number.proofs.NumberReads.{Walking}
use Rattle.number.proofs.u28.read_u7.Given as goal

abbrev pub invariant-loop-byte : goal.invariant-loop-byte
invariant-loop-byte l = Walking (rules_of l.rules) l.raw l.at l.int l.place l.left

abbrev pub decreases-loop-byte : goal.decreases-loop-byte
decreases-loop-byte l = l.left
