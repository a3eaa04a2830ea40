use Rattle.player.proofs.Counting.{Counted}
use Rattle.player.proofs.table.count.Given as goal

abbrev pub invariant-loop-velocity : goal.invariant-loop-velocity
invariant-loop-velocity l = Counted l.fn.channel l.sounding l.velocity-index
