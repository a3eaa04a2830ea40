use Rattle.track.specs.List.{capacity}
use Rattle.player.proofs.Taking.{Taking}
use Rattle.player.proofs.entries.list_in.Given as goal

abbrev pub invariant-loop-index : goal.invariant-loop-index
invariant-loop-index l = Taking capacity l.count l.rows l.list.records l.index
