use Rattle.track.specs.List.{capacity}
use Rattle.player.proofs.Scanning.{Scanned}
use Rattle.player.proofs.silence.silence_from.Given as goal

abbrev pub invariant-loop-place : goal.invariant-loop-place
invariant-loop-place l = Scanned capacity l.table l.from l.list.records l.list.count l.place
