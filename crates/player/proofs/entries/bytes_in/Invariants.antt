use Rattle.player.specs.Table.{places, velocity_at}
use Rattle.player.proofs.Stored.{Stored}
use Rattle.player.proofs.entries.bytes_in.Given as goal

abbrev pub invariant-loop-place : goal.invariant-loop-place
invariant-loop-place l = Stored (velocity_at l.fn.table) places l.byte-items l.place
