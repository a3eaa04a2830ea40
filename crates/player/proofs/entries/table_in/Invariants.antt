use Rattle.player.proofs.TablesIn.{Filled}
use Rattle.player.proofs.entries.table_in.Given as goal

abbrev pub invariant-loop-place : goal.invariant-loop-place
invariant-loop-place l = Filled l.fn.bytes l.table l.place
