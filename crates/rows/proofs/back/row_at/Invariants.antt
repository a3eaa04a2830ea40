use Rattle.rows.proofs.Copying.{Copied}
use Rattle.rows.proofs.back.row_at.Given as goal

abbrev pub invariant-loop-i : goal.invariant-loop-i
invariant-loop-i l = Copied l.cells l.at l.row l.i
