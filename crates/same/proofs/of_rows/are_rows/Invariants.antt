use Rattle.std.proofs.Common.{◌*◌, ◌-◌}
use Rattle.rows.specs.Rows.{width}
use Rattle.rows.proofs.RowsOn.{Looked}
use Rattle.same.proofs.of_rows.are_rows.Given as goal

abbrev pub invariant-loop-index : goal.invariant-loop-index
invariant-loop-index l = Looked l.count l.cells (l.index * width) (l.count - l.index)
