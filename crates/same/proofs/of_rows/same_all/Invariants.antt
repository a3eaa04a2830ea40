use Rattle.std.proofs.Common.{◌*◌, ◌-◌}
use Rattle.rows.specs.Rows.{width}
use Rattle.same.proofs.RowsLeft.{Compared}
use Rattle.same.proofs.of_rows.same_all.Given as goal

abbrev pub invariant-loop-index : goal.invariant-loop-index
invariant-loop-index l = Compared l.a_bytes l.a l.b_bytes l.b l.count (l.index * width) (l.count - l.index)
