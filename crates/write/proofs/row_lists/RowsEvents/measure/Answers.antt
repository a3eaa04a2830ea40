-- The size of a row's event.
use Prim.Native.Nat.{◌<◌}
use native.Mathlib.Omega.{arith}
use Rattle.smf.specs.Answer.{refuses}
use Rattle.base.specs.Rules.{rules_of}
use lib.ListN.{take, drop}
use Prim.Native.Nat.{◌*◌}
use Rattle.rows.specs.Rows.{width}
use Rattle.rows.specs.RowEvent.{row_judged}
use Rattle.write.specs.Size.{size_judged}
use Rattle.write.proofs.Judging.{rows_length, rows_at, row_lawful}
use Rattle.write.proofs.Measuring.{size_short}
use Rattle.write.proofs.row_lists.RowsEvents.measure.Goals as goal

pub returns-clause-said : goal.returns-clause-said
unfolding size_judged
returns-clause-said c =
    let s = c.args.self.now in
    let r = rules_of s.rules in
    let lt : c.args.index < s.count = omega (arith, rows_length r s.bytes.now s.count s.cells.now, c.requires.1) in
    rw (rows_at r s.bytes.now s.count s.cells.now c.args.index (refuses 0) lt) c.measure_at.ensures

pub returns-clause-short : goal.returns-clause-short
unfolding size_judged
returns-clause-short c =
    let s = c.args.self.now in
    let r = rules_of s.rules in
    let row = take width (drop (c.args.index * width) s.cells.now) in
    size_short c.args.running.status (row_judged r s.bytes.now row) c.measure_at.result c.measure_at.ensures r (row_lawful r s.bytes.now row)
