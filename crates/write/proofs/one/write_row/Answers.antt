-- `write_row` meets its contract: the running status first.
use Rattle.smf.specs.Event.{write_event}
use Rattle.base.specs.Rules.{rules_of}
use Rattle.rows.specs.RowEvent.{row_judged}
use Rattle.write.proofs.Doors.{row_number, told}
use Rattle.write.proofs.Steps.{by_judged}
use Rattle.write.proofs.one.write_row.Goals as goal

pub written_from-requires : goal.written_from-requires
written_from-requires c =
    let a = c.args in
    told a.bytes.now (row_judged (rules_of a.rules) a.bytes.now a.row) (row_number (rules_of a.rules) a.bytes.now a.row) c.row_raw.result c.row_raw.ensures

pub returns : goal.returns
unfolding write_event
returns c = rw (by_judged, ← c.row_raw.ensures) c.written_from.ensures
