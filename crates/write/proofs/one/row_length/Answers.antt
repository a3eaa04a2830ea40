-- `row_length` meets its contract: the running status first.
use Rattle.base.specs.Rules.{rules_of}
use Rattle.rows.specs.RowEvent.{row_judged}
use Rattle.write.specs.Size.{size_judged, size_event}
use Rattle.write.proofs.Doors.{row_number, told}
use Rattle.write.proofs.one.row_length.Goals as goal

pub length_from-requires : goal.length_from-requires
length_from-requires c =
    let a = c.args in
    told a.bytes.now (row_judged (rules_of a.rules) a.bytes.now a.row) (row_number (rules_of a.rules) a.bytes.now a.row) c.row_raw.result c.row_raw.ensures

pub returns : goal.returns
unfolding size_event size_judged
returns c = rw (← c.row_raw.ensures) c.length_from.ensures
