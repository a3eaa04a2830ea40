use Prim.Native.Nat.{◌-◌}
use lib.ListN.{length}
use Rattle.base.specs.Rules.{rules_of}
use Rattle.track.specs.Cursor.{reader_of}
use Rattle.track.specs.List.{capacity}
use Rattle.rows.proofs.RowCells.{Laying}
use Rattle.rows.proofs.lists.lay_rows.Given as goal

abbrev pub invariant-loop-why : goal.invariant-loop-why
invariant-loop-why l = Laying capacity (rules_of l.rules) l.raw l.at l.initial.cursor.running.status l.initial.rows l.rows l.padding (reader_of l.cursor)

abbrev pub decreases-loop-why : goal.decreases-loop-why
decreases-loop-why l = length l.raw - l.cursor.place
