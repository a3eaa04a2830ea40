-- `lay_any` meets its contract: the step that the list takes, and its event's row laid.
use mathlib.Core.Path.{sym, ap, ◌∙◌}
use Prim.Native.Nat.{◌<◌}
use native.Mathlib.Omega.{arith}
use Rattle.base.specs.Rules.{rules_of}
use Rattle.track.specs.Cursor.{reader_of, next_of}
use Rattle.track.specs.List.{capacity}
use Rattle.rows.proofs.RowCells.{next_room}
use Rattle.rows.proofs.lists.lay_any.Goals as goal
use Rattle.rows.proofs.lists.lay_any.Goals.{In_ok-step}

-- an event that is taken is one of those that a list holds
room : (c : In_ok-step) → c.args.cursor.count < capacity
room c =
    let a = c.args in
    next_room (rules_of a.rules) capacity a.raw.now (reader_of a.cursor) (sym c.next.ensures ∙ ap next_of c.in_ok-step.was)

pub overflow_mul-cursor : goal.overflow_mul-cursor
overflow_mul-cursor c = record { fits = omega (arith, room (goal.at.overflow_mul-cursor c).In_ok-step) }

pub put_row-requires : goal.put_row-requires
put_row-requires c =
    omega (arith, room (goal.at.put_row-requires c).In_ok-step, c.requires)
