-- The list reader meets its contract: an invalid running status, and its loop's turns and stops.
use mathlib.Core.Path.{sym, ap, ◌∙◌}
use Prim.Native.Nat.{◌<◌}
use native.Mathlib.Omega.{arith}
use Rattle.smf.proofs.Steps.{Took}
use Rattle.base.specs.Rules.{rules_of}
use Rattle.event.specs.Event.{event_of}
use Rattle.track.specs.Cursor.{reader_of, next_of}
use Rattle.track.specs.List.{capacity}
use Rattle.track.proofs.Reading.{took}
use Rattle.track.proofs.Filling.{invalid, filling_first, filled, filling_more}
use Rattle.track.proofs.list.EventList.read.Goals as goal
use Rattle.track.proofs.list.EventList.read.Goals.{In-Ok, then-is_valid+in-Err, else-is_valid}

pub loop-why-init : goal.loop-why-init
loop-why-init c =
    let a = c.args in
    let l = c.new-list.result in
    filling_first capacity (rules_of a.rules) a.raw.now a.at a.running.status l.records l.count c.new-list.ensures
    (sym c.is_valid.ensures ∙ c.if-is_valid.true)

-- the step that was taken
taken : (c : In-Ok) → let a = c.args in let step = c.in-Ok.step in Took (rules_of a.rules) capacity a.raw.now a.at (reader_of c.loop-why.cursor) (event_of step.event) step.padding (reader_of step.cursor)
taken c = took c.loop-why.invariant.sofar (sym c.next.ensures ∙ ap next_of c.in-Ok.is)

-- there is a record for the event
room : (c : In-Ok) → c.loop-why.cursor.count < capacity
room c = (taken c).room

pub offset_bounds-list-cursor : goal.offset_bounds-list-cursor
offset_bounds-list-cursor c = record { fits = omega (arith, room (goal.at.offset_bounds-list-cursor c).In-Ok) }

pub bounds-list-cursor : goal.bounds-list-cursor
bounds-list-cursor c = room (goal.at.bounds-list-cursor c).In-Ok

pub overflow_add-padding : goal.overflow_add-padding
overflow_add-padding c =
    omega (arith, (taken (goal.at.overflow_add-padding c).In-Ok).padded, (taken (goal.at.overflow_add-padding c).In-Ok).within, c.loop-why.invariant.sofar.padded)

pub loop-why-smaller : goal.loop-why-smaller
loop-why-smaller c =
    let t = taken (goal.at.loop-why-smaller c).In-Ok in
    omega (arith, t.moved, t.within)

pub loop-why-preserved : goal.loop-why-preserved
loop-why-preserved c =
    filling_more c.loop-why.invariant c.next.result c.next.ensures c.in-Ok.step c.in-Ok.is c.recorded.result c.recorded.ensures

pub returns : goal.returns
returns c =
    let a = c.args in
    let l = c.new-list.result in
    elim c.if-is_valid.branch [
      | then-is_valid+in-Err w ↦
          rw (w.list-is, w.cursor-is, w.padding-is, w.stop-is)
          (filled w.loop-why.invariant w.next.result w.next.ensures w.in-Err.why w.in-Err.is)
      | else-is_valid w ↦
          rw (w.list-is, w.cursor-is, w.padding-is, w.stop-is)
          (invalid capacity (rules_of a.rules) a.raw.now a.at a.running.status l.records l.count c.new-list.ensures
          (sym c.is_valid.ensures ∙ w.if-is_valid.false))
    ]
