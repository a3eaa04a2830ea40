-- `Cursor::next` meets its contract: no byte is left, the list is full, the event is refused, or it is taken.
use mathlib.Core.Path.{◌≡◌, sym, ap, ◌∙◌}
use native.Mathlib.Omega.{arith}
use lib.ListN.{length}
use borrow.Author.Tests.{le-leb, lt-leb}
use Rattle.std.specs.Prelude.{Ok}
use Rattle.std.proofs.Common.{rules}
use Rattle.std.proofs.lemmas.Result.{err_from_is_err_and}
use Rattle.smf.specs.Lists.{next_at, step_on}
use Rattle.smf.proofs.Steps.{event_within_lem}
use Rattle.base.specs.Rules.{rules_of}
use Rattle.event.specs.Event.{event_read}
use Rattle.event.proofs.Tried.{ok_back, err_back}
use Rattle.track.specs.List.{capacity}
use Rattle.track.specs.declared.cursor.Stop.TheVariants as stop
use Rattle.track.proofs.cursor.Cursor.next.Goals as goal
use Rattle.track.proofs.cursor.Cursor.next.Goals.{In_ok-e}

pub returns-then-raw-place : goal.returns-then-raw-place
unfolding next_at
returns-then-raw-place c =
    let a = c.args in
    rw (le-leb (length a.raw.now) a.self.place c.if-raw-place.true)

pub returns-then-count-ge-CAPACITY : goal.returns-then-count-ge-CAPACITY
unfolding next_at
returns-then-count-ge-CAPACITY c =
    let a = c.args in
    rw (lt-leb (length a.raw.now) a.self.place c.if-raw-place.false, le-leb capacity a.self.count c.if-count-ge-CAPACITY.true)

-- the event that was read
was_read : (c : In_ok-e) → c.read-read.result ≡ Ok c.in_ok-e.e
was_read c = ok_back c.read-read.result c.map_err.result _ c.map_err.ensures.cases c.map_err.ensures.variant c.in_ok-e.was

pub returns-in_err-e : goal.returns-in_err-e
unfolding next_at step_on
returns-in_err-e c =
    let a = c.args in
    let n = err_from_is_err_and c.from_residual.result c.from_residual.ensures.1 in
    let m = err_back c.read-read.result c.map_err.result _ c.map_err.ensures.cases c.map_err.ensures.variant c.in_err-e.was in
    let why : c.in_err-e.field-0.0 ≡ stop.Refused m.0.refusal = search (rules, m.2) in
    let read = sym (ap event_read m.1) ∙ c.read-read.ensures in
    rw (n.1, n.2, why, lt-leb (length a.raw.now) a.self.place c.if-raw-place.false, lt-leb capacity a.self.count c.if-count-ge-CAPACITY.false, ← read)

pub overflow_add-result : goal.overflow_add-result
overflow_add-result c =
    let a = c.args in
    let found = sym c.read-read.ensures ∙ ap event_read (was_read (goal.at.overflow_add-result c).In_ok-e) in
    omega (arith, event_within_lem (rules_of a.rules) a.self.running.status a.raw.now a.self.place found)

pub returns : goal.returns
unfolding next_at step_on
returns c =
    let a = c.args in
    rw (lt-leb (length a.raw.now) a.self.place c.if-raw-place.false, lt-leb capacity a.self.count c.if-count-ge-CAPACITY.false, ← c.read-read.ensures, was_read (goal.at.returns c).In_ok-e)
