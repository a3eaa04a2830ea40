-- `after` meets its contract: its loop goes on while events are within their widths, and each note message changes one entry.
use mathlib.Core.Path.{◌≡◌, sym, ap, subst, ◌∙◌}
use mathlib.Core.Bool.{true}
use mathlib.Core.List.{map}
use native.Mathlib.Omega.{arith}
use borrow.Author.Rules.{rules}
use lib.ListN.{length, get_or, length-map}
use Rattle.smf.specs.Place.{Span}
use Rattle.smf.specs.Event.{Event}
use Rattle.track.specs.List.{capacity, record_of}
use Rattle.track.proofs.Held.{past, unmapped}
use Rattle.player.specs.Notes.{Note, kind_note}
use Rattle.player.specs.Widths.{event_within}
use Rattle.player.specs.Answers.{note_said}
use Rattle.player.proofs.Arrays.{shaped_array}
use Rattle.player.proofs.Listed.{counted, counted_event, all_counted}
use Rattle.player.proofs.Steps.{Inside, channel_inside, key_inside, played_first, played_note, within_inside, kind_of_within, noted}
use Rattle.player.proofs.Answered.{too_many, all_taken, one_refused}
use Rattle.player.proofs.notes.after.Goals as goal
use Rattle.player.proofs.notes.after.Goals.{After-event_within, After-note_of, in-Some, in_default}

pub returns-then-list-gt-CAPACITY : goal.returns-then-list-gt-CAPACITY
returns-then-list-gt-CAPACITY c =
    let a = c.args in
    too_many a.table capacity (map record_of a.list.records) a.list.count c.if-list-gt-CAPACITY.true

pub loop-kept-init : goal.loop-kept-init
loop-kept-init c =
    let a = c.args in
    let long : length a.list.records ≡ capacity = search (rules, unmapped) in
    (omega (arith, length-map a.list.records record_of, c.if-list-gt-CAPACITY.false), played_first _ _ _ (shaped_array a.table _ c.well_formed.0))

-- the event that is looked at, as the definitions take it
next_within : (c : After-event_within) → let l = c.loop-kept in let rs = c.args.list.records in event_within (get_or (map record_of rs) l.kept-index (record_of past)) ≡ c.event_within.result
next_within c = ap event_within (counted_event _ _ c.loop-kept-test.true) ∙ sym c.event_within.ensures

next_note : (c : After-note_of) → let l = c.loop-kept in let rs = c.args.list.records in kind_note (get_or (map record_of rs) l.kept-index (record_of past)).kind ≡ note_said c.note_of.result
next_note c = ap (λ (e : Event Span). kind_note e.kind) (counted_event _ _ c.loop-kept-test.true) ∙ sym c.note_of.ensures

pub returns-then-not-event_within : goal.returns-then-not-event_within
returns-then-not-event_within c =
    let l = c.loop-kept in
    let a = c.args in
    one_refused a.table capacity (map record_of a.list.records) a.list.count c.if-list-gt-CAPACITY.false l.invariant.1 (record_of past)
    (counted _ _ c.loop-kept-test.true) l.invariant.0 (next_within (goal.at.returns-then-not-event_within c).After-event_within ∙ c.if-not-event_within.true)

-- a note message is for a channel and key of the table
inside : (e : Event Span) {n m : Note} → event_within e ≡ true → kind_note e.kind ≡ n → n ≡ m → Inside m
inside e within is same = subst Inside (is ∙ same) (within_inside e.kind (kind_of_within e within))

pub bounds-left-from : goal.bounds-left-from
bounds-left-from c =
    let g = goal.at.bounds-left-from c in
    rw c.from.ensures (channel_inside (inside _ (next_within g.After-event_within ∙ c.if-not-event_within.false) (next_note g.After-note_of) (ap note_said c.in-Some.is)))

pub bounds-left-from-in-Some : goal.bounds-left-from-in-Some
bounds-left-from-in-Some c =
    let g = goal.at.bounds-left-from-in-Some c in
    rw c.from-in-Some.ensures (key_inside (inside _ (next_within g.After-event_within ∙ c.if-not-event_within.false) (next_note g.After-note_of) (ap note_said c.in-Some.is)))

pub loop-kept-preserved : goal.loop-kept-preserved
unfolding noted
loop-kept-preserved c =
    let l = c.loop-kept in
    let g = goal.at.loop-kept-preserved c in
    let go = played_note _ _ _ l.invariant.1 (record_of past) (counted _ _ c.loop-kept-test.true) l.invariant.0 (next_within g.After-event_within ∙ c.if-not-event_within.false) in
    let note = next_note g.After-note_of in (
      l.invariant.0,
      elim c.match-note_of.branch [
        | in-Some w ↦ go _ (note ∙ ap note_said w.in-Some.is) c.match-note_of.left (rw (w.from.ensures, w.from-in-Some.ensures) at w.left-is)
        | in_default w ↦ go _ (note ∙ ap note_said w.in_default.is) c.match-note_of.left w.left-is
      ],
    )

pub returns : goal.returns
returns c =
    let l = c.loop-kept in
    let a = c.args in
    let last = all_counted _ _ l.invariant.0 c.loop-kept-test.false in
    all_taken a.table capacity (map record_of a.list.records) a.list.count c.if-list-gt-CAPACITY.false l.invariant.1 last
