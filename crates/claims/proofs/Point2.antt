-- Point 2, proved: the promises say it; and the definitions, computed on document 01's bytes, shut the three readers out.
use Rattle.write.specs.declared.answer.WriteRefused.{WriteRefused}
use Rattle.std.specs.Prelude.{Result}
use Rattle.base.specs.declared.Refusal.{Refusal}
use Rattle.write.specs.declared.answer.Past.{Past}
use Rattle.number.specs.declared.varlen.NumberAt as code
use mathlib.Core.Path.{◌≡◌, refl, sym, ap, ◌∙◌}
use mathlib.Core.Bool.{true}
use mathlib.Core.List.{List, [], ◌∷◌, ◌++◌}
use Prim.Native.Nat.{ℕ, ◌+◌, ◌-◌, ◌≤◌}
use native.Mathlib.Omega.{arith}
use lib.ListN.{length, drop, get_or, length-append}
use borrow.Author.Tests.{le-leb}
use Rattle.smf.specs.Answer.{Answer, gives, Rules}
use Rattle.smf.specs.Running.{is_running}
use Rattle.smf.specs.Number.{is_number, value_from, ahead, encode_number, beyond_fewest, number_from, read_number, numeral}
use Rattle.smf.specs.Payload.{payload_after, read_payload}
use Rattle.smf.specs.Place.{NumberAt, Span, number_at}
use Rattle.smf.specs.Write.{put}
use Rattle.smf.specs.Wire.{data_length, read_one, read_two, read_channel, read_meta, read_status, read_body, after_delta, read_raw}
use Rattle.smf.specs.Kind.{message_two, is_text, called_meta, called, note_on, tempo, Kind, midi, meta}
use Rattle.smf.specs.Event.{Event, event, map_meta, map_kind, map_event, named, name_raw, read_event, legal, encode_event, write_judged, write_event, Same}
use Rattle.smf.specs.Lists.{go_on, read_more, read_list, paddings, ListAt, list_at, filler, ended, ListHeld, holding, held_as}
use Rattle.smf.proofs.Answer.{said_of}
use Rattle.smf.proofs.Number.{smf_read, smf_number}
use Rattle.smf.proofs.Place.{Reached, NumberReached, number_reached}
use Rattle.base.specs.Rules.{rules_of}
use Rattle.number.specs.Varlen.{number_read_of}
use Rattle.base.specs.declared.Rules as base
use Rattle.base.specs.declared.Running.{Running}
use Rattle.event.specs.Event.{event_of}
use Rattle.event.specs.declared.TrackEvent.{TrackEvent}
use Rattle.track.specs.List.{capacity}
use Rattle.track.specs.Read.{list_read_of}
use Rattle.track.specs.declared.read.ReadList.{ReadList}
use Rattle.write.specs.Wrote.{wrote_event}
use Rattle.claims.specs.Calls.{EventListRead}
use Rattle.claims.specs.Point2.{own_written, p1, p2, p3, nth, TwoEvents, OtherEvent, Point2}
use Rattle.claims.proofs.Calls as calls

-- a list of these events, read to the end, with no padding
abbrev whole : List (Event Span) → ℕ → ℕ → ListAt
whole es place running = record { events = es; stop = ended; place = place; running = running; padding = 0 }

module _ (rules : Rules) where
  two_read : list_at rules capacity 0 (p1 ++ p2) 0 ≡ whole (event 0 (midi 0 (note_on 60 64)) ∷ event 0 (midi 0 (note_on 60 0)) ∷ []) 7 0x90
  unfolding is_running ahead encode_number number_from read_number data_length read_one read_two read_channel read_status read_body after_delta read_raw message_two called map_kind map_event named name_raw read_event go_on read_more read_list paddings list_at
  two_read = refl

  one_read : list_at rules capacity 0 p1 0 ≡ whole (event 0 (midi 0 (note_on 60 64)) ∷ []) 4 0x90
  unfolding is_running ahead encode_number number_from read_number data_length read_one read_two read_channel read_status read_body after_delta read_raw message_two called map_kind map_event named name_raw read_event go_on read_more read_list paddings list_at
  one_read = refl

  tempo_read : list_at rules capacity 0 p3 0 ≡ whole (event 0 (meta (tempo 500000)) ∷ []) 7 0
  unfolding is_running ahead encode_number number_from read_number payload_after read_payload data_length read_meta read_status read_body after_delta read_raw is_text called_meta called map_meta map_kind map_event named name_raw read_event go_on read_more read_list paddings list_at
  tempo_read = refl

-- the note with velocity 64, the one with velocity 0, and the tempo
abbrev struck : Event Span
struck = event 0 (midi 0 (note_on 60 64))

abbrev released : Event Span
released = event 0 (midi 0 (note_on 60 0))

abbrev slow : Event Span
slow = event 0 (meta (tempo 500000))

velocities : (s : List ℕ) → Same s struck s released → ⊥
unfolding map_event map_kind
velocities s same = let z : ◌≡◌ {A = ℕ} 64 0 = note (ap (λ (e : Event (List ℕ)). e.kind) same) in absurd (omega arith) where
  note : ◌≡◌ {A = Kind (List ℕ)} (midi 0 (note_on 60 64)) (midi 0 (note_on 60 0)) → ◌≡◌ {A = ℕ} 64 0
  note e = cc

kinds : (s t : List ℕ) → Same s struck t slow → ⊥
unfolding map_event map_kind map_meta
kinds s t same = note (ap (λ (e : Event (List ℕ)). e.kind) same) where
  note : ◌≡◌ {A = Kind (List ℕ)} (midi 0 (note_on 60 64)) (meta (tempo 500000)) → ⊥
  note e = let z : ◌≡◌ {A = ℕ} 0 1 = cc in omega arith

first_is : (r : ReadList) (e : Event Span) (es : List (Event Span)) (place running : ℕ) → list_read_of r ≡ held_as capacity (whole (e ∷ es) place running) → nth r 0 ≡ e
unfolding holding
first_is r e es place running h = ap (λ (l : ListHeld). get_or l.list.records 0 filler) h

second_is : (r : ReadList) (d e : Event Span) (es : List (Event Span)) (place running : ℕ) → list_read_of r ≡ held_as capacity (whole (d ∷ e ∷ es) place running) → nth r 1 ≡ e
unfolding holding
second_is r d e es place running h = ap (λ (l : ListHeld). get_or l.list.records 1 filler) h

count_is : (r : ReadList) (es : List (Event Span)) (place running : ℕ) → list_read_of r ≡ held_as capacity (whole es place running) → (list_read_of r).list.count ≡ length es
unfolding holding
count_is r es place running h = ap (λ (l : ListHeld). l.list.count) h

two : (raw : List ℕ) (at : ℕ) (running : Running) (rules : base.Rules) (r : ReadList) → list_read_of r ≡ held_as capacity (list_at (rules_of rules) capacity running.status raw at)
    → raw ≡ p1 ++ p2 → at ≡ 0 → running.status ≡ 0 → TwoEvents raw r
two raw at running rules r told q z none =
    let h : list_read_of r ≡ held_as capacity (whole (struck ∷ released ∷ []) 7 0x90) = rw (q, z, none, two_read (rules_of rules)) at told in
    let first = first_is r struck (released ∷ []) 7 0x90 h in
    let second = second_is r struck released [] 7 0x90 h in
    record {
      all = ap (λ (l : ListHeld). l.stop) h;
      count = count_is r (struck ∷ released ∷ []) 7 0x90 h;
      place = ap (λ (l : ListHeld). l.place) h;
      status = ap (λ (l : ListHeld). l.running) h;
      differ = λ same. velocities raw (rw (first, second) at same);
    }

other : (raw : List ℕ) (r : ReadList) → nth r 0 ≡ struck
    → (raw' : List ℕ) (at : ℕ) (running : Running) (rules : base.Rules) (r' : ReadList) → list_read_of r' ≡ held_as capacity (list_at (rules_of rules) capacity running.status raw' at)
    → OtherEvent raw r raw' at running rules r'
other raw r first raw' at running rules r' told q z none =
    let h : list_read_of r' ≡ held_as capacity (whole (slow ∷ []) 7 0) = rw (q, z, none, tempo_read (rules_of rules)) at told in
    (count_is r' (slow ∷ []) 7 0 h, (λ same. kinds raw raw' (rw (first, first_is r' slow [] 7 0 h) at same)))

one : (raw : List ℕ) (at : ℕ) (running : Running) (rules : base.Rules) (r : ReadList) → list_read_of r ≡ held_as capacity (list_at (rules_of rules) capacity running.status raw at)
    → raw ≡ p1 → at ≡ 0 → running.status ≡ 0 → ((list_read_of r).list.count ≡ 1) × EventListRead (OtherEvent raw r)
one raw at running rules r told q z none =
    let h : list_read_of r ≡ held_as capacity (whole (struck ∷ []) 4 0x90) = rw (q, z, none, one_read (rules_of rules)) at told in
    (count_is r (struck ∷ []) 4 0x90 h, calls.read_list_lem (OtherEvent raw r) (other raw r (first_is r struck [] 4 0x90 h)))

-- a legal event that has room
legal_written : (running : ℕ) (j : Answer (Event (List ℕ))) (out : List ℕ) (at : ℕ) (l : Event (List ℕ)) → is_running running ≡ true → j ≡ gives l
    → at + length (encode_event running l) ≤ length out → write_event running j out at ≡ own_written running l out at
unfolding write_event write_judged put
legal_written running j out at l is h room = rw (is, h, le-leb _ _ room)

legal_said : (event : TrackEvent) (running : Running) (rules : base.Rules) (bytes out : List ℕ) (at : ℕ) (r : Result Past WriteRefused) (end : List ℕ)
    → wrote_event r end ≡ write_event running.status (legal (rules_of rules) bytes (event_of event)) out at
    → (e : Event (List ℕ)) → is_running running.status ≡ true → legal (rules_of rules) bytes (event_of event) ≡ gives e → at + length (encode_event running.status e) ≤ length out
    → wrote_event r end ≡ own_written running.status e out at
legal_said event running rules bytes out at r end told e is h room = told ∙ legal_written running.status (legal (rules_of rules) bytes (event_of event)) out at e is h room

-- Numbers

number_placed_lem : (rules : Rules) (s : List ℕ) (at : ℕ) (n rest : List ℕ) → is_number 4 n ≡ true → drop at s ≡ n ++ rest
    → number_at rules s at ≡ gives (record { value = value_from 0 n; next = at + length n; padding = beyond_fewest (length n) (value_from 0 n) })
unfolding number_at
number_placed_lem rules s at n rest is e =
    let used : length (n ++ rest) - length rest ≡ length n = omega (arith, length-append n rest) in
    rw (e, smf_read rules n rest is, used)

number_only : (rules : Rules) (s : List ℕ) (at : ℕ) (m : NumberAt) → rules.strict ≡ true → number_at rules s at ≡ gives m
    → (n : List ℕ) × (is_number 4 n ≡ true) × (m.value ≡ value_from 0 n) × (drop at s ≡ n ++ drop m.next s)
number_only rules s at m strict e =
    let r : Reached rules s at m = said_of (NumberReached rules s at) (number_reached rules s at) e in
    let u = smf_number rules strict (drop at s) (numeral m.value (drop m.next s)) r.read in
    (u.0, u.2, u.3, u.1)

number_said : (raw : List ℕ) (at : ℕ) (rules : base.Rules) (r : Result code.NumberAt Refusal) → number_read_of r ≡ number_at (rules_of rules) raw at
    → (n rest : List ℕ) → is_number 4 n ≡ true → drop at raw ≡ n ++ rest → number_read_of r ≡ gives (record { value = value_from 0 n; next = at + length n; padding = beyond_fewest (length n) (value_from 0 n) })
number_said raw at rules r told n rest is e = told ∙ number_placed_lem (rules_of rules) raw at n rest is e

only_said : (raw : List ℕ) (at : ℕ) (rules : base.Rules) (r : Result code.NumberAt Refusal) → number_read_of r ≡ number_at (rules_of rules) raw at
    → (m : NumberAt) → rules.strict ≡ true → number_read_of r ≡ gives m
    → (n : List ℕ) × (is_number 4 n ≡ true) × (m.value ≡ value_from 0 n) × (drop at raw ≡ n ++ drop m.next raw)
only_said raw at rules r told m strict e = number_only (rules_of rules) raw at m strict (sym told ∙ e)

pub point_2 : Point2
point_2 =
    record {
      reads = calls.read_event_lem _ (λ raw at running rules r told. told);
      reads_lists = calls.read_list_lem _ (λ raw at running rules r told. told);
      writes = calls.write_event_lem _ (λ event running rules bytes out at r end told. told);
      writes_rows = calls.write_row _ (λ row running rules bytes out at r end told. told);
      writes_legal = calls.write_event_lem _ legal_said;
      smf_numbers = calls.read_u7 _ number_said;
      smf_only = calls.read_u7 _ only_said;
      two_events = calls.read_list_lem _ two;
      other_event = calls.read_list_lem _ one;
    }
