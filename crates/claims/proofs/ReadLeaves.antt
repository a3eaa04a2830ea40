-- By which numbers an event is refused, and the running status that each leaves: the definition, walked in byte order.
use mathlib.Core.Path.{◌≡◌, refl, ◌∙◌, subst}
use mathlib.Core.Bool.{Bool, true, false}
use mathlib.Core.List.{List, [], ◌∷◌}
use Prim.Native.Nat.{ℕ}
use lib.Dec.{ltb, eqb}
use lib.ListN.{drop}
use Rattle.smf.specs.Answer.{Answer, gives, refuses, and_then, Rules}
use Rattle.smf.specs.Running.{is_running}
use Rattle.smf.specs.Number.{Numeral, read_number}
use Rattle.smf.specs.Payload.{Payload, read_payload}
use Rattle.smf.specs.Wire.{Raw, one, two, system, typed, RawEvent, Taken, Delta, delta_read, Reading, reads, refused, data_length, read_one, read_two, read_channel, with_payload, read_meta, read_status, read_body, after_delta, read_raw, running_after}
use Rattle.smf.specs.Kind.{Meta, called_meta, called, meta}
use Rattle.smf.specs.Event.{Event, ReadAt, reads_at, refused_at, named, name_raw, read_event, event_at}
use Rattle.smf.proofs.Answer.{pick_both, pick_test}
use Rattle.smf.proofs.Event.{EventReached, event_reached}
use Rattle.claims.specs.Table.{OneOf, By, of_number, of_payload, of_event}
use Rattle.claims.specs.Stands.{status_of, status_left, EventOrLeft}
use Rattle.claims.proofs.Refusals.{all_among, one_of_more, one_of, of_name, read_number_by, read_payload_by, called_meta_by}

-- what lenient reading refuses, strict does too
always : (b : Bool) (n : ℕ) → OneOf (of_event false) n → OneOf (of_event b) n
always true n e = one_of_more (of_event true) (of_event false) n refl e
always false n e = e

number_in_event : (b : Bool) → all_among (of_event b) (of_number b) ≡ true
number_in_event true = refl
number_in_event false = refl

payload_in_event : (b : Bool) → all_among (of_event b) (of_payload b) ≡ true
payload_in_event true = refl
payload_in_event false = refl

some_payload : (b : Bool) → all_among (2 ∷ 3 ∷ 11 ∷ []) (of_payload b) ≡ true
some_payload true = refl
some_payload false = refl

some_name : (b : Bool) → all_among (12 ∷ 13 ∷ 14 ∷ []) (of_name b) ≡ true
some_name true = refl
some_name false = refl

name_in_event : (b : Bool) → all_among (of_event b) (of_name b) ≡ true
name_in_event true = refl
name_in_event false = refl

module _ (rules : Rules) (running : ℕ) where
  abbrev Leaves : Answer Numeral → ℕ → ℕ → Type 0
  Leaves d n after = OneOf (of_event rules.strict) n × (after ≡ status_left running d n)

  -- a raw event that was read knows its delta, and the running status after it
  abbrev RawLeft : Answer Numeral → Reading (Taken RawEvent) → Type 0
  RawLeft d (reads t) = ((n : Numeral) × (d ≡ gives n)) × (t.running ≡ running_after t.value.raw)
  RawLeft d (refused n after) = Leaves d n after

  module _ (d : Numeral) where
    abbrev Left : Reading (Taken RawEvent) → Type 0
    Left = RawLeft (gives d)

    channel_left : (status : ℕ) (delta : Delta) (s : List ℕ) → status ≡ status_of running d.rest → Left (read_channel status delta s)
    unfolding read_channel read_one read_two
    channel_left status delta s e = pick_both Left (eqb (data_length status) 1) (one_left s) (two-left s) where
      short : Leaves (gives d) 8 status
      short = (always rules.strict 8 refl, e)

      top : Leaves (gives d) 9 status
      top = (always rules.strict 9 refl, e)

      one_left : (s : List ℕ) → Left (read_one status delta s)
      one_left [] = short
      one_left (a ∷ s) = pick_both Left (ltb a 0x80) ((d, refl), refl) top

      two-left : (s : List ℕ) → Left (read_two status delta s)
      two-left [] = short
      two-left (a ∷ []) = short
      two-left (a ∷ b ∷ s) = pick_both Left (ltb a 0x80) (pick_both Left (ltb b 0x80) ((d, refl), refl) top) top

    -- 2, 3 in a length, and 11: no running status
    payload_left : (delta : Delta) (of : List ℕ → Raw) → ((p : List ℕ) → 0 ≡ running_after (of p)) → (a : Answer Payload) → By (of_payload rules.strict) a → Left (with_payload delta of a)
    payload_left delta of h (gives p) b = ((d, refl), h p.bytes)
    payload_left delta of h (refuses n) b =
        let more = one_of_more (2 ∷ 3 ∷ 11 ∷ []) (of_payload rules.strict) n (some_payload rules.strict) b in
        (one_of_more (of_event rules.strict) (of_payload rules.strict) n (payload_in_event rules.strict) b, one_of (λ m. 0 ≡ status_left running (gives d) m) (2 ∷ 3 ∷ 11 ∷ []) (refl, (refl, (refl, tt))) n more)

    meta_left : (delta : Delta) (s : List ℕ) → Left (read_meta rules delta s)
    unfolding read_meta
    meta_left delta [] = (always rules.strict 10 refl, refl)
    meta_left delta (t ∷ s) = payload_left delta (typed t) (λ p. refl) (read_payload rules s) (read_payload_by rules s)

    status_left_lem : (delta : Delta) (status : ℕ) (s : List ℕ) → status ≡ status_of running d.rest → Left (read_status rules running delta status s)
    unfolding read_status
    status_left_lem delta status s e =
        let load = payload_left delta (system status) (λ p. refl) (read_payload rules s) (read_payload_by rules s) in
        pick_both Left (ltb status 0xF0) (channel_left status delta s e)
        (pick_both Left (eqb status 0xFF) (meta_left delta s)
        (pick_both Left (eqb status 0xF0) load
        (pick_both Left (eqb status 0xF7) load
        (pick_both Left (ltb status 0xF7) (always rules.strict 6 refl, refl) (always rules.strict 7 refl, refl)))))

    body_left : (delta : Delta) (s : List ℕ) → d.rest ≡ s → Left (read_body rules running delta s)
    unfolding read_body
    body_left delta [] e = (always rules.strict 4 refl, refl)
    body_left delta (b ∷ s) e =
        pick_test Left (ltb b 0x80)
        (λ t. pick_both Left (eqb running 0) (always rules.strict 5 refl, refl) (channel_left running delta (b ∷ s) (rw (e, t))))
        (λ t. status_left_lem delta b s (rw (e, t)))

  delta_left : (s : List ℕ) (d : Answer Numeral) → By (of_number rules.strict) d → RawLeft d (after_delta rules running s d)
  unfolding after_delta
  delta_left s (gives d) b = body_left d (delta_read s d) d.rest refl
  delta_left s (refuses n) b = (one_of_more (of_event rules.strict) (of_number rules.strict) n (number_in_event rules.strict) b, refl)

  -- 1 leaves the running status, whatever the delta is
  one_leaves : (d : Answer Numeral) → running ≡ status_left running d 1
  one_leaves (gives d) = refl
  one_leaves (refuses n) = refl

  module _ (s : List ℕ) where
    abbrev delta : Answer Numeral
    delta = read_number rules s

    raw_left : RawLeft delta (read_raw rules running s)
    unfolding read_raw
    raw_left =
        pick_test (RawLeft delta) (is_running running) (λ _. delta_left s delta (read_number_by rules s))
        (λ _. (always rules.strict 1 refl, one_leaves delta))

    abbrev EventLeft : Reading (Taken (Event (List ℕ))) → Type 0
    EventLeft (reads t) = Unit {0}
    EventLeft (refused n after) = Leaves delta n after

    -- 12, 13 and 14: no running status
    name_left : (d : Numeral) (n after : ℕ) → delta ≡ gives d → after ≡ 0 → OneOf (of_name rules.strict) n → Leaves delta n after
    name_left d n after e z b =
        let more = one_of_more (12 ∷ 13 ∷ 14 ∷ []) (of_name rules.strict) n (some_name rules.strict) b in (
          one_of_more (of_event rules.strict) (of_name rules.strict) n (name_in_event rules.strict) b,
          z ∙ rw e (one_of (λ m. 0 ≡ status_left running (gives d) m) (12 ∷ 13 ∷ 14 ∷ []) (refl, (refl, (refl, tt))) n more),
        )

    meta_named_left : (t : Taken RawEvent) (d : Numeral) → delta ≡ gives d → t.running ≡ 0 → (a : Answer (Meta (List ℕ))) → By (of_name rules.strict) a
        → EventLeft (named t (and_then a (λ m. gives (meta m))))
    unfolding named
    meta_named_left t d e z (gives m) b = tt
    meta_named_left t d e z (refuses n) b = name_left d n t.running e z b

    called_left : (t : Taken RawEvent) (d : Numeral) → delta ≡ gives d → (raw : Raw) → t.running ≡ running_after raw → EventLeft (named t (called rules raw))
    unfolding called named
    called_left t d e (one status a) after = tt
    called_left t d e (two status a b) after = tt
    called_left t d e (system status p) after = tt
    called_left t d e (typed ty p) after = meta_named_left t d e after (called_meta rules ty p) (called_meta_by rules ty p)

    named_left : (r : Reading (Taken RawEvent)) → RawLeft delta r → EventLeft (name_raw rules r)
    unfolding name_raw
    named_left (reads t) l = called_left t l.0.0 l.0.1 t.value.raw l.1
    named_left (refused n after) l = l

    pub event_left_lem : EventLeft (read_event rules running s)
    unfolding read_event
    event_left_lem = named_left (read_raw rules running s) raw_left

pub event_or_left : (rules : Rules) (bytes : List ℕ) (running at : ℕ) → EventOrLeft rules bytes running at (event_at rules running bytes at)
event_or_left rules bytes running at = by (event_at rules running bytes at) (event_reached rules running bytes at) where
  by : (a : ReadAt) → EventReached rules running bytes at a → EventOrLeft rules bytes running at a
  by (reads_at a) r = (r.some, r.within)
  by (refused_at n used after padding) e =
      let l = subst (EventLeft rules running (drop at bytes)) e.0 (event_left_lem rules running (drop at bytes)) in
      (l.0, e.1, l.1, e.2)
