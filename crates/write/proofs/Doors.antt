-- What a door answers: an event that it let through is sound, and what it refuses has a number of the document.
use Rattle.std.specs.Prelude.{Err, Ok, Result}
use mathlib.Core.Path.{◌≡◌, ap}
use mathlib.Core.Bool.{Bool, true, false, ◌&&◌, not}
use mathlib.Core.List.{List}
use Prim.Native.Nat.{ℕ, ◌^◌, ◌<◌, ◌≤◌}
use native.Mathlib.Omega.{arith}
use lib.Dec.{ltb}
use borrow.Author.Tests.{lt-ltb, le-ltb, ltb-true}
use Rattle.smf.specs.Answer.{pick, Answer, gives, refuses, unless, and_then, Rules}
use Rattle.smf.specs.Place.{Span, inside, bytes_of}
use Rattle.smf.specs.Wire as wire
use Rattle.smf.specs.Wire.{raw_event}
use Rattle.smf.specs.Event.{Event, kind_fits, kind_load, kind_misnamed, no_span, span_length, map_event, legal}
use Rattle.smf.proofs.Answer.{by_test, by_answer, both}
use Rattle.rows.specs.RowEvent.{event_of_row, row_judged}
use Rattle.rows.proofs.IsRow.{is_none}
use Rattle.base.specs.Refusal.{number_of}
use Rattle.base.specs.declared.Refusal.{Refusal}
use Rattle.write.specs.Raw.{raw_judged, is_sound, wire_of, made_said, judged_said, LetThrough}
use Rattle.write.specs.declared.raw.Raw.{Raw}
use Rattle.write.specs.declared.raw.RawEvent.{RawEvent}

-- a delta, and what stands behind it
module _ (bytes : List ℕ) (delta : ℕ) where
  abbrev Behind : Result Raw Refusal → Answer wire.RawEvent
  Behind m = pick (ltb delta (2 ^ 28)) (and_then (made_said bytes m) (λ raw. gives (raw_event delta raw))) (refuses 18)

  pub behind_wide : (m : Result Raw Refusal) → 2 ^ 28 ≤ delta → refuses 18 ≡ Behind m
  behind_wide m h = rw (le-ltb _ _ h)

  module _ (h : delta < 2 ^ 28) where
    pub behind_refused : (m : Result Raw Refusal) (n : Refusal) → m ≡ Err n → refuses (number_of n) ≡ Behind m
    behind_refused m n e = rw (lt-ltb _ _ h, e)

    pub behind_raw : (m : Result Raw Refusal) (r : Raw) → m ≡ Ok r
        → pick (ltb delta (2 ^ 28) && is_sound bytes r) (gives (raw_event delta (wire_of bytes r))) (refuses 0) ≡ Behind m
    behind_raw m r e = rw (lt-ltb _ _ h, e) (by_test (is_sound bytes r) (λ s. rw s) (λ s. rw s))

-- no number by which an event is refused is 0: of a record, and of a row
pub legal_number : (rules : Rules) (bytes : List ℕ) (e : Event Span) → legal rules bytes e ≡ refuses 0 → ⊥
unfolding legal
legal_number rules bytes e h =
    by (ltb e.delta (2 ^ 28) && kind_fits rules e.kind) (inside bytes (kind_load no_span e.kind)) (ltb (span_length (kind_load no_span e.kind)) (2 ^ 28)) (kind_misnamed rules span_length e.kind) h where
      by : (fits within short misnamed : Bool)
          → unless fits 18 (unless within 19 (unless short 22 (unless (not misnamed) 23 (gives (map_event (bytes_of bytes) e))))) ≡ refuses 0
          → ⊥
      by true true true true k = let z : ◌≡◌ {A = ℕ} 0 23 = cc in omega arith
      by true true true false k = let z : ◌≡◌ {A = ℕ} 0 1 = cc in omega arith
      by true true false misnamed k = let z : ◌≡◌ {A = ℕ} 0 22 = cc in omega arith
      by true false short misnamed k = let z : ◌≡◌ {A = ℕ} 0 19 = cc in omega arith
      by false within short misnamed k = let z : ◌≡◌ {A = ℕ} 0 18 = cc in omega arith

pub row_number : (rules : Rules) (bytes r : List ℕ) → row_judged rules bytes r ≡ refuses 0 → ⊥
unfolding row_judged
row_number rules bytes r h =
    by_answer (event_of_row r) (λ e k. legal_number rules bytes e (rw k at h))
    (λ n (k : event_of_row r ≡ refuses n). let q : n ≡ 18 = (is_none r k).1 in let p : ◌≡◌ {A = Answer (Event (List ℕ))} (refuses n) (refuses 0) = rw k at h in let w : n ≡ 0 = cc in omega (arith, q, w))

raw_number : (j : Answer (Event (List ℕ))) → refuses 0 ≡ raw_judged j → j ≡ refuses 0
unfolding raw_judged
raw_number (gives e) q = let z : ◌≡◌ {A = ℕ} 0 1 = cc in absurd (omega arith)
raw_number (refuses n) q = let w : n ≡ 0 = cc in ap refuses w

-- so that an event which a door let through is sound
pub told : (bytes : List ℕ) (j : Answer (Event (List ℕ))) → (j ≡ refuses 0 → ⊥) → (d : Result RawEvent Refusal) → judged_said bytes d ≡ raw_judged j → LetThrough bytes d
told bytes j numbered (Err n) h = tt
told bytes j numbered (Ok r) h =
    by_test (ltb r.delta.0 (2 ^ 28) && is_sound bytes r.raw)
    (λ t. let p = both (ltb r.delta.0 (2 ^ 28)) (is_sound bytes r.raw) t in (ltb-true _ _ p.0, p.1))
    (λ t. absurd (numbered (raw_number j (rw t at h))))

-- and says what it is
pub said_raw : (bytes : List ℕ) (j : Result RawEvent Refusal) (e : RawEvent) → j ≡ Ok e → LetThrough bytes j → judged_said bytes j ≡ gives (raw_event e.delta.0 (wire_of bytes e.raw))
said_raw bytes j e is t =
    let p : LetThrough bytes (Ok e) = rw is at t in
    rw (is, lt-ltb e.delta.0 (2 ^ 28) p.0, p.1)
