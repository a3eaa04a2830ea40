-- What the scan for sounding keys keeps: the events so far, and that the silencing list from the place on is what is left of it.
use mathlib.Core.Path.{◌≡◌, sym, ap, ◌∙◌}
use mathlib.Core.List.{List, [], ◌∷◌, ◌++◌, map, append_assoc, append-nil}
use Prim.Native.Nat.{ℕ, suc, ◌+◌, ◌-◌, ◌≤◌, ◌<◌}
use native.Mathlib.Numerals.{add-one}
use native.Mathlib.Omega.{arith}
use borrow.Author.Tests.{eq-eqb, ne_eqb}
use lib.Dec.{eqb}
use lib.ListN.{set, take}
use lib.Seq.{take-nil}
use Rattle.smf.specs.Answer.{pick}
use Rattle.smf.specs.Place.{Span}
use Rattle.smf.specs.Event.{Event}
use Rattle.smf.specs.Lists.{Held, holding}
use Rattle.track.specs.List.{record_of}
use Rattle.track.specs.declared.list.Record.{Record}
use Rattle.track.proofs.Held.{Holds, holds_more}
use Rattle.player.specs.Table.{Table, numbers_from, places, velocity_at}
use Rattle.player.specs.Sounding.{sounding_of, sounding_from, note_off_at, silence_from}

-- One place on

module _ (most : ℕ) (t : Table) (place : ℕ) where
  sounding_on : place < places → sounding_from t place ≡ pick (eqb (velocity_at t place) 0) (sounding_from t (place + 1)) (place ∷ sounding_from t (place + 1))
  unfolding sounding_from sounding_of numbers_from
  sounding_on more =
      let left : places - place ≡ suc (places - suc place) = omega arith in
      rw (add-one place, left)

  silence_past : places ≤ place → silence_from most t place ≡ []
  unfolding silence_from sounding_from sounding_of numbers_from
  silence_past last = let none : places - place ≡ 0 = omega arith in rw (none, take-nil {A = ℕ} most)

  silence_silent : place < places → velocity_at t place ≡ 0 → silence_from most t place ≡ silence_from most t (place + 1)
  unfolding silence_from
  silence_silent more silent = ap (λ (ps : List ℕ). map note_off_at (take most ps)) (sounding_on more ∙ rw (eq-eqb (velocity_at t place) 0 silent))

  silence_sounding : place < places → (velocity_at t place ≡ 0 → ⊥) → silence_from (suc most) t place ≡ note_off_at place ∷ silence_from most t (place + 1)
  unfolding silence_from
  silence_sounding more sounds =
      let on : sounding_from t place ≡ place ∷ sounding_from t (place + 1) = sounding_on more ∙ rw (ne_eqb (velocity_at t place) 0 sounds) in
      ap (λ (ps : List ℕ). map note_off_at (take (suc most) ps)) on

-- The scan

module _ (cap : ℕ) (t : Table) (from : ℕ) where
  pub record Scanned (xs : List Record) (n place : ℕ) : Type 0 where
    pub events : List (Event Span)
    pub held : Holds cap xs n events
    pub few : n ≤ cap
    pub sofar : silence_from cap t from ≡ events ++ silence_from (cap - n) t place

  pub scanned_first : (xs : List Record) (n : ℕ) → Holds cap xs n [] → Scanned xs n from
  unfolding holding
  scanned_first xs n h =
      let none : n ≡ 0 = ap (λ (l : Held). l.count) h in
      record { events = []; held = h; few = omega arith; sofar = ap (λ (m : ℕ). silence_from m t from) (omega arith) }

  module _ {xs : List Record} {n place : ℕ} (s : Scanned xs n place) where
    -- as many as a list holds, or no place left
    pub scanned_full : cap ≤ n → Holds cap xs n (silence_from cap t from)
    unfolding silence_from
    scanned_full full =
        let none : cap - n ≡ 0 = omega arith in
        rw (s.sofar, none, append-nil s.events) s.held

    pub scanned_all : places ≤ place → Holds cap xs n (silence_from cap t from)
    scanned_all last = rw (s.sofar, silence_past (cap - n) t place last, append-nil s.events) s.held

    pub scanned_silent : place < places → velocity_at t place ≡ 0 → Scanned xs n (place + 1)
    scanned_silent more silent =
        record { events = s.events; held = s.held; few = s.few; sofar = s.sofar ∙ ap (◌++◌ s.events) (silence_silent (cap - n) t place more silent) }

    pub scanned_sounding : n < cap → place < places → (velocity_at t place ≡ 0 → ⊥) → (x : Record) → record_of x ≡ note_off_at place → Scanned (set xs n x) (n + 1) (place + 1)
    scanned_sounding room more sounds x is =
        let left : cap - n ≡ suc (cap - (n + 1)) = omega arith in
        record {
          events = s.events ++ (note_off_at place ∷ []);
          held = rw is at (holds_more cap xs n s.events x room s.held);
          few = omega arith;
          sofar =
              s.sofar
              ∙ ap (λ (m : ℕ). s.events ++ silence_from m t place) left
              ∙ ap (◌++◌ s.events) (silence_sounding (cap - (n + 1)) t place more sounds)
              ∙ sym (append_assoc s.events (note_off_at place ∷ []) (silence_from (cap - (n + 1)) t (place + 1)));
        }
