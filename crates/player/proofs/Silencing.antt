-- What silences: a list of `NoteOff`s, one for each of the places that sound. It fits a list, each of its events is legal and one that the player takes,
-- and it makes 0 of what it names and of nothing else.
use mathlib.Core.Path.{◌≡◌, refl, ap, ◌∙◌}
use mathlib.Core.Bool.{Bool, true, false, ◌&&◌, ◌||◌, or-true}
use mathlib.Core.List.Memᴰ
use mathlib.Core.List.{List, [], ◌∷◌, map, Memᴰ}
use mathlib.Core.Logic.{⊎_elim}
use Prim.Native.Nat.{ℕ, zero, suc, ◌+◌, ◌-◌, ◌/◌, ◌%◌, ◌≤◌, ◌<◌}
use native.Mathlib.Omega.{arith}
use borrow.Author.Tests.{lt-ltb, le-leb, ne_eqb, eq-eqb}
use lib.Dec.{eqb, ltb}
use lib.ListN.{length, take, get_or, length-map, length-take}
use lib.Seq.{take_all}
use Rattle.smf.specs.Answer.{pick, gives, Rules}
use Rattle.smf.specs.Place.{inside, bytes_of}
use Rattle.smf.specs.Event.{map_event, message_fits, kind_fits, carries, legal}
use Rattle.smf.specs.Lists.{records_judged}
use Rattle.smf.proofs.Answer.{pick_test, pick_both}
use Rattle.rows.specs.Rows.{event_row}
use Rattle.rows.specs.RowEvent.{are_bytes, fields_fit, is_row, row_message, row_kind, called_row, event_of_row}
use Rattle.rows.specs.Kept.{AllKept}
use Rattle.player.specs.Table.{channels, keys, Table, entry, numbers_from, fresh, places, key_place, velocity_at}
use Rattle.player.specs.Notes.{message_note, kind_note, stays, becomes, change_by, last_of, last_note, changed, table_after}
use Rattle.player.specs.Widths.{message_within, kind_within, event_within, all_within}
use Rattle.player.specs.Sounding.{sounding_of, sounding_from, note_off_at, silence_from}
use Rattle.player.proofs.Tables.{table_same, same_or_other}
use Rattle.player.proofs.Places.{place_channel, place_key, channel_back, key_back}
use Rattle.player.proofs.Joined.{entry_after}

-- each of some places is one of the table's
abbrev pub Placed : List ℕ → Type 0
Placed [] = Unit {0}
Placed (p ∷ ps) = (p < places) × Placed ps

placed_of : (t : Table) (i n : ℕ) → n ≤ places - i → Placed (sounding_of t (numbers_from i n))
unfolding sounding_of numbers_from
placed_of t i zero h = tt
placed_of t i (suc n) h =
    let more : Placed (sounding_of t (numbers_from (suc i) n)) = placed_of t (suc i) n (omega arith) in
    pick_test Placed (eqb (velocity_at t i) 0) (λ z. more) (λ z. (omega arith, more))

placed_take : (n : ℕ) (ps : List ℕ) → Placed ps → Placed (take n ps)
placed_take zero ps h = tt
placed_take (suc n) [] h = tt
placed_take (suc n) (p ∷ ps) h = (h.0, placed_take n ps h.1)

pub placed_at : (ps : List ℕ) (j : ℕ) → Placed ps → j < length ps → get_or ps j 0 < places
placed_at [] j h l = absurd (omega arith)
placed_at (p ∷ ps) zero h l = h.0
placed_at (p ∷ ps) (suc j) h l = placed_at ps j h.1 (omega arith)

pub placed_mem : (ps : List ℕ) (p : ℕ) → Placed ps → Memᴰ p ps → p < places
placed_mem [] p h m = absurd (Memᴰ.not-nil m)
placed_mem (q ∷ ps) p h m = ⊎_elim (λ (e : p ≡ q). rw e h.0) (placed_mem ps p h.1) (Memᴰ.cases_cons m)

-- the places that a silencing list names
abbrev pub silenced : ℕ → Table → ℕ → List ℕ
silenced most t place = take most (sounding_from t place)

pub placed : (most : ℕ) (t : Table) (place : ℕ) → Placed (silenced most t place)
unfolding sounding_from
placed most t place = placed_take most (sounding_from t place) (placed_of t place (places - place) (omega arith))

-- It fits

pub silence_length : (most : ℕ) (t : Table) (place : ℕ) → length (silence_from most t place) ≡ length (silenced most t place)
unfolding silence_from
silence_length most t place = length-map (silenced most t place) note_off_at

pub silence_fits : (most : ℕ) (t : Table) (place : ℕ) → length (silence_from most t place) ≤ most
silence_fits most t place = omega (arith, silence_length most t place ∙ length-take most (sounding_from t place))

-- Its events are legal

channel_fits : (p : ℕ) → p < places → ltb (p / keys) 16 ≡ true
channel_fits p h = lt-ltb (p / keys) 16 (place_channel p h)

key_fits : (p : ℕ) → ltb (p % keys) 128 ≡ true
key_fits p = lt-ltb (p % keys) 128 (place_key p)

module _ (rules : Rules) (bytes : List ℕ) where
  off_legal : (p : ℕ) → p < places → legal rules bytes (note_off_at p) ≡ gives (map_event (bytes_of bytes) (note_off_at p))
  unfolding legal kind_fits message_fits carries inside
  off_legal p h = rw (channel_fits p h, key_fits p, le-leb 0 (length bytes) (omega arith))

  offs_legal : (ps : List ℕ) → Placed ps → records_judged rules bytes (map note_off_at ps) ≡ map gives (map (map_event (bytes_of bytes)) (map note_off_at ps))
  offs_legal [] h = refl
  offs_legal (p ∷ ps) h = rw (off_legal p h.0, offs_legal ps h.1)

  -- each is legal, by any rules and over any payload bytes, of which it has none
  pub silence_legal : (most : ℕ) (t : Table) (place : ℕ)
      → records_judged rules bytes (silence_from most t place) ≡ map gives (map (map_event (bytes_of bytes)) (silence_from most t place))
  unfolding silence_from
  silence_legal most t place = offs_legal (silenced most t place) (placed most t place)

-- The player takes it

offs_within : (ps : List ℕ) → Placed ps → all_within (map note_off_at ps) ≡ true
unfolding all_within event_within kind_within message_within
offs_within [] h = refl
offs_within (p ∷ ps) h = rw (channel_fits p h.0, key_fits p) (offs_within ps h.1)

pub silence_within : (most : ℕ) (t : Table) (place : ℕ) → all_within (silence_from most t place) ≡ true
unfolding silence_from
silence_within most t place = offs_within (silenced most t place) (placed most t place)

-- Its rows are taken back as it

off_kept : (p : ℕ) → p < places → event_of_row (event_row (note_off_at p)) ≡ gives (note_off_at p)
unfolding event_of_row is_row fields_fit are_bytes called_row row_kind row_message
off_kept p h = rw (lt-ltb (p / keys) 256 (omega arith), lt-ltb (p % keys) 256 (omega arith))

offs_kept : (ps : List ℕ) → Placed ps → AllKept (map note_off_at ps)
offs_kept [] h = tt
offs_kept (p ∷ ps) h = (off_kept p h.0, offs_kept ps h.1)

pub silence_kept : (most : ℕ) (t : Table) (place : ℕ) → AllKept (silence_from most t place)
unfolding silence_from
silence_kept most t place = offs_kept (silenced most t place) (placed most t place)

-- What it leaves

-- whether the key of a channel is at one of some places
unfoldable pub at : ℕ → ℕ → List ℕ → Bool
at channel key [] = false
at channel key (p ∷ ps) = (eqb (p / keys) channel && eqb (p % keys) key) || at channel key ps

last_off : (a b : Bool) → last_of (pick a (becomes 0) stays) (pick b (becomes 0) stays) ≡ pick (a || b) (becomes 0) stays
unfolding last_of
last_off true true = refl
last_off true false = refl
last_off false true = refl
last_off false false = refl

last_of_offs : (channel key : ℕ) (ps : List ℕ) → last_note channel key (map note_off_at ps) ≡ pick (at channel key ps) (becomes 0) stays
unfolding last_note kind_note message_note change_by at
last_of_offs channel key [] = refl
last_of_offs channel key (p ∷ ps) = rw (last_of_offs channel key ps) (last_off (eqb (p / keys) channel && eqb (p % keys) key) (at channel key ps))

changed_off : (v : ℕ) (a : Bool) → changed v (pick a (becomes 0) stays) ≡ pick a 0 v
changed_off v true = refl
changed_off v false = refl

changed_silenced : (most : ℕ) (t : Table) (place channel key : ℕ)
    → changed (entry t channel key) (last_note channel key (silence_from most t place)) ≡ pick (at channel key (silenced most t place)) 0 (entry t channel key)
unfolding silence_from
changed_silenced most t place channel key =
    ap (changed (entry t channel key)) (last_of_offs channel key (silenced most t place))
    ∙ changed_off (entry t channel key) (at channel key (silenced most t place))

-- 0 for the keys that it names, and the others as before
pub entry_silenced : (most : ℕ) (t : Table) (place channel key : ℕ) → channel < channels → key < keys
    → entry (table_after t (silence_from most t place)) channel key ≡ pick (at channel key (silenced most t place)) 0 (entry t channel key)
entry_silenced most t place channel key hc hk =
    entry_after t (silence_from most t place) channel key hc hk ∙ changed_silenced most t place channel key

-- Nothing is left where all that sounds is named

-- a place that sounds is among those that sound
pub sounds_among : (t : Table) (i n p : ℕ) → i ≤ p → p < i + n → (velocity_at t p ≡ 0 → ⊥) → Memᴰ p (sounding_of t (numbers_from i n))
unfolding sounding_of numbers_from
sounds_among t i zero p h h' s = absurd (omega arith)
sounds_among t i (suc n) p h h' s =
    ⊎_elim
    (λ (e : i ≡ p). rw (e, ne_eqb (velocity_at t p) 0 s) (Memᴰ.head refl))
    (λ (other : i ≡ p → ⊥).
    let later : suc i ≤ p = omega arith in
    let more = sounds_among t (suc i) n p later (omega arith) s in
    pick_test (Memᴰ p) (eqb (velocity_at t i) 0) (λ z. more) (λ z. Memᴰ.tail more))
    (same_or_other i p)

among_at : (p : ℕ) (ps : List ℕ) → Memᴰ p ps → at (p / keys) (p % keys) ps ≡ true
unfolding at
among_at p [] m = absurd (Memᴰ.not-nil m)
among_at p (q ∷ ps) m =
    ⊎_elim
    (λ (e : p ≡ q). rw (e, eq-eqb (q / keys) (q / keys) refl, eq-eqb (q % keys) (q % keys) refl))
    (λ (later : Memᴰ p ps). rw (among_at p ps later) (or-true (eqb (q / keys) (p / keys) && eqb (q % keys) (p % keys))))
    (Memᴰ.cases_cons m)

-- with no more sounding than a list holds, the list from the first place on leaves a fresh table
module _ (most : ℕ) (t : Table) (few : length (sounding_from t 0) ≤ most) where
  all_off : (channel key : ℕ) → channel < channels → key < keys → pick (at channel key (sounding_from t 0)) 0 (entry t channel key) ≡ 0
  unfolding sounding_from
  all_off channel key hc hk =
      ⊎_elim
      (λ (e : entry t channel key ≡ 0). pick_both (λ (v : ℕ). v ≡ 0) (at channel key (sounding_from t 0)) refl e)
      (λ (s : entry t channel key ≡ 0 → ⊥).
      let p = key_place channel key in
      let c = channel_back channel key hk in
      let k = key_back channel key hk in
      let named : at channel key (sounding_from t 0) ≡ true = rw (c, k) at (among_at p (sounding_from t 0) (sounds_among t 0 places p (omega arith) (omega arith) (rw (c, k) s))) in
      rw named)
      (same_or_other (entry t channel key) 0)

  pub silence_fresh : table_after t (silence_from most t 0) ≡ fresh
  unfolding table_after fresh silence_from
  silence_fresh = table_same _ _ (λ c k hc hk. changed_silenced most t 0 c k ∙ rw (take_all most (sounding_from t 0) few) (all_off c k hc hk))
