-- What a player keeps while it goes through a list: the table is the one after the events so far, and they are within their widths.
use mathlib.Core.Path.{◌≡◌, refl, sym, ap, subst, ◌∙◌}
use mathlib.Core.Bool.{Bool, true, false, ◌&&◌, and_assoc, and-true}
use mathlib.Core.List.{List, [], ◌∷◌, ◌++◌}
use mathlib.Core.Logic.{⊎_elim}
use Prim.Native.Nat.{ℕ, ◌+◌, ◌-◌, ◌<◌, ◌≤◌}
use native.Mathlib.Numerals.{add-one}
use native.Mathlib.Omega.{arith}
use borrow.Author.Tests.{eq-eqb, ne_eqb, ltb-true}
use lib.ListN.{length, get_or, take, drop}
use lib.Seq.{take-suc, take-add}
use Rattle.smf.specs.Kind.{note_off, note_on, aftertouch, controller, program_change, channel_aftertouch, pitch_bend, Kind, midi, sys_ex, escape, meta}
use Rattle.smf.specs.Event.{Event}
use Rattle.smf.proofs.Answer.{both}
use Rattle.player.specs.Table.{channels, keys, Table, entry}
use Rattle.player.specs.Notes.{Note, no_such_note, note, message_note, kind_note, change_by, last_of, last_note, changed, table_after}
use Rattle.player.specs.Widths.{within, message_within, kind_within, event_within, all_within}
use Rattle.player.proofs.Tables.{Shaped, table_ext, table_of_entries, set_entry, shaped_set, entry_set_same, entry_set_key, entry_set_channel, same_or_other}
use Rattle.player.proofs.Joined.{shaped_after, entry_after, joined}

-- a table with the entry of a note message changed
unfoldable pub noted : Table → Note → Table
noted t no_such_note = t
noted t (note c k v) = set_entry t c k v

-- a note message for a channel and key of the table
pub data Inside : Note → Type 0 where
  no_note_inside : Inside no_such_note
  note_inside : {c k v : ℕ} → c < channels → k < keys → Inside (note c k v)

pub channel_inside : {c k v : ℕ} → Inside (note c k v) → c < channels
channel_inside (note_inside hc hk) = hc

pub key_inside : {c k v : ℕ} → Inside (note c k v) → k < keys
key_inside (note_inside hc hk) = hk

-- what one note message leaves is the table with its entry changed
entry_noted : {t : Table} → Shaped t → (n : Note) → Inside n → (c k : ℕ) → c < channels → k < keys → changed (entry t c k) (change_by c k n) ≡ entry (noted t n) c k
unfolding noted change_by
entry_noted h no_such_note i c k hc hk = refl
entry_noted {t} h (note c' k' v) (note_inside hc' hk') c k hc hk =
    ⊎_elim
    (λ (ce : c' ≡ c). ⊎_elim
    (λ (ke : k' ≡ k). rw (eq-eqb c' c ce, eq-eqb k' k ke, ← ce, ← ke) (sym (entry_set_same h c' k' v hc' hk')))
    (λ (kn : k' ≡ k → ⊥). rw (eq-eqb c' c ce, ne_eqb k' k kn, ← ce) (sym (entry_set_key h c' k' v hc' hk' k (λ e. kn (sym e)))))
    (same_or_other k' k))
    (λ (cn : c' ≡ c → ⊥). rw (ne_eqb c' c cn) (sym (entry_set_channel h c' k' v hc' hk' c k (λ e. cn (sym e)))))
    (same_or_other c' c)

shaped_noted : {t : Table} → Shaped t → (n : Note) → Inside n → Shaped (noted t n)
unfolding noted
shaped_noted h no_such_note i = h
shaped_noted h (note c k v) (note_inside hc hk) = shaped_set h c k v hc hk

after_none : (P : Type 0) {t : Table} → Shaped t → table_after {P = P} t [] ≡ t
unfolding table_after last_note
after_none P h = table_of_entries h

-- what one event leaves, where its note message is for a channel and key of the table
after_one : {P : Type 0} {t : Table} → Shaped t → (e : Event P) → Inside (kind_note e.kind) → table_after t (e ∷ []) ≡ noted t (kind_note e.kind)
unfolding last_note last_of
after_one {t = t} h e i =
    table_ext (shaped_after t (e ∷ [])) (shaped_noted h (kind_note e.kind) i)
    (λ c k hc hk. entry_after t (e ∷ []) c k hc hk ∙ entry_noted h (kind_note e.kind) i c k hc hk)

-- Widths

-- a note message whose fields are within their widths is for a channel and key of the table
pub within_inside : {P : Type 0} (k : Kind P) → kind_within k ≡ true → Inside (kind_note k)
unfolding kind_within kind_note message_within message_note
within_inside (midi channel (note_off key vel)) h =
    let b = both (within 4 channel) (within 7 key && within 7 vel) h in
    note_inside (ltb-true channel 16 b.0) (ltb-true key 128 (both (within 7 key) (within 7 vel) b.1).0)
within_inside (midi channel (note_on key vel)) h =
    let b = both (within 4 channel) (within 7 key && within 7 vel) h in
    note_inside (ltb-true channel 16 b.0) (ltb-true key 128 (both (within 7 key) (within 7 vel) b.1).0)
within_inside (midi channel (aftertouch key vel)) h = no_note_inside
within_inside (midi channel (controller number value)) h = no_note_inside
within_inside (midi channel (program_change program)) h = no_note_inside
within_inside (midi channel (channel_aftertouch vel)) h = no_note_inside
within_inside (midi channel (pitch_bend raw)) h = no_note_inside
within_inside (sys_ex p) h = no_note_inside
within_inside (escape p) h = no_note_inside
within_inside (meta m) h = no_note_inside

pub kind_of_within : {P : Type 0} (e : Event P) → event_within e ≡ true → kind_within e.kind ≡ true
unfolding event_within
kind_of_within e h = (both (within 28 e.delta) (kind_within e.kind) h).1

pub all_joined : {P : Type 0} (es fs : List (Event P)) → all_within (es ++ fs) ≡ (all_within es && all_within fs)
unfolding all_within
all_joined [] fs = refl
all_joined (e ∷ es) fs = ap (◌&&◌ (event_within e)) (all_joined es fs) ∙ sym (and_assoc (event_within e) (all_within es) (all_within fs))

-- Going through a list

module _ {P : Type 0} (t : Table) (es : List (Event P)) (count : ℕ) where
  pub record Played (index : ℕ) (u : Table) : Type 0 where
    pub passed : index ≤ count
    pub table : u ≡ table_after t (take index es)
    pub fits : all_within (take index es) ≡ true

  pub played_first : Shaped t → Played 0 t
  unfolding all_within
  played_first h = record { passed = omega arith; table = sym (after_none P h); fits = refl }

  module _ {index : ℕ} {u : Table} (p : Played index u) (d : Event P) (more : index < count) (there : count ≤ length es) where
    abbrev next : Event P
    next = get_or es index d

    ahead : take (index + 1) es ≡ take index es ++ (next ∷ [])
    ahead = ap (λ (n : ℕ). take n es) (add-one index) ∙ take-suc es index d (omega arith)

    fits_next : (b : Bool) → event_within next ≡ b → all_within (take (index + 1) es) ≡ b
    unfolding all_within
    fits_next b h = ap all_within ahead ∙ all_joined (take index es) (next ∷ []) ∙ rw (p.fits, h) (and-true b)

    played_more : event_within next ≡ true → Played (index + 1) (noted u (kind_note next.kind))
    played_more h =
        record {
          passed = omega arith;
          table =
              ap (λ (w : Table). noted w (kind_note next.kind)) p.table
              ∙ sym (after_one (shaped_after t (take index es)) next (within_inside next.kind (kind_of_within next h)))
              ∙ joined t (take index es) (next ∷ [])
              ∙ ap (table_after t) (sym ahead);
          fits = fits_next true h;
        }

    -- the same, of the table that the code makes
    pub played_note : event_within next ≡ true → (n : Note) → kind_note next.kind ≡ n → (w : Table) → w ≡ noted u n → Played (index + 1) w
    played_note h n is w e = subst (Played (index + 1)) (ap (noted u) is ∙ sym e) (played_more h)

    pub played_refused : event_within next ≡ false → all_within (take count es) ≡ false
    played_refused h =
        let all : count ≡ (index + 1) + (count - (index + 1)) = omega arith in
        ap (λ (n : ℕ). all_within (take n es)) all
        ∙ ap all_within (take-add (index + 1) (count - (index + 1)) es)
        ∙ all_joined (take (index + 1) es) (take (count - (index + 1)) (drop (index + 1) es))
        ∙ rw (fits_next false h)
