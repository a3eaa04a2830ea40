-- What the exported entries answer, of what the functions that they call answered.
use mathlib.Core.Path.{◌≡◌, refl, ap}
use mathlib.Core.Bool.{Bool, true, false, ◌&&◌}
use mathlib.Core.List.{List, []}
use Prim.Native.Nat.{ℕ, ◌*◌, ◌≤◌, ◌<◌}
use native.Mathlib.Omega.{arith}
use borrow.Author.Tests.{le-leb, lt-leb}
use lib.ListN.{length, take}
use lib.Seq.{take_at}
use Rattle.smf.specs.Answer.{gives, unless, and_then}
use Rattle.smf.specs.Place.{Span}
use Rattle.smf.specs.Event.{Event}
use Rattle.smf.specs.Write.{over}
use Rattle.smf.specs.Lists.{Held, holding}
use Rattle.smf.proofs.Write.{put_fits, put_full}
use Rattle.rows.specs.Rows.{width}
use Rattle.rows.specs.RowLists.{are_rows, called_rows}
use Rattle.rows.specs.Sheet.{sheet_of}
use Rattle.rows.proofs.RowCells.{sheet_length}
use Rattle.rows.proofs.RowsOn.{records_length}
use Rattle.player.specs.Table.{Table, key_place}
use Rattle.player.specs.Notes.{table_after}
use Rattle.player.specs.Widths.{within, all_within, accepted}
use Rattle.player.specs.Sounding.{silence_from, silence}
use Rattle.player.specs.Answers.{Beside, with_number, beside, table_beside, list_beside}
use Rattle.player.specs.Entries.{table_in, bytes_in, rows_accepted, bytes_beside, cells_left, silence_left}
use Rattle.player.proofs.Silencing.{silence_fits}
use Rattle.player.proofs.Taking.{RowsTaken}

-- An answer with its number beside it

module _ {A E : Type 0} (other v : A) (f : E → A) (e : E) (n : ℕ) where
  -- it was given, or refused by 18 where a test does not hold
  abbrev Tested : Bool → Type 0
  Tested b = with_number v n ≡ beside other (and_then (unless b 18 (gives e)) (λ (x : E). gives (f x)))

  was_given : (b : Bool) → Tested b → n ≡ 0 → (b ≡ true) × (v ≡ f e)
  unfolding beside
  was_given true h none = (refl, ap (λ (x : Beside A). x.value) h)
  was_given false h none = absurd (omega (arith, ap (λ (x : Beside A). x.number) h))

  was_refused : (b : Bool) → Tested b → (n ≡ 0 → ⊥) → (b ≡ false) × (n ≡ 18)
  unfolding beside
  was_refused true h some = absurd (some (ap (λ (x : Beside A). x.number) h))
  was_refused false h some = (refl, ap (λ (x : Beside A). x.number) h)

-- a list that holds these events: how many it counts, and what it counts
module _ (most : ℕ) (es : List (Event Span)) (held : Held) (h : held ≡ holding most es) where
  held_count : held.count ≡ length es
  unfolding holding
  held_count = ap (λ (l : Held). l.count) h

  counted_held : take held.count held.records ≡ es
  unfolding holding
  counted_held = rw h (take_at es _ (length es) refl)

-- `apk_sounding_after`

module _ (cap count : ℕ) (cells bytes : List ℕ) where
  abbrev Asked : Beside (List ℕ)
  Asked = bytes_beside bytes (rows_accepted cap cells count)

  pub rows_many : cap < count → with_number bytes 21 ≡ Asked
  unfolding rows_accepted beside
  rows_many h = rw (lt-leb count cap h)

  module _ (few : count ≤ cap) (held : Held) (n : ℕ) (rows : with_number held n ≡ RowsTaken cap count cells) where
    pub rows_none : (n ≡ 0 → ⊥) → with_number bytes n ≡ Asked
    unfolding rows_accepted beside
    rows_none some =
        let r = was_refused (holding cap []) held (holding cap) (called_rows count cells) n (are_rows count cells) rows some in
        rw (le-leb count cap few, r.0, r.1)

    module _ (none : n ≡ 0) (t : Table) (m : ℕ) (played : with_number t m ≡ table_beside (table_in bytes) (accepted cap held.records held.count)) where
      given : (are_rows count cells ≡ true) × (held ≡ holding cap (called_rows count cells))
      given = was_given (holding cap []) held (holding cap) (called_rows count cells) n (are_rows count cells) rows none

      answered : with_number t m ≡ table_beside (table_in bytes) (unless (all_within (called_rows count cells)) 18 (gives (called_rows count cells)))
      unfolding accepted
      answered =
          let many : held.count ≤ cap = omega (arith, held_count cap (called_rows count cells) held given.1, records_length count cells) in
          rw (le-leb held.count cap many, counted_held cap (called_rows count cells) held given.1) at played

      pub rows_above : (m ≡ 0 → ⊥) → with_number bytes m ≡ Asked
      unfolding rows_accepted beside
      rows_above some =
          let r = was_refused (table_in bytes) t (table_after (table_in bytes)) (called_rows count cells) m (all_within (called_rows count cells)) answered some in
          rw (le-leb count cap few, given.0, r.0, r.1)

      pub rows_entered : m ≡ 0 → (end : List ℕ) → end ≡ bytes_in t → with_number end 0 ≡ Asked
      unfolding rows_accepted beside
      rows_entered ok end is =
          let r = was_given (table_in bytes) t (table_after (table_in bytes)) (called_rows count cells) m (all_within (called_rows count cells)) answered ok in
          rw (le-leb count cap few, given.0, r.0, is, r.1)

-- `apk_sounding_silence`

module _ (cap : ℕ) (t : Table) (channel key : ℕ) (held : Held) (n : ℕ) (said : with_number held n ≡ list_beside cap (silence cap t channel key)) where
  abbrev off : List (Event Span)
  off = silence_from cap t (key_place channel key)

  abbrev Fits : Bool
  Fits = within 4 channel && within 7 key

  pub silence_refused : (n ≡ 0 → ⊥) → (cells : List ℕ) → cells_left cells 0 n ≡ silence_left (silence cap t channel key) cells
  unfolding silence silence_left
  silence_refused some cells = let r = was_refused (holding cap []) held (holding cap) off n Fits said some in rw (r.0, r.1)

  module _ (none : n ≡ 0) where
    silence_given : (Fits ≡ true) × (held ≡ holding cap off)
    unfolding silence
    silence_given = was_given (holding cap []) held (holding cap) off n Fits said none

    silence_count : held.count ≡ length off
    silence_count = held_count cap off held silence_given.1

    pub silence_few : held.count ≤ cap
    silence_few = omega (arith, silence_count, silence_fits cap t (key_place channel key))

    module _ (cells : List ℕ) where
      pub silence_no_room : length cells < held.count * width → cells_left cells 0 20 ≡ silence_left (silence cap t channel key) cells
      unfolding silence silence_left
      silence_no_room h = rw (silence_given.0, ← put_full (sheet_of off) cells 0 (omega (arith, sheet_length off, silence_count)))

      pub silence_put : held.count * width ≤ length cells → (end : List ℕ) → end ≡ over (sheet_of (take held.count held.records)) cells 0
          → cells_left end held.count 0 ≡ silence_left (silence cap t channel key) cells
      unfolding silence silence_left
      silence_put h end is =
          rw (silence_given.0, ← put_fits (sheet_of off) cells 0 (omega (arith, sheet_length off, silence_count)), is, counted_held cap off held silence_given.1, silence_count)
