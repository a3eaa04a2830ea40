-- What the loop that lays a list into cells keeps: the rows of the events so far stand in front.
use mathlib.Core.Path.{◌≡◌, refl, sym, ap, ◌∙◌}
use mathlib.Core.List.{List}
use Prim.Native.Nat.{ℕ, ◌+◌, ◌*◌, ◌≤◌, ◌<◌}
use native.Mathlib.Numerals.{add-one}
use native.Mathlib.Omega.{arith}
use borrow.Rule.Slice.PartMut.{put_mid}
use lib.ListN.{length, get_or, take}
use lib.Seq.{drop-drop, take-suc, length-take-le}
use Rattle.smf.specs.Place.{Span}
use Rattle.smf.specs.Event.{Event}
use Rattle.smf.specs.Write.{over}
use Rattle.rows.specs.Rows.{width, event_row}
use Rattle.rows.specs.Sheet.{sheet_of}
use Rattle.rows.proofs.RowCells.{sheet_over}

-- a row copied into its part of the cells
pub laid_row : (rows : List ℕ) (index n : ℕ) (row now : List ℕ) → now ≡ row → n ≡ length row → put_mid (index * width) n rows now ≡ over row rows (index * width)
laid_row rows index n row now is long = rw (is, long, drop-drop (length row) (index * width) rows)

module _ (es : List (Event Span)) (count : ℕ) (cells : List ℕ) (there : count ≤ length es) (room : count * width ≤ length cells) where
  pub record LaidRows (rows : List ℕ) (index : ℕ) : Type 0 where
    pub passed : index ≤ count
    pub rows_are : rows ≡ over (sheet_of (take index es)) cells 0

  pub laid_none : LaidRows cells 0
  unfolding sheet_of
  laid_none = record { passed = omega arith; rows_are = refl }

  module _ {rows : List ℕ} {index : ℕ} (l : LaidRows rows index) where
    own : length (take index es) ≡ index
    own = length-take-le index es (omega (arith, l.passed))

    pub rows_next : index < count → (d : Event Span) (end : List ℕ) → end ≡ over (event_row (get_or es index d)) rows (index * width) → LaidRows end (index + 1)
    rows_next more d end put =
        record {
          passed = omega arith;
          rows_are =
              put
              ∙ ap (λ (r : List ℕ). over (event_row (get_or es index d)) r (index * width)) l.rows_are
              ∙ sheet_over (take index es) (get_or es index d) cells index own
              ∙ ap (λ (xs : List (Event Span)). over (sheet_of xs) cells 0) (sym (ap (λ (n : ℕ). take n es) (add-one index) ∙ take-suc es index d (omega arith)));
        }

    pub rows_all : count ≤ index → rows ≡ over (sheet_of (take count es)) cells 0
    rows_all last = let all : index ≡ count = omega (arith, l.passed) in l.rows_are ∙ ap (λ (n : ℕ). over (sheet_of (take n es)) cells 0) all
