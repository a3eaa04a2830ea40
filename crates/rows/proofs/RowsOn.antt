-- Rows one behind the other: the row at a cell and those behind it, and what a loop keeps that looks whether rows are events'.
use mathlib.Core.Path.{◌≡◌, refl, sym, ap, ◌∙◌}
use mathlib.Core.Bool.{Bool, true, false, ◌&&◌}
use mathlib.Core.List.{List, ◌∷◌}
use Prim.Native.Nat.{ℕ, zero, suc, ◌+◌, ◌-◌, ◌*◌, ◌<◌, ◌≤◌}
use native.Mathlib.Omega.{arith}
use lib.ListN.{length, take, drop}
use lib.Seq.{drop-drop}
use Rattle.rows.specs.Rows.{width}
use Rattle.rows.specs.RowEvent.{is_row, called_row}
use Rattle.rows.specs.RowLists.{called_rows, are_rows}

-- the row at a cell, and those behind it
module _ (cells : List ℕ) (at : ℕ) {left : ℕ} (more : 0 < left) where
  one_more : left ≡ suc (left - 1)
  one_more = omega arith

  pub rows_on : are_rows left (drop at cells) ≡ (is_row (take width (drop at cells)) && are_rows (left - 1) (drop (at + width) cells))
  unfolding are_rows
  rows_on = ap (λ (n : ℕ). are_rows n (drop at cells)) one_more ∙ ap (λ (l : List ℕ). is_row (take width (drop at cells)) && are_rows (left - 1) l) (drop-drop width at cells)

  pub records_on : called_rows left (drop at cells) ≡ called_row (take width (drop at cells)) ∷ called_rows (left - 1) (drop (at + width) cells)
  unfolding called_rows
  records_on = ap (λ (n : ℕ). called_rows n (drop at cells)) one_more ∙ ap (λ (l : List ℕ). called_row (take width (drop at cells)) ∷ called_rows (left - 1) l) (drop-drop width at cells)

-- the rows before the place are events'
pub record Looked (count : ℕ) (cells : List ℕ) (at left : ℕ) : Type 0 where
  pub within : at + left * width ≡ count * width
  pub told : are_rows count cells ≡ are_rows left (drop at cells)

pub looked_first : (count : ℕ) (cells : List ℕ) → Looked count cells 0 count
looked_first count cells = record { within = omega arith; told = refl }

module _ {count : ℕ} {cells : List ℕ} {at left : ℕ} (g : Looked count cells at left) where
  pub looked_none : 0 < left → is_row (take width (drop at cells)) ≡ false → false ≡ are_rows count cells
  looked_none more h = sym (g.told ∙ rows_on cells at more ∙ ap (λ (t : Bool). t && are_rows (left - 1) (drop (at + width) cells)) h)

  pub looked_more : 0 < left → is_row (take width (drop at cells)) ≡ true → Looked count cells (at + width) (left - 1)
  looked_more more h =
      record { within = omega (arith, g.within); told = g.told ∙ rows_on cells at more ∙ ap (λ (t : Bool). t && are_rows (left - 1) (drop (at + width) cells)) h }

  pub looked_last : left ≤ 0 → true ≡ are_rows count cells
  unfolding are_rows
  looked_last h = let e : left ≡ 0 = omega arith in sym (g.told ∙ ap (λ (n : ℕ). are_rows n (drop at cells)) e)

-- so many rows are so many events
pub records_length : (n : ℕ) (cells : List ℕ) → length (called_rows n cells) ≡ n
unfolding called_rows
records_length zero cells = refl
records_length (suc n) cells = ap suc (records_length n (drop width cells))
