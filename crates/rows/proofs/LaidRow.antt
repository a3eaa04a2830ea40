-- What a loop that lays a row into cells keeps: the first i cells of the row stand at the place, and every other cell as it was.
-- The code lays a row by `copy_from_slice`, which says the same at once; the law is kept since the pages named it.
use mathlib.Core.Path.{◌≡◌, sym, ap, ◌∙◌}
use mathlib.Core.List.{List, append_assoc}
use Prim.Native.Nat.{ℕ, ◌+◌, ◌≤◌, ◌<◌}
use native.Mathlib.Numerals.{add-one}
use native.Mathlib.Omega.{arith}
use lib.ListN.{length, take, drop, set, get_or}
use lib.Seq.{paste, paste-zero, paste-suc, length-paste, length-take-le, take-length}
use Rattle.smf.specs.Write.{over}
use Rattle.rows.specs.Rows.{width}

-- a copy of a list's first elements is a write of them
pasted : (d : List ℕ) (at : ℕ) (s : List ℕ) (n : ℕ) → n ≤ length s → paste d at s n ≡ over (take n s) d at
pasted d at s n h = append_assoc (take at d) (take n s) (drop (at + n) d) ∙ rw (length-take-le n s h)

module _ (cells : List ℕ) (at : ℕ) (row : List ℕ) where
  pub record Laid (rows : List ℕ) (i : ℕ) : Type 0 where
    pub within : i ≤ width
    pub front : rows ≡ paste cells at row i

  pub laid_first : Laid cells 0
  laid_first = record { within = omega arith; front = paste-zero cells at row }

  module _ (there : at + width ≤ length cells) (whole : length row ≡ width) {rows : List ℕ} {i : ℕ} (l : Laid rows i) where
    -- the cells stay as many
    pub laid_length : length rows ≡ length cells
    laid_length = ap length l.front ∙ length-paste cells at row i (omega (arith, l.within)) (omega (arith, l.within))

    pub laid_more : i < width → Laid (set rows (at + i) (get_or row i 0)) (i + 1)
    laid_more more =
        record { within = omega arith; front = rw (add-one i, l.front) (paste-suc cells at row i 0 (omega arith) (omega arith)) }

    pub laid_all : width ≤ i → rows ≡ over row cells at
    laid_all last =
        let all : i ≡ width = omega (arith, l.within) in
        let itself : take width row ≡ row = ap (λ (n : ℕ). take n row) (sym whole) ∙ take-length row in
        l.front ∙ rw all (pasted cells at row width (omega arith)) ∙ ap (λ (r : List ℕ). over r cells at) itself
