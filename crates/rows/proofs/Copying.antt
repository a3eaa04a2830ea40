-- What a loop that copies a row out of cells keeps: the first i cells of the row are those from a cell on.
use mathlib.Core.Path.{◌≡◌, sym, ap, ◌∙◌}
use mathlib.Core.List.{List}
use Prim.Native.Nat.{ℕ, ◌+◌, ◌≤◌, ◌<◌}
use native.Mathlib.Nat.{zero-add}
use native.Mathlib.Numerals.{add-one}
use native.Mathlib.Omega.{arith}
use lib.ListN.{length, take, drop, set, get_or, replicate, length-drop}
use lib.Seq.{paste, paste-zero, paste-suc, length-paste, take-paste, take-length, get_or-drop}
use Rattle.rows.specs.Rows.{width}

-- the row before its first cell
abbrev pub noughts : List ℕ
noughts = replicate width 0

module _ (cells : List ℕ) (at : ℕ) where
  pub record Copied (row : List ℕ) (i : ℕ) : Type 0 where
    pub within : i ≤ width
    pub front : row ≡ paste noughts 0 (drop at cells) i

  pub copied_first : Copied noughts 0
  copied_first = record { within = omega arith; front = paste-zero noughts 0 (drop at cells) }

  module _ (there : at + width ≤ length cells) {row : List ℕ} {i : ℕ} (c : Copied row i) where
    abbrev from : List ℕ
    from = drop at cells

    pub copied_more : i < width → Copied (set row i (get_or cells (at + i) 0)) (i + 1)
    copied_more more =
        record {
          within = omega arith;
          front =
              ap (λ (r : List ℕ). set r i (get_or cells (at + i) 0)) c.front
              ∙ ap (λ (v : ℕ). set (paste noughts 0 from i) i v) (sym (get_or-drop at cells i 0))
              ∙ ap (λ (k : ℕ). set (paste noughts 0 from i) k (get_or from i 0)) (sym (zero-add i))
              ∙ paste-suc noughts 0 from i 0 (omega arith) (omega (arith, length-drop at cells))
              ∙ ap (paste noughts 0 from) (sym (add-one i));
        }

    -- at the end the row is the one that starts there
    pub copied_all : width ≤ i → row ≡ take width (drop at cells)
    copied_all last =
        let all : i ≡ width = omega (arith, c.within) in
        let long : length row ≡ width = ap length c.front ∙ length-paste noughts 0 from i (omega (arith, c.within)) (omega (arith, length-drop at cells, c.within)) in
        let whole : take width row ≡ row = ap (λ (n : ℕ). take n row) (sym long) ∙ take-length row in
        sym whole
        ∙ ap (take width) c.front
        ∙ ap (λ (n : ℕ). take width (paste noughts 0 from n)) all
        ∙ take-paste noughts 0 from width (omega arith) (omega (arith, length-drop at cells))
