-- The rows of a list are taken back as that list.
use mathlib.Core.Path.{◌≡◌, refl, ap, ap₂, ◌∙◌}
use mathlib.Core.Bool.{Bool, true, ◌&&◌}
use mathlib.Core.List.{List, [], ◌∷◌, ◌++◌, append_assoc}
use Prim.Native.Nat.{ℕ}
use lib.ListN.{length, take, drop}
use lib.Seq.{take_at, drop_at}
use Rattle.smf.specs.Place.{Span}
use Rattle.smf.specs.Event.{Event}
use Rattle.rows.specs.Rows.{width, event_row}
use Rattle.rows.specs.RowEvent.{is_row, called_row}
use Rattle.rows.specs.RowLists.{called_rows, are_rows}
use Rattle.rows.proofs.Width.{row_length}
use Rattle.rows.proofs.IsRow.{is_event}
use Rattle.rows.specs.Sheet.{sheet_of}
use Rattle.rows.specs.Kept.{AllKept, Kept}

-- the first row, and the rows behind it
module _ (e : Event Span) (es : List (Event Span)) (behind : List ℕ) where
  first : take width ((event_row e ++ sheet_of es) ++ behind) ≡ event_row e
  first = ap (take width) (append_assoc (event_row e) (sheet_of es) behind) ∙ take_at (event_row e) (sheet_of es ++ behind) width (row_length e)

  rest : drop width ((event_row e ++ sheet_of es) ++ behind) ≡ sheet_of es ++ behind
  rest = ap (drop width) (append_assoc (event_row e) (sheet_of es) behind) ∙ drop_at (event_row e) (sheet_of es ++ behind) width (row_length e)

rows : (es : List (Event Span)) (behind : List ℕ) → AllKept es → are_rows (length es) (sheet_of es ++ behind) ≡ true
unfolding sheet_of are_rows
rows [] behind k = refl
rows (e ∷ es) behind k =
    ap₂ (λ (s t : Bool). s && t) (ap is_row (first e es behind) ∙ (is_event (event_row e) k.0).0) (ap (are_rows (length es)) (rest e es behind) ∙ rows es behind k.1)

back : (es : List (Event Span)) (behind : List ℕ) → AllKept es → called_rows (length es) (sheet_of es ++ behind) ≡ es
unfolding sheet_of called_rows
back [] behind k = refl
back (e ∷ es) behind k =
    let own = is_event (event_row e) k.0 in
    ap₂ (λ (x : Event Span) (xs : List (Event Span)). x ∷ xs) (ap called_row (first e es behind) ∙ own.1)
    (ap (called_rows (length es)) (rest e es behind) ∙ back es behind k.1)

pub kept : Kept
kept = record { are_rows = rows; reads_back = back }
