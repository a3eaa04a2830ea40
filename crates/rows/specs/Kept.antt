-- What was laid out as rows is taken back as it was.
use Rattle.std.specs.Prelude.{◌≡◌, true, List, [], ◌∷◌, ◌++◌, ℕ, length}
use Rattle.smf.specs.Answer.{gives}
use Rattle.smf.specs.Place.{Span}
use Rattle.smf.specs.Event.{Event}
use Rattle.rows.specs.Rows.{event_row}
use Rattle.rows.specs.RowEvent.{event_of_row}
use Rattle.rows.specs.RowLists.{called_rows, are_rows}
use Rattle.rows.specs.Sheet.{sheet_of}

-- each event comes back from its row; `Rattle.rows.proofs.Kept` shows it of every event of the code
abbrev pub AllKept : List (Event Span) → Type 0
AllKept [] = Unit {0}
AllKept (e ∷ es) = (event_of_row (event_row e) ≡ gives e) × AllKept es

-- the rows of a list, with anything behind them, are events', and the records of that list alone
pub record Kept : Type 0 where
  pub are_rows : (es : List (Event Span)) (behind : List ℕ) → AllKept es → are_rows (length es) (sheet_of es ++ behind) ≡ true
  pub reads_back : (es : List (Event Span)) (behind : List ℕ) → AllKept es → called_rows (length es) (sheet_of es ++ behind) ≡ es
