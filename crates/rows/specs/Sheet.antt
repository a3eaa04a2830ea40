-- A list of events as rows of numbers, by the layout of `Rattle.rows.specs.Rows`: one row behind the other.
use Rattle.std.specs.Prelude.{List, [], ◌∷◌, ◌++◌, ℕ}
use Rattle.smf.specs.Place.{Span}
use Rattle.smf.specs.Event.{Event}
use Rattle.rows.specs.Rows.{event_row}

-- the rows of events
unfoldable pub sheet_of : List (Event Span) → List ℕ
sheet_of [] = []
sheet_of (e ∷ es) = event_row e ++ sheet_of es
