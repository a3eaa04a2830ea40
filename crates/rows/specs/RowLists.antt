-- Lists of rows, one row behind the other from the first cell on.
use Rattle.std.specs.Prelude.{Bool, true, ◌&&◌, List, [], ◌∷◌, ℕ, zero, suc, take, drop}
use Rattle.smf.specs.Answer.{Answer, Rules}
use Rattle.smf.specs.Place.{Span}
use Rattle.smf.specs.Event.{Event}
use Rattle.rows.specs.Rows.{width}
use Rattle.rows.specs.RowEvent.{is_row, called_row, row_judged}

-- so many rows as writers judge them, each by itself; a row that is not all there is no event's
unfoldable pub rows_judged : Rules → List ℕ → ℕ → List ℕ → List (Answer (Event (List ℕ)))
rows_judged rules bytes zero cells = []
rows_judged rules bytes (suc n) cells = row_judged rules bytes (take width cells) ∷ rows_judged rules bytes n (drop width cells)

-- whether so many rows are events'
unfoldable pub are_rows : ℕ → List ℕ → Bool
are_rows zero cells = true
are_rows (suc n) cells = is_row (take width cells) && are_rows n (drop width cells)

-- the events of so many rows that are events'
unfoldable pub called_rows : ℕ → List ℕ → List (Event Span)
called_rows zero cells = []
called_rows (suc n) cells = called_row (take width cells) ∷ called_rows n (drop width cells)
