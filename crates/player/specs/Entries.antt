-- What the exported entries take and leave: a table as its bytes, channel by channel, and a list as rows.
use Rattle.std.specs.Prelude.{◌&&◌, List, map, ℕ, leb, get_or, length, Err, Ok, Result}
use Rattle.smf.specs.Answer.{Answer, gives, refuses, unless, and_then}
use Rattle.smf.specs.Place.{Span}
use Rattle.smf.specs.Write.{Written, put}
use Rattle.smf.specs.Event.{Event}
use Rattle.rows.specs.RowLists.{are_rows, called_rows}
use Rattle.rows.specs.Sheet.{sheet_of}
use Rattle.loader.specs.Entry.{answered, leaves}
use Rattle.base.specs.Refusal.{number_of}
use Rattle.base.specs.declared.Refusal.{Refusal}
use Rattle.player.specs.Table.{Table, numbers_from, table_of, places, key_place, velocity_at}
use Rattle.player.specs.Notes.{table_after}
use Rattle.player.specs.Widths.{all_within}
use Rattle.player.specs.Answers.{Beside, with_number, beside}

-- the table that bytes are: those of channel 0 by key, then those of channel 1, and so on
unfoldable pub table_in : List ℕ → Table
table_in bytes = table_of (λ channel key. get_or bytes (key_place channel key) 0)

-- the bytes of a table
unfoldable pub bytes_in : Table → List ℕ
bytes_in t = map (velocity_at t) (numbers_from 0 places)

-- the events of so many rows: 21 above what a list holds, then 18 where a row is no event's, or a delta or restricted field is above its width
unfoldable pub rows_accepted : ℕ → List ℕ → ℕ → Answer (List (Event Span))
rows_accepted most cells count =
    unless (leb count most) 21
    (unless (are_rows count cells && all_within (called_rows count cells)) 18 (gives (called_rows count cells)))

-- the bytes after the events that are accepted; after a refusal as they came
abbrev pub bytes_beside : List ℕ → Answer (List (Event Span)) → Beside (List ℕ)
bytes_beside bytes accepted = beside bytes (and_then accepted (λ (es : List (Event Span)). gives (bytes_in (table_after (table_in bytes) es))))

-- what is answered of bytes: those of the table after the rows; after a refusal as they came
abbrev pub bytes_said : List ℕ → Result (List ℕ) Refusal → Beside (List ℕ)
bytes_said bytes (Ok end) = with_number end 0
bytes_said bytes (Err n) = with_number bytes (number_of n)

-- what is left in the cells and behind the count, and the number answered
pub record CellsLeft : Type 0 where
  pub cells : List ℕ
  pub count : ℕ
  pub number : ℕ

-- these cells, this count and this number
abbrev pub cells_left : List ℕ → ℕ → ℕ → CellsLeft
cells_left cells count number = record { cells = cells; count = count; number = number }

-- what is answered of cells that rows were put into: how many rows, or a refusal, and then the count is 0
abbrev pub cells_said : List ℕ → Result ℕ Refusal → CellsLeft
cells_said cells (Ok n) = cells_left cells n 0
cells_said cells (Err n) = cells_left cells 0 (number_of n)

-- so many rows were put, or there was no room for them and none was
abbrev pub rows_put : ℕ → Written → CellsLeft
rows_put many w = cells_left w.buffer (leaves (λ (next : ℕ). many) w.answer 0) (answered w.answer)

-- the rows of a list, put into cells from the first on, and how many they are: 20 where the cells are too few; after a refusal an empty list, so that
-- every cell is as it came and the count is 0
unfoldable pub silence_left : Answer (List (Event Span)) → List ℕ → CellsLeft
silence_left (gives es) cells = rows_put (length es) (put (sheet_of es) cells 0)
silence_left (refuses n) cells = cells_left cells 0 n
