-- What the exported entries take and leave: ranges go over as cells, two for each.
use Rattle.std.specs.Prelude.{List, [], ◌∷◌, ℕ, ◌+◌, ◌*◌, get_or}
use Rattle.smf.specs.Answer.{Answer, gives, refuses}
use Rattle.smf.specs.Place.{Span}
use Rattle.smf.specs.Lists.{ListAt}
use Rattle.loader.specs.Entry.{leaves}
use Rattle.loader_track.specs.Lists.{sheet_put, read_answer}
use Rattle.bank.specs.Read.{ranges}

-- the cells of ranges: the start and the length of each
unfoldable pub cells_of : List Span → List ℕ
cells_of [] = []
cells_of (range ∷ more) = range.start ∷ range.length ∷ cells_of more

-- the range of an index, in cells
unfoldable pub range_in : List ℕ → ℕ → Span
range_in cells i = record { start = get_or cells (2 * i) 0; length = get_or cells (2 * i + 1) 0 }

-- so many ranges, in cells
abbrev pub ranges_in : ℕ → List ℕ → List Span
ranges_in most cells = ranges (range_in cells) 0 most

-- Listing a track: what `apk_list_read` answers and leaves on the track's bytes by themselves; after a refusal of the bank or of the index its number,
-- and everything as it came

-- the answer: why reading stopped, or 20 where the cells are too few
abbrev pub stop_answered : Answer ListAt → List ℕ → ℕ
stop_answered (gives l) cells = read_answer l cells
stop_answered (refuses n) cells = n

-- the cells at the end
abbrev pub list_cells : Answer ListAt → List ℕ → List ℕ
list_cells (gives l) cells = (sheet_put l cells).buffer
list_cells (refuses n) cells = cells

-- what a lent value holds at the end: its part of the list, where the cells are enough for the rows
abbrev pub list_leaves : (ListAt → ℕ) → Answer ListAt → List ℕ → ℕ → ℕ
list_leaves told (gives l) cells held = leaves (λ (n : ℕ). told l) (sheet_put l cells).answer held
list_leaves told (refuses n) cells held = held
