-- What reading, measuring and writing lists leave the caller with: a list is a sheet, rows of numbers.
use Rattle.std.specs.Prelude.{List, ℕ}
use Rattle.smf.specs.Answer.{Answer, gives, refuses, Rules}
use Rattle.smf.specs.Write.{Written, put}
use Rattle.smf.specs.Lists.{Stop, ended, full, stopped, ListAt, list_at, ListAnswer, wrote, refuses_at, ListSize, size_list, ListWritten, write_list}
use Rattle.track.specs.List.{capacity}
use Rattle.rows.specs.Sheet.{sheet_of}
use Rattle.rows.specs.RowLists.{rows_judged}
use Rattle.loader.specs.Entry.{from_bits}

-- Reading

-- why reading stopped, as a number: 0 at the end, 255 full, else the refusal's number
abbrev pub stop_number : Stop → ℕ
stop_number ended = 0
stop_number full = 255
stop_number (stopped n) = n

-- the list at a place, by the bits of the rules
abbrev pub list_given : ℕ → ℕ → List ℕ → ℕ → ListAt
list_given bits running bytes at = list_at (from_bits bits) capacity running bytes at

-- its rows, put into the cells from the first on; 20 where the cells are too few
abbrev pub sheet_put : ListAt → List ℕ → Written
sheet_put l cells = put (sheet_of l.events) cells 0

abbrev pub read_or : ℕ → Answer ℕ → ℕ
read_or stop (gives n) = stop
read_or stop (refuses n) = n

-- the answer: why reading stopped, or 20
abbrev pub read_answer : ListAt → List ℕ → ℕ
read_answer l cells = read_or (stop_number l.stop) (sheet_put l cells).answer

-- Writing

-- how long the bytes of so many rows' events are; document 01: 1, 21, then the first illegal event. A row that is no event's, or that is not all there, is one
abbrev pub sheet_size : Rules → ℕ → List ℕ → List ℕ → ℕ → ListSize
sheet_size rules running payload cells count = size_list capacity running (rows_judged rules payload count cells) count

-- what writing so many rows' events leaves; document 01: in that order, then 20 where there is no room
abbrev pub sheet_written : Rules → ℕ → List ℕ → List ℕ → ℕ → List ℕ → ListWritten
sheet_written rules running payload cells count buffer = write_list capacity running (rows_judged rules payload count cells) count buffer

-- the answer: 0 where it is accepted, else the refusal's number
abbrev pub number_answered : ListAnswer → ℕ
number_answered (wrote n) = 0
number_answered (refuses_at n i) = n

-- the length at the end; after a refusal, what was held
abbrev pub length_left : ListAnswer → ℕ → ℕ
length_left (wrote n) held = n
length_left (refuses_at n i) held = held

-- the index at the end: of the first illegal event, 0 for 1, 20, 21; where it is accepted, what was held
abbrev pub index_left : ListAnswer → ℕ → ℕ
index_left (wrote n) held = held
index_left (refuses_at n i) held = i
