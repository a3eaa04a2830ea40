-- What reading, measuring and writing an event leave the caller with: an event is a row of numbers.
use Rattle.std.specs.Prelude.{List, ℕ}
use Rattle.smf.specs.Answer.{Answer, Rules}
use Rattle.smf.specs.Event.{ReadAt, reads_at, refused_at, EventWritten, write_event}
use Rattle.write.specs.Size.{Size, size_event}
use Rattle.rows.specs.RowEvent.{row_judged}

-- the answer: 0 where an event was read, else the refusal's number
abbrev pub read_answered : ReadAt → ℕ
read_answered (reads_at e) = 0
read_answered (refused_at n used running padding) = n

-- the bytes used, which after a refusal are none
abbrev pub read_used : ReadAt → ℕ
read_used (reads_at e) = e.used
read_used (refused_at n used running padding) = used

-- the padding, which after a refusal is none
abbrev pub read_padding : ReadAt → ℕ
read_padding (reads_at e) = e.padding
read_padding (refused_at n used running padding) = padding

-- how long the bytes of a row's event are, and the running status after it; document 01: 1, then 18, 19, 22, 23
abbrev pub row_size : Rules → ℕ → List ℕ → List ℕ → Answer Size
row_size rules running payload row = size_event running (row_judged rules payload row)

-- what writing a row's event leaves
abbrev pub row_written : Rules → ℕ → List ℕ → List ℕ → List ℕ → ℕ → EventWritten
row_written rules running payload row buffer at = write_event running (row_judged rules payload row) buffer at
