-- What reading a list into cells leaves in them and answers, in the terms of the definitions.
use Rattle.track.specs.declared.cursor.Stop.{Stop}
use Rattle.rows.specs.declared.lists.RowLaid.{RowLaid}
use Rattle.base.specs.declared.Refusal.{Refusal}
use Rattle.std.specs.Prelude.{List, ℕ, ◌*◌, length, Err, Ok, Result}
use Rattle.smf.specs.Answer.{Answer, gives, and_then}
use Rattle.smf.specs.Write.{Written, put, over}
use Rattle.smf.specs.Lists as smf
use Rattle.base.specs.Said.{said}
use Rattle.track.specs.Cursor.{stop_of, reader_of}
use Rattle.rows.specs.Rows.{width, event_row}
use Rattle.rows.specs.Sheet.{sheet_of}
use Rattle.rows.specs.declared.lists.RowsRead.{RowsRead}

-- of a list that was read: how many its events are, why reading stopped, the place of the next unread byte, the running status there and the padding
pub record SheetAt : Type 0 where
  pub count : ℕ
  pub stop : smf.Stop
  pub place : ℕ
  pub running : ℕ
  pub padding : ℕ

-- what is told of a list beside its rows
abbrev pub sheet_at : smf.ListAt → SheetAt
sheet_at l = record { count = length l.events; stop = l.stop; place = l.place; running = l.running; padding = l.padding }

-- what is left in the cells, and the answer
pub record SheetRead : Type 0 where
  pub cells : List ℕ
  pub answer : Answer SheetAt

-- what is left in the cells after so many were put, and the answer
abbrev pub sheet_read : smf.ListAt → Written → SheetRead
sheet_read l w = record { cells = w.buffer; answer = and_then w.answer (λ (n : ℕ). gives (sheet_at l)) }

-- the rows of a list, put into cells from the first on; 20 where the cells are too few, which stay as they came
abbrev pub read_sheet : smf.ListAt → List ℕ → SheetRead
read_sheet l cells = sheet_read l (put (sheet_of l.events) cells 0)

-- what the code answers
abbrev pub rows_read : RowsRead → SheetAt
rows_read r = record { count = r.count; stop = stop_of r.stop; place = r.place; running = r.running.status; padding = r.padding }

-- what each case of the answer says
abbrev pub sheet_answered : Result RowsRead Refusal → Answer SheetAt
sheet_answered = said rows_read

-- what the code answers, with what the cells hold at the end
abbrev pub rows_left : Result RowsRead Refusal → List ℕ → SheetRead
rows_left r cells = record { cells = cells; answer = sheet_answered r }

-- One step of it

-- the padding of the event that was laid and where the reader goes on, or why it stops
pub data Onward : Type 0 where
  goes : (padding : ℕ) → smf.Reader → Onward
  halts : smf.Stop → Onward

-- that, and what the cells hold
pub record LaidStep : Type 0 where
  pub onward : Onward
  pub cells : List ℕ

-- by the step that a list takes: the row of its event is laid behind so many others
abbrev pub laid_next : smf.Next → ℕ → List ℕ → LaidStep
laid_next (smf.takes e padding r) n cells = record { onward = goes padding r; cells = over (event_row e) cells (n * width) }
laid_next (smf.stops why) n cells = record { onward = halts why; cells = cells }

-- what the code answers, with what the cells hold at the end
abbrev pub laid_of : Result RowLaid Stop → List ℕ → LaidStep
laid_of (Ok on) cells = record { onward = goes on.padding (reader_of on.cursor); cells = cells }
laid_of (Err why) cells = record { onward = halts (stop_of why); cells = cells }
