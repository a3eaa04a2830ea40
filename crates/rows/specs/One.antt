-- What reading one event into a row leaves in it and answers, in the terms of the definitions.
use Rattle.rows.specs.declared.one.RowRead.{RowRead}
use Rattle.event.specs.declared.read.EventRefused.{EventRefused}
use Rattle.std.specs.Prelude.{List, ℕ, Err, Ok, Result}
use Rattle.smf.specs.Event.{ReadAt, reads_at, refused_at}
use Rattle.base.specs.Refusal.{number_of}
use Rattle.rows.specs.Rows.{event_row}

-- the row at the end: the event's; after a refusal, what it held
abbrev pub read_row : ReadAt → List ℕ → List ℕ
read_row (reads_at e) held = event_row e.event
read_row (refused_at n used running padding) held = held

-- what is told beside the row: of an event the bytes used, the running status after it and its padding; of a refusal its number too
pub data RowAt : Type 0 where
  row_at : (used running padding : ℕ) → RowAt
  no_row : (number used running padding : ℕ) → RowAt

-- of an event that is read, and of a refusal
abbrev pub beside_row : ReadAt → RowAt
beside_row (reads_at e) = row_at e.used e.running e.padding
beside_row (refused_at n used running padding) = no_row n used running padding

-- what each case of the answer says
abbrev pub row_told : Result RowRead EventRefused → RowAt
row_told (Ok r) = row_at r.used r.running.status r.padding
row_told (Err n) = no_row (number_of n.refusal) n.used n.running.status n.padding
