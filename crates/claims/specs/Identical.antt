-- Document 01, "How tight the promises are": any two answers that a function's own promise permits for the same arguments are identical,
-- and so is what a lent buffer holds at the end. A line for each public function, by its path.
use Rattle.base.proofs as base
use Rattle.number.proofs as number
use Rattle.header.proofs as header
use Rattle.midi.proofs as midi
use Rattle.meta.proofs as meta
use Rattle.event.proofs as event
use Rattle.track.proofs as track
use Rattle.rows.proofs as rows
use Rattle.write.proofs as write
use Rattle.same.proofs as same
use Rattle.player.proofs as player
use Rattle.bank.proofs as bank
use Rattle.claims.specs.Calls.{OneAnswer, OneOutcome, write_varlen_call, write_varlen_slice_call, write_slice_call, write_event_call, write_row_call, write_list_call, write_rows_call, write_bank_call, ◌&◌}

-- `base`, `number`: restricted numbers, refusals, the running status, variable-length numbers and payloads
pub record Numbers : Type 0 where
  pub u2_max_value : OneAnswer base.int.U2Restricted.max_value.Reads.Learnt
  pub u2_new : OneAnswer base.int.U2Restricted.new.Reads.Learnt
  pub u2_try_from : OneAnswer base.int.U2TryFromU8.try_from.Reads.Learnt
  pub u2_as_int : OneAnswer base.int.U2Restricted.as_int.Reads.Learnt
  pub u2_low : OneAnswer base.int.U2Restricted.low.Reads.Learnt
  pub u4_max_value : OneAnswer base.int.U4Restricted.max_value.Reads.Learnt
  pub u4_new : OneAnswer base.int.U4Restricted.new.Reads.Learnt
  pub u4_try_from : OneAnswer base.int.U4TryFromU8.try_from.Reads.Learnt
  pub u4_as_int : OneAnswer base.int.U4Restricted.as_int.Reads.Learnt
  pub u4_low : OneAnswer base.int.U4Restricted.low.Reads.Learnt
  pub u7_max_value : OneAnswer base.int.U7Restricted.max_value.Reads.Learnt
  pub u7_new : OneAnswer base.int.U7Restricted.new.Reads.Learnt
  pub u7_try_from : OneAnswer base.int.U7TryFromU8.try_from.Reads.Learnt
  pub u7_as_int : OneAnswer base.int.U7Restricted.as_int.Reads.Learnt
  pub u7_low : OneAnswer base.int.U7Restricted.low.Reads.Learnt
  pub u14_max_value : OneAnswer base.int.U14Restricted.max_value.Reads.Learnt
  pub u14_new : OneAnswer base.int.U14Restricted.new.Reads.Learnt
  pub u14_try_from : OneAnswer base.int.U14TryFromU16.try_from.Reads.Learnt
  pub u14_as_int : OneAnswer base.int.U14Restricted.as_int.Reads.Learnt
  pub u14_low : OneAnswer base.int.U14Restricted.low.Reads.Learnt
  pub u15_max_value : OneAnswer base.int.U15Restricted.max_value.Reads.Learnt
  pub u15_new : OneAnswer base.int.U15Restricted.new.Reads.Learnt
  pub u15_try_from : OneAnswer base.int.U15TryFromU16.try_from.Reads.Learnt
  pub u15_as_int : OneAnswer base.int.U15Restricted.as_int.Reads.Learnt
  pub u15_low : OneAnswer base.int.U15Restricted.low.Reads.Learnt
  pub u24_max_value : OneAnswer base.int.U24Restricted.max_value.Reads.Learnt
  pub u24_new : OneAnswer base.int.U24Restricted.new.Reads.Learnt
  pub u24_try_from : OneAnswer base.int.U24TryFromU32.try_from.Reads.Learnt
  pub u24_as_int : OneAnswer base.int.U24Restricted.as_int.Reads.Learnt
  pub u24_low : OneAnswer base.int.U24Restricted.low.Reads.Learnt
  pub u28_max_value : OneAnswer number.varlen.U28Restricted.max_value.Reads.Learnt
  pub u28_new : OneAnswer number.varlen.U28Restricted.new.Reads.Learnt
  pub u28_try_from : OneAnswer number.varlen.U28TryFromU32.try_from.Reads.Learnt
  pub u28_as_int : OneAnswer number.varlen.U28Restricted.as_int.Reads.Learnt
  pub u28_low : OneAnswer number.varlen.U28Restricted.low.Reads.Learnt
  pub refusal_number : OneAnswer base.refusals.U8FromRefusal.from.Reads.Learnt
  pub is_valid : OneAnswer base.Running.is_valid.Reads.Learnt
  pub read_u7 : OneAnswer number.u28.read_u7.Reads.Learnt
  pub varlen_length : OneAnswer number.u28.varlen_length.Reads.Learnt
  pub write_varlen : OneOutcome number.u28.write_varlen.Reads.Learnt (write_varlen_call (λ self out at r end. r & end))
  pub read_varlen_slice : OneAnswer number.payload.read_varlen_slice.Reads.Learnt
  pub write_varlen_slice : OneOutcome number.payload.write_varlen_slice.Reads.Learnt (write_varlen_slice_call (λ bytes slice out at r end. r & end))
  pub is_inside : OneAnswer number.payload.is_inside.Reads.Learnt
  pub write_slice : OneOutcome number.payload.write_slice.Reads.Learnt (write_slice_call (λ bytes slice out at r end. r & end))

-- `header`: `Format`, `Timing`, `Fps`, `SmpteTime`, and the words and signed bytes that they are made of
pub record Headers : Type 0 where
  pub format_read : OneAnswer header.format.Format.read.Reads.Learnt
  pub format_encode : OneAnswer header.format.Format.encode.Reads.Learnt
  pub timing_read_lem : OneAnswer header.timing.Timing.read.Reads.Learnt
  pub timing_encode : OneAnswer header.timing.Timing.encode.Reads.Learnt
  pub fps_from_code : OneAnswer header.Fps.from_code.Reads.Learnt
  pub fps_as_code : OneAnswer header.Fps.as_code.Reads.Learnt
  pub fps_from_int : OneAnswer header.Fps.from_int.Reads.Learnt
  pub fps_as_int : OneAnswer header.Fps.as_int.Reads.Learnt
  pub fps_as_f32 : OneAnswer header.Fps.as_f32.Reads.Learnt
  pub smpte_new : OneAnswer header.SmpteTime.new.Reads.Learnt
  pub smpte_in_range : OneAnswer header.SmpteTime.in_range.Reads.Learnt
  pub smpte_hour : OneAnswer header.SmpteTime.hour.Reads.Learnt
  pub smpte_minute : OneAnswer header.SmpteTime.minute.Reads.Learnt
  pub smpte_second : OneAnswer header.SmpteTime.second.Reads.Learnt
  pub smpte_frame : OneAnswer header.SmpteTime.frame.Reads.Learnt
  pub smpte_subframe : OneAnswer header.SmpteTime.subframe.Reads.Learnt
  pub smpte_fps : OneAnswer header.SmpteTime.fps.Reads.Learnt
  pub smpte_second_f32 : OneAnswer header.SmpteTime.second_f32.Reads.Learnt
  pub smpte_position : OneAnswer header.SmpteTime.position.Reads.Learnt
  pub smpte_read : OneAnswer header.SmpteTime.read.Reads.Learnt
  pub smpte_encode : OneAnswer header.SmpteTime.encode.Reads.Learnt
  pub word : OneAnswer header.field.word.Reads.Learnt
  pub from_byte : OneAnswer header.signed.from_byte.Reads.Learnt
  pub to_byte : OneAnswer header.signed.to_byte.Reads.Learnt
  pub negated : OneAnswer header.signed.negated.Reads.Learnt

-- `midi`: `PitchBend`
pub record Bends : Type 0 where
  pub min_raw_value : OneAnswer midi.PitchBend.min_raw_value.Reads.Learnt
  pub mid_raw_value : OneAnswer midi.PitchBend.mid_raw_value.Reads.Learnt
  pub max_raw_value : OneAnswer midi.PitchBend.max_raw_value.Reads.Learnt
  pub from_int : OneAnswer midi.PitchBend.from_int.Reads.Learnt
  pub from_f32 : OneAnswer midi.PitchBend.from_f32.Reads.Learnt
  pub from_f64 : OneAnswer midi.PitchBend.from_f64.Reads.Learnt
  pub as_int : OneAnswer midi.PitchBend.as_int.Reads.Learnt
  pub as_f32 : OneAnswer midi.PitchBend.as_f32.Reads.Learnt
  pub as_f64 : OneAnswer midi.PitchBend.as_f64.Reads.Learnt

-- `midi`, `meta`, `event`, `write`: one event, read; and one event or row, measured and written
pub record Events : Type 0 where
  pub msg_length : OneAnswer midi.MidiMessage.msg_length.Reads.Learnt
  pub meta_read_lem : OneAnswer meta.MetaMessage.read.Reads.Learnt
  pub event_read_lem : OneAnswer event.TrackEvent.read.Reads.Learnt
  pub event_length : OneAnswer write.one.event_length.Reads.Learnt
  pub write_event_lem : OneOutcome write.one.write_event.Reads.Learnt (write_event_call (λ event running rules bytes out at r end. r & end))
  pub row_length : OneAnswer write.one.row_length.Reads.Learnt
  pub write_row : OneOutcome write.one.write_row.Reads.Learnt (write_row_call (λ row running rules bytes out at r end. r & end))

-- `track`, `write`, `rows`, `same`: lists of events and of rows, an event as a row of numbers and back, and sameness
pub record Lists : Type 0 where
  pub list_new : OneAnswer track.list.EventList.new.Reads.Learnt
  pub recorded : OneAnswer track.record.recorded.Reads.Learnt
  pub list_read : OneAnswer track.list.EventList.read.Reads.Learnt
  pub cursor_next : OneAnswer track.cursor.Cursor.next.Reads.Learnt
  pub list_length : OneAnswer write.records.list_length.Reads.Learnt
  pub write_list_lem : OneOutcome write.records.write_list.Reads.Learnt (write_list_call (λ list running rules bytes out r end. r & end))
  pub rows_length : OneAnswer write.row_lists.rows_length.Reads.Learnt
  pub write_rows : OneOutcome write.row_lists.write_rows.Reads.Learnt (write_rows_call (λ rows count running rules bytes out r end. r & end))
  pub kind_row : OneAnswer rows.kind_row.Reads.Learnt
  pub event_row : OneAnswer rows.event_row.Reads.Learnt
  pub are_bytes : OneAnswer rows.back.are_bytes.Reads.Learnt
  pub event_of_row : OneAnswer rows.back.row_event.Reads.Learnt
  pub event_of_row_at : OneAnswer rows.back.row_event_at.Reads.Learnt
  pub same_event : OneAnswer same.same_event.Reads.Learnt
  pub same_list_lem : OneAnswer same.lists.same_list.Reads.Learnt
  pub same_rows : OneAnswer same.of_rows.same_rows.Reads.Learnt
  pub same_row_lists : OneAnswer same.of_rows.same_row_lists.Reads.Learnt

-- `player`: the table of notes still sounding, what a list leaves in it, its counts, and the list that silences
pub record Notes : Type 0 where
  pub fresh : OneAnswer player.table.fresh.Reads.Learnt
  pub counts : OneAnswer player.table.counts.Reads.Learnt
  pub after : OneAnswer player.notes.after.Reads.Learnt
  pub silence : OneAnswer player.silence.silence.Reads.Learnt

-- `bank`: a bank of programs, read and written, and its tracks, asked for and listed
pub record Programs : Type 0 where
  pub read_bank_lem : OneAnswer bank.read.read_bank.Reads.Learnt
  pub bank_track_lem : OneAnswer bank.read.bank_track.Reads.Learnt
  pub list_track : OneAnswer bank.list.list_track.Reads.Learnt
  pub write_bank_lem : OneOutcome bank.writing.write_bank.Reads.Learnt (write_bank_call (λ bytes ranges count out r end. r & end))

-- all of them
pub record Identical : Type 0 where
  pub numbers : Numbers
  pub headers : Headers
  pub bends : Bends
  pub events : Events
  pub lists : Lists
  pub notes : Notes
  pub programs : Programs
