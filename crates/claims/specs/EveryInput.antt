-- Point 1: every byte string, flag and record gets an answer. What a function asks of its caller, by its own contract, holds of any arguments; so the
-- checker's proof that it ends and answers as it promises is a proof for every input. A line for each public function, by its path.
-- The line of `read_event` of `event`, to which the running status is lent as a struct, stands in `LentRunning.antt`; those of the two functions that are
-- written for any type, in `OfTypes.antt`.
use Rattle.base.proofs as base
use Rattle.number.proofs as number
use Rattle.header.proofs as header
use Rattle.midi.proofs as midi
use Rattle.meta.proofs as meta
use Rattle.event.proofs as event
use Rattle.track.proofs as track
use Rattle.rows.proofs as rows
use Rattle.write.proofs as write
use Rattle.same.proofs as same
use Rattle.loader.proofs as loader
use Rattle.loader_track.proofs as loader_track
use Rattle.player.proofs as player
use Rattle.bank.proofs as bank

-- what a function asks holds, whatever the lifetimes of what is lent to it and its arguments are
abbrev pub Any : {L : Type 0} {A : L → Type 0} → ((κs : L) → A κs → Type 0) → Type 0
Any {L} {A} Asked = (κs : L) (a : A κs) → Asked κs a

-- `base`: restricted numbers, refusals, the running status
pub record AnyBase : Type 0 where
  pub u2_max_value : Any base.int.U2Restricted.max_value.Reads.Asked
  pub u2_new : Any base.int.U2Restricted.new.Reads.Asked
  pub u2_try_from : Any base.int.U2TryFromU8.try_from.Reads.Asked
  pub u2_as_int : Any base.int.U2Restricted.as_int.Reads.Asked
  pub u2_low : Any base.int.U2Restricted.low.Reads.Asked
  pub u4_max_value : Any base.int.U4Restricted.max_value.Reads.Asked
  pub u4_new : Any base.int.U4Restricted.new.Reads.Asked
  pub u4_try_from : Any base.int.U4TryFromU8.try_from.Reads.Asked
  pub u4_as_int : Any base.int.U4Restricted.as_int.Reads.Asked
  pub u4_low : Any base.int.U4Restricted.low.Reads.Asked
  pub u7_max_value : Any base.int.U7Restricted.max_value.Reads.Asked
  pub u7_new : Any base.int.U7Restricted.new.Reads.Asked
  pub u7_try_from : Any base.int.U7TryFromU8.try_from.Reads.Asked
  pub u7_as_int : Any base.int.U7Restricted.as_int.Reads.Asked
  pub u7_low : Any base.int.U7Restricted.low.Reads.Asked
  pub u14_max_value : Any base.int.U14Restricted.max_value.Reads.Asked
  pub u14_new : Any base.int.U14Restricted.new.Reads.Asked
  pub u14_try_from : Any base.int.U14TryFromU16.try_from.Reads.Asked
  pub u14_as_int : Any base.int.U14Restricted.as_int.Reads.Asked
  pub u14_low : Any base.int.U14Restricted.low.Reads.Asked
  pub u15_max_value : Any base.int.U15Restricted.max_value.Reads.Asked
  pub u15_new : Any base.int.U15Restricted.new.Reads.Asked
  pub u15_try_from : Any base.int.U15TryFromU16.try_from.Reads.Asked
  pub u15_as_int : Any base.int.U15Restricted.as_int.Reads.Asked
  pub u15_low : Any base.int.U15Restricted.low.Reads.Asked
  pub u24_max_value : Any base.int.U24Restricted.max_value.Reads.Asked
  pub u24_new : Any base.int.U24Restricted.new.Reads.Asked
  pub u24_try_from : Any base.int.U24TryFromU32.try_from.Reads.Asked
  pub u24_as_int : Any base.int.U24Restricted.as_int.Reads.Asked
  pub u24_low : Any base.int.U24Restricted.low.Reads.Asked
  pub refusal_number : Any base.refusals.U8FromRefusal.from.Reads.Asked
  pub is_valid : Any base.Running.is_valid.Reads.Asked

-- `number`: variable-length numbers and payloads
pub record AnyNumber : Type 0 where
  pub u28_max_value : Any number.varlen.U28Restricted.max_value.Reads.Asked
  pub u28_new : Any number.varlen.U28Restricted.new.Reads.Asked
  pub u28_try_from : Any number.varlen.U28TryFromU32.try_from.Reads.Asked
  pub u28_as_int : Any number.varlen.U28Restricted.as_int.Reads.Asked
  pub u28_low : Any number.varlen.U28Restricted.low.Reads.Asked
  pub read_u7 : Any number.u28.read_u7.Reads.Asked
  pub varlen_length : Any number.u28.varlen_length.Reads.Asked
  pub write_varlen : Any number.u28.write_varlen.Reads.Asked
  pub read_varlen_slice : Any number.payload.read_varlen_slice.Reads.Asked
  pub write_varlen_slice : Any number.payload.write_varlen_slice.Reads.Asked
  pub is_inside : Any number.payload.is_inside.Reads.Asked
  pub write_slice : Any number.payload.write_slice.Reads.Asked

-- `header`: header fields, rates, SMPTE times
pub record AnyHeader : Type 0 where
  pub format_read : Any header.format.Format.read.Reads.Asked
  pub format_encode : Any header.format.Format.encode.Reads.Asked
  pub timing_read_lem : Any header.timing.Timing.read.Reads.Asked
  pub timing_encode : Any header.timing.Timing.encode.Reads.Asked
  pub fps_from_code : Any header.Fps.from_code.Reads.Asked
  pub fps_as_code : Any header.Fps.as_code.Reads.Asked
  pub fps_from_int : Any header.Fps.from_int.Reads.Asked
  pub fps_as_int : Any header.Fps.as_int.Reads.Asked
  pub fps_as_f32 : Any header.Fps.as_f32.Reads.Asked
  pub smpte_new : Any header.SmpteTime.new.Reads.Asked
  pub smpte_in_range : Any header.SmpteTime.in_range.Reads.Asked
  pub smpte_hour : Any header.SmpteTime.hour.Reads.Asked
  pub smpte_minute : Any header.SmpteTime.minute.Reads.Asked
  pub smpte_second : Any header.SmpteTime.second.Reads.Asked
  pub smpte_frame : Any header.SmpteTime.frame.Reads.Asked
  pub smpte_subframe : Any header.SmpteTime.subframe.Reads.Asked
  pub smpte_fps : Any header.SmpteTime.fps.Reads.Asked
  pub smpte_second_f32 : Any header.SmpteTime.second_f32.Reads.Asked
  pub smpte_position : Any header.SmpteTime.position.Reads.Asked
  pub smpte_read : Any header.SmpteTime.read.Reads.Asked
  pub smpte_encode : Any header.SmpteTime.encode.Reads.Asked
  pub word : Any header.field.word.Reads.Asked
  pub from_byte : Any header.signed.from_byte.Reads.Asked
  pub to_byte : Any header.signed.to_byte.Reads.Asked
  pub negated : Any header.signed.negated.Reads.Asked

-- `midi`: channel messages and bends
pub record AnyMidi : Type 0 where
  pub min_raw_value : Any midi.PitchBend.min_raw_value.Reads.Asked
  pub mid_raw_value : Any midi.PitchBend.mid_raw_value.Reads.Asked
  pub max_raw_value : Any midi.PitchBend.max_raw_value.Reads.Asked
  pub from_int : Any midi.PitchBend.from_int.Reads.Asked
  pub from_f32 : Any midi.PitchBend.from_f32.Reads.Asked
  pub from_f64 : Any midi.PitchBend.from_f64.Reads.Asked
  pub as_int : Any midi.PitchBend.as_int.Reads.Asked
  pub as_f32 : Any midi.PitchBend.as_f32.Reads.Asked
  pub as_f64 : Any midi.PitchBend.as_f64.Reads.Asked
  pub msg_length : Any midi.MidiMessage.msg_length.Reads.Asked

-- `meta`: meta messages
pub record AnyMeta : Type 0 where
  pub meta_read_lem : Any meta.MetaMessage.read.Reads.Asked

-- `event`: one event, read
pub record AnyEvent : Type 0 where
  pub event_read_lem : Any event.TrackEvent.read.Reads.Asked
  pub read_step : Any event.running.read_step.Reads.Asked

-- `track`: lists of records
pub record AnyTrack : Type 0 where
  pub list_new : Any track.list.EventList.new.Reads.Asked
  pub list_read : Any track.list.EventList.read.Reads.Asked
  pub cursor_next : Any track.cursor.Cursor.next.Reads.Asked
  pub recorded : Any track.record.recorded.Reads.Asked

-- `rows`: rows of cells, and events and lists read into them
pub record AnyRows : Type 0 where
  pub kind_row : Any rows.kind_row.Reads.Asked
  pub event_row : Any rows.event_row.Reads.Asked
  pub are_bytes : Any rows.back.are_bytes.Reads.Asked
  pub event_of_row : Any rows.back.row_event.Reads.Asked
  pub event_of_row_at : Any rows.back.row_event_at.Reads.Asked
  pub read_row : Any rows.one.read_row.Reads.Asked
  pub read_rows : Any rows.lists.read_rows.Reads.Asked

-- `write`: events, rows and lists of both, measured and written
pub record AnyWrite : Type 0 where
  pub event_length : Any write.one.event_length.Reads.Asked
  pub write_event_lem : Any write.one.write_event.Reads.Asked
  pub row_length : Any write.one.row_length.Reads.Asked
  pub write_row : Any write.one.write_row.Reads.Asked
  pub list_length : Any write.records.list_length.Reads.Asked
  pub write_list_lem : Any write.records.write_list.Reads.Asked
  pub rows_length : Any write.row_lists.rows_length.Reads.Asked
  pub write_rows : Any write.row_lists.write_rows.Reads.Asked

-- `same`: sameness
pub record AnySame : Type 0 where
  pub same_event : Any same.same_event.Reads.Asked
  pub same_list_lem : Any same.lists.same_list.Reads.Asked
  pub same_rows : Any same.of_rows.same_rows.Reads.Asked
  pub same_row_lists : Any same.of_rows.same_row_lists.Reads.Asked

-- `loader`: the entries for numbers, payloads, header fields, SMPTE times and bends
pub record AnyLoader : Type 0 where
  pub rules : Any loader.rules.Reads.Asked
  pub number_read : Any loader.numbers.apk_number_read.Reads.Asked
  pub number_length : Any loader.numbers.apk_number_length.Reads.Asked
  pub number_write : Any loader.numbers.apk_number_write.Reads.Asked
  pub payload_read : Any loader.numbers.apk_payload_read.Reads.Asked
  pub payload_write : Any loader.numbers.apk_payload_write.Reads.Asked
  pub format_read : Any loader.fields.apk_format_read.Reads.Asked
  pub format_encode : Any loader.fields.apk_format_encode.Reads.Asked
  pub timing_read_lem : Any loader.fields.apk_timing_read.Reads.Asked
  pub timing_encode : Any loader.fields.apk_timing_encode.Reads.Asked
  pub fps_from_code : Any loader.smpte.apk_fps_from_code.Reads.Asked
  pub fps_as_code : Any loader.smpte.apk_fps_as_code.Reads.Asked
  pub fps_from_int : Any loader.smpte.apk_fps_from_int.Reads.Asked
  pub fps_as_f32 : Any loader.smpte.apk_fps_as_f32.Reads.Asked
  pub smpte_new : Any loader.smpte.apk_smpte_new.Reads.Asked
  pub smpte_read : Any loader.smpte.apk_smpte_read.Reads.Asked
  pub smpte_encode : Any loader.smpte.apk_smpte_encode.Reads.Asked
  pub smpte_second_f32 : Any loader.smpte.apk_smpte_second_f32.Reads.Asked
  pub smpte_position : Any loader.smpte.apk_smpte_position.Reads.Asked
  pub bend_min_raw_value : Any loader.bends.apk_bend_min_raw_value.Reads.Asked
  pub bend_mid_raw_value : Any loader.bends.apk_bend_mid_raw_value.Reads.Asked
  pub bend_max_raw_value : Any loader.bends.apk_bend_max_raw_value.Reads.Asked
  pub bend_from_int : Any loader.bends.apk_bend_from_int.Reads.Asked
  pub bend_from_f32 : Any loader.bends.apk_bend_from_f32.Reads.Asked
  pub bend_from_f64 : Any loader.bends.apk_bend_from_f64.Reads.Asked
  pub bend_as_int : Any loader.bends.apk_bend_as_int.Reads.Asked
  pub bend_as_f32 : Any loader.bends.apk_bend_as_f32.Reads.Asked
  pub bend_as_f64 : Any loader.bends.apk_bend_as_f64.Reads.Asked

-- `loader_track`: the entries for events and lists
pub record AnyLoaderTrack : Type 0 where
  pub event_read_lem : Any loader_track.events.apk_event_read.Reads.Asked
  pub event_length : Any loader_track.events.apk_event_length.Reads.Asked
  pub event_write : Any loader_track.events.apk_event_write.Reads.Asked
  pub list_read : Any loader_track.list_read.apk_list_read.Reads.Asked
  pub list_length : Any loader_track.list_write.apk_list_length.Reads.Asked
  pub list_write : Any loader_track.list_write.apk_list_write.Reads.Asked
  pub event_same : Any loader_track.sameness.apk_event_same.Reads.Asked
  pub list_same : Any loader_track.sameness.apk_list_same.Reads.Asked

-- `player`: notes still sounding, and the entries for them
pub record AnyPlayer : Type 0 where
  pub fresh : Any player.table.fresh.Reads.Asked
  pub counts : Any player.table.counts.Reads.Asked
  pub after : Any player.notes.after.Reads.Asked
  pub silence : Any player.silence.silence.Reads.Asked
  pub sounding_after : Any player.entries.apk_sounding_after.Reads.Asked
  pub sounding_counts : Any player.entries.apk_sounding_counts.Reads.Asked
  pub sounding_silence : Any player.entries.apk_sounding_silence.Reads.Asked

-- `bank`: a bank of programs, and the entries for it
pub record AnyBank : Type 0 where
  pub read_bank_lem : Any bank.read.read_bank.Reads.Asked
  pub bank_track_lem : Any bank.read.bank_track.Reads.Asked
  pub list_track : Any bank.list.list_track.Reads.Asked
  pub write_bank_lem : Any bank.writing.write_bank.Reads.Asked
  pub bank_read : Any bank.entries.apk_bank_read.Reads.Asked
  pub bank_track_entry : Any bank.entries.apk_bank_track.Reads.Asked
  pub bank_list : Any bank.entries.apk_bank_list.Reads.Asked
  pub bank_write : Any bank.entries.apk_bank_write.Reads.Asked

-- all of them
pub record EveryInput : Type 0 where
  pub base : AnyBase
  pub number : AnyNumber
  pub header : AnyHeader
  pub midi : AnyMidi
  pub meta : AnyMeta
  pub event : AnyEvent
  pub track : AnyTrack
  pub rows : AnyRows
  pub write : AnyWrite
  pub same : AnySame
  pub loader : AnyLoader
  pub loader_track : AnyLoaderTrack
  pub player : AnyPlayer
  pub bank : AnyBank
