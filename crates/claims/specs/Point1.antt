-- Point 1: whatever is read or written, the answer is an acceptance, or a refusal by a number of the table in documents 01 and 02; a refused write alters
-- no byte of the output. That every call ends is proved of each function; that every input gets an answer says `EveryInput.antt`.
use Rattle.std.specs.Prelude.{◌≡◌, true, List, [], ◌∷◌, map, ℕ}
use Rattle.smf.specs.Answer.{Answer}
use Rattle.smf.specs.Lists.{ListAt, holding, held_as, records_judged}
use Rattle.base.specs.Refusal.{number_of}
use Rattle.base.specs.Restricted.{tried_u2, tried_u4, tried_u7, tried_u14, tried_u15, tried_u24}
use Rattle.base.specs.Rules.{rules_of}
use Rattle.number.specs.Varlen.{tried_u28, number_read_of, written_to}
use Rattle.number.specs.Payload.{slice_read}
use Rattle.base.specs.declared.Refusal.{Refusal}
use Rattle.base.proofs as base
use Rattle.number.proofs as number
use Rattle.header.specs.Format.{format_read_of}
use Rattle.header.specs.Fps.{tried_fps}
use Rattle.header.specs.Smpte.{tried_smpte_time, encoded_smpte_time, asked_second, asked_position}
use Rattle.header.specs.Timing.{timing_read, timing_encoded}
use Rattle.header.proofs as header
use Rattle.midi.specs.Bend.{bend_int, bend_f32, bend_f64}
use Rattle.midi.proofs as midi
use Rattle.meta.specs.Meta.{meta_read}
use Rattle.event.specs.Event.{event_read}
use Rattle.track.specs.List.{capacity, record_of, held_of}
use Rattle.track.specs.Read.{list_read_of}
use Rattle.rows.specs.RowLists.{rows_judged}
use Rattle.write.specs.Size.{length_said}
use Rattle.write.specs.Wrote.{wrote_event}
use Rattle.write.specs.ListAnswers.{size_said, wrote_list}
use Rattle.write.proofs as write
use Rattle.bank.specs.Bank.{most_tracks}
use Rattle.bank.specs.Answers.{held_tracks, bank_of, bank_track, empty_list, bank_wrote}
use Rattle.claims.specs.Handed.{verdict_of}
use Rattle.claims.specs.Calls.{Always, ReadU7, WriteVarlen, ReadVarlenSlice, WriteVarlenSlice, MetaMessageRead, TrackEventRead, EventListRead, WriteEvent, WriteRow, ListLength, WriteList, RowsLength, WriteRows, After, Silence, WriteSlice, BankRead, BankTrack, ListTrack, WriteBank}
use Rattle.claims.specs.Table.{in_table, By, Keeps, of_number, of_payload, of_meta, of_length, of_bank, of_bank_track, of_bank_writing}
use Rattle.claims.specs.EntrySays.{AnswersBy}
use Rattle.claims.specs.Stands.{EventOrLeft, ListStands}
use Rattle.claims.specs.Leaves.{EventLeaves, SizeLeaves, ListLeaves}

-- whatever its promise permits, a function gives a value or refuses by one of these numbers
abbrev pub Refuses : {L : Type 0} {A R E : L → Type 0} → ((κs : L) → A κs → R κs → E κs → Type 0) → {B : Type 0} → ((κs : L) → R κs → Answer B) → List ℕ → Type 0
Refuses Told says ns = Always Told (λ κs a z e. By ns (says κs z))

-- the functions whose refusals give the number alone, and change nothing, since nothing is lent to be changed
pub record Numbered : Type 0 where
  -- 18: a number above its width
  pub u2_try_from : Refuses base.int.U2TryFromU8.try_from.Reads.Learnt (λ κs. tried_u2) (18 ∷ [])
  pub u4_try_from : Refuses base.int.U4TryFromU8.try_from.Reads.Learnt (λ κs. tried_u4) (18 ∷ [])
  pub u7_try_from : Refuses base.int.U7TryFromU8.try_from.Reads.Learnt (λ κs. tried_u7) (18 ∷ [])
  pub u14_try_from : Refuses base.int.U14TryFromU16.try_from.Reads.Learnt (λ κs. tried_u14) (18 ∷ [])
  pub u15_try_from : Refuses base.int.U15TryFromU16.try_from.Reads.Learnt (λ κs. tried_u15) (18 ∷ [])
  pub u24_try_from : Refuses base.int.U24TryFromU32.try_from.Reads.Learnt (λ κs. tried_u24) (18 ∷ [])
  pub u28_try_from : Refuses number.varlen.U28TryFromU32.try_from.Reads.Learnt (λ κs. tried_u28) (18 ∷ [])
  -- 17: a header field under two bytes; 15: a format above 2; 16: no such rate; 18: ticks above their width
  pub format_read : Refuses header.format.Format.read.Reads.Learnt (λ κs. format_read_of) (15 ∷ 17 ∷ [])
  pub timing_read_lem : Refuses header.timing.Timing.read.Reads.Learnt (λ κs. timing_read) (16 ∷ 17 ∷ [])
  pub timing_encode : Refuses header.timing.Timing.encode.Reads.Learnt (λ κs. timing_encoded) (18 ∷ [])
  pub fps_from_int : Refuses header.Fps.from_int.Reads.Learnt (λ κs. tried_fps) (16 ∷ [])
  -- 13: an SMPTE time outside its ranges; 18 where it is written
  pub smpte_new : Refuses header.SmpteTime.new.Reads.Learnt (λ κs. tried_smpte_time) (13 ∷ [])
  pub smpte_read : Refuses header.SmpteTime.read.Reads.Learnt (λ κs. tried_smpte_time) (13 ∷ [])
  pub smpte_second_f32 : Refuses header.SmpteTime.second_f32.Reads.Learnt (λ κs. asked_second) (13 ∷ [])
  pub smpte_position : Refuses header.SmpteTime.position.Reads.Learnt (λ κs. asked_position) (13 ∷ [])
  pub smpte_encode : Refuses header.SmpteTime.encode.Reads.Learnt (λ κs. encoded_smpte_time) (18 ∷ [])
  -- 18: a bend above its width
  pub bend_as_int : Refuses midi.PitchBend.as_int.Reads.Learnt (λ κs. bend_int) (18 ∷ [])
  pub bend_as_f32 : Refuses midi.PitchBend.as_f32.Reads.Learnt (λ κs. bend_f32) (18 ∷ [])
  pub bend_as_f64 : Refuses midi.PitchBend.as_f64.Reads.Learnt (λ κs. bend_f64) (18 ∷ [])
  -- an event measured, and a row's event
  pub event_length : Refuses write.one.event_length.Reads.Learnt (λ κs. length_said) of_length
  pub row_length : Refuses write.one.row_length.Reads.Learnt (λ κs. length_said) of_length

pub record Point1 : Type 0 where
  -- every refusal there is has a number of the table
  pub table : (n : Refusal) → in_table (number_of n) ≡ true
  pub numbered : Numbered
  -- numbers, payloads and meta messages, read: 2, 3, 11 and 12 only where reading is strict
  pub read_u7 : ReadU7 (λ raw at rules r. By (of_number rules.strict) (number_read_of r))
  pub read_varlen_slice : ReadVarlenSlice (λ raw at rules r. By (of_payload rules.strict) (slice_read r))
  pub meta_message_read : MetaMessageRead (λ raw at rules r. By (of_meta rules.strict) (meta_read r))
  -- numbers and payloads, written: a refusal leaves the buffer
  pub write_varlen : WriteVarlen (λ self out at r end. Keeps (18 ∷ 20 ∷ []) (written_to r) out end)
  pub write_varlen_slice : WriteVarlenSlice (λ bytes slice out at r end. Keeps (19 ∷ 20 ∷ 22 ∷ []) (written_to r) out end)
  -- one event, read: a refusal is one of 1 to 14, uses no byte, and leaves the running status that document 01 names
  pub track_event_read : TrackEventRead (λ raw at running rules r. EventOrLeft (rules_of rules) raw running.status at (event_read r))
  -- a list, read: it holds a list of the events that stand there; those before a refusal stand, and it gives the place of the refused delta
  pub event_list_read : EventListRead (λ raw at running rules r.
      (l : ListAt) × (list_read_of r ≡ held_as capacity l) × ListStands (rules_of rules) raw capacity running.status at l)
  -- one event, and one row's, written: a refusal leaves every byte and the running status; an acceptance changes no byte but its own
  pub write_event_lem : WriteEvent (λ event running rules bytes out at r end.
      EventLeaves running.status at out (wrote_event r end) (wrote_event r end).written.answer)
  pub write_row : WriteRow (λ row running rules bytes out at r end. EventLeaves running.status at out (wrote_event r end) (wrote_event r end).written.answer)
  -- a list, of records and of rows, measured and written: a refusal gives its number and index, and leaves every byte and the running status
  pub list_length : ListLength (λ list running rules bytes r.
      SizeLeaves (records_judged (rules_of rules) bytes (map record_of list.records)) list.count running.status (size_said r) (size_said r).answer)
  pub write_list_lem : WriteList (λ list running rules bytes out r end.
      ListLeaves (records_judged (rules_of rules) bytes (map record_of list.records)) list.count running.status out (wrote_list r end) (wrote_list r end).answer)
  pub rows_length : RowsLength (λ rows count running rules bytes r.
      SizeLeaves (rows_judged (rules_of rules) bytes count rows) count running.status (size_said r) (size_said r).answer)
  pub write_rows : WriteRows (λ rows count running rules bytes out r end.
      ListLeaves (rows_judged (rules_of rules) bytes count rows) count running.status out (wrote_list r end) (wrote_list r end).answer)
  -- document 02, Q-1: a list that a table is given, 21 or 18, and the table as it came; a channel or key asked for, 18, and an empty list
  pub after : After (λ table list left number. AnswersBy (18 ∷ 21 ∷ []) number (left ≡ table))
  pub silence : Silence (λ table channel key list number. AnswersBy (18 ∷ []) number (held_of list ≡ holding capacity []))
  -- a range of the bytes lent, written as it stands: 19 outside them, 20 no room
  pub write_slice : WriteSlice (λ bytes slice out at r end. Keeps (19 ∷ 20 ∷ []) (written_to r) out end)
  -- document 02, Q-3: a block that is no bank, and a bank of no tracks; a track of a bank, 34 last, and then an empty list where it is listed; a bank that
  -- is written, and every byte as it came
  pub read_bank_lem : BankRead (λ block r. Keeps of_bank (verdict_of r.verdict) (held_tracks most_tracks []) (bank_of r.bank))
  pub bank_track_lem : BankTrack (λ block index r. By of_bank_track (bank_track r))
  pub list_track : ListTrack (λ block index rules r. Keeps of_bank_track (verdict_of r.verdict) (empty_list capacity) (list_read_of r.read))
  pub write_bank_lem : WriteBank (λ bytes ranges count out r end. Keeps of_bank_writing (bank_wrote r) out end)
