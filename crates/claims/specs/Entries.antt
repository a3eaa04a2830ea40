-- Document 01, "How tight the promises are", of the entries for C and of sheets: any two answers that a function's own promise permits for
-- the same arguments are identical, and so is what each lent value and buffer holds at the end. A line for each public function, by its path.
use Rattle.loader.proofs as loader
use Rattle.loader_track.proofs as loader_track
use Rattle.player.proofs as player
use Rattle.bank.proofs as bank
use Rattle.rows.proofs as rows
use Rattle.event.proofs as event
use Rattle.claims.specs.Calls.{OneAnswer, OneOutcome, read_row_call, read_rows_call, ◌&◌}
use Rattle.claims.specs.EntryCalls.{number_read_entry, number_write_entry, payload_read_entry, payload_write_entry, format_read_entry, format_encode_entry, timing_read_entry, timing_encode_entry, fps_as_code_entry, fps_from_int_entry, fps_as_f32_entry, smpte_read_entry, smpte_encode_entry, smpte_second_f32_entry, smpte_position_entry, bend_as_int_entry, bend_as_f32_entry, bend_as_f64_entry, event_read_entry, event_length_entry, event_write_entry, list_read_entry, list_length_entry, list_write_entry, event_same_entry, list_same_entry, sounding_after_entry, sounding_counts_entry, sounding_silence_entry, bank_read_entry, bank_track_entry, bank_list_entry, bank_write_entry}

-- `loader`: numbers, payloads, and the rules of a call
pub record NumberEntries : Type 0 where
  pub rules : OneAnswer loader.rules.Reads.Learnt
  pub number_read : OneOutcome loader.numbers.apk_number_read.Reads.Learnt
      (number_read_entry (λ bytes at bits value next padding r. r & value.after & next.after & padding.after))
  pub number_length : OneAnswer loader.numbers.apk_number_length.Reads.Learnt
  pub number_write : OneOutcome loader.numbers.apk_number_write.Reads.Learnt
      (number_write_entry (λ value out at next r. r & out.after & next.after))
  pub payload_read : OneOutcome loader.numbers.apk_payload_read.Reads.Learnt
      (payload_read_entry (λ bytes at bits start length padding r. r & start.after & length.after & padding.after))
  pub payload_write : OneOutcome loader.numbers.apk_payload_write.Reads.Learnt
      (payload_write_entry (λ payload start length out at next r. r & out.after & next.after))

-- `loader`: header fields
pub record HeaderEntries : Type 0 where
  pub format_read : OneOutcome loader.fields.apk_format_read.Reads.Learnt
      (format_read_entry (λ bytes format r. r & format.after))
  pub format_encode : OneOutcome loader.fields.apk_format_encode.Reads.Learnt
      (format_encode_entry (λ format bytes r. r & bytes.after))
  pub timing_read_lem : OneOutcome loader.fields.apk_timing_read.Reads.Learnt
      (timing_read_entry (λ bytes ticks rate subframe r. r & ticks.after & rate.after & subframe.after))
  pub timing_encode : OneOutcome loader.fields.apk_timing_encode.Reads.Learnt
      (timing_encode_entry (λ ticks rate subframe bytes r. r & bytes.after))

-- `loader`: rates and SMPTE times
pub record TimeEntries : Type 0 where
  pub fps_from_code : OneAnswer loader.smpte.apk_fps_from_code.Reads.Learnt
  pub fps_as_code : OneOutcome loader.smpte.apk_fps_as_code.Reads.Learnt
      (fps_as_code_entry (λ rate code r. r & code.after))
  pub fps_from_int : OneOutcome loader.smpte.apk_fps_from_int.Reads.Learnt
      (fps_from_int_entry (λ raw rate r. r & rate.after))
  pub fps_as_f32 : OneOutcome loader.smpte.apk_fps_as_f32.Reads.Learnt
      (fps_as_f32_entry (λ rate frames r. r & frames.after))
  pub smpte_new : OneAnswer loader.smpte.apk_smpte_new.Reads.Learnt
  pub smpte_read : OneOutcome loader.smpte.apk_smpte_read.Reads.Learnt
      (smpte_read_entry (λ first minute second frame subframe bits time r. r & time.after))
  pub smpte_encode : OneOutcome loader.smpte.apk_smpte_encode.Reads.Learnt
      (smpte_encode_entry (λ hour minute second frame subframe rate bits bytes r. r & bytes.after))
  pub smpte_second_f32 : OneOutcome loader.smpte.apk_smpte_second_f32.Reads.Learnt
      (smpte_second_f32_entry (λ hour minute second frame subframe rate bits seconds r. r & seconds.after))
  pub smpte_position : OneOutcome loader.smpte.apk_smpte_position.Reads.Learnt
      (smpte_position_entry (λ hour minute second frame subframe rate bits subframes r. r & subframes.after))

-- `loader`: bends
pub record BendEntries : Type 0 where
  pub bend_min_raw_value : OneAnswer loader.bends.apk_bend_min_raw_value.Reads.Learnt
  pub bend_mid_raw_value : OneAnswer loader.bends.apk_bend_mid_raw_value.Reads.Learnt
  pub bend_max_raw_value : OneAnswer loader.bends.apk_bend_max_raw_value.Reads.Learnt
  pub bend_from_int : OneAnswer loader.bends.apk_bend_from_int.Reads.Learnt
  pub bend_from_f32 : OneAnswer loader.bends.apk_bend_from_f32.Reads.Learnt
  pub bend_from_f64 : OneAnswer loader.bends.apk_bend_from_f64.Reads.Learnt
  pub bend_as_int : OneOutcome loader.bends.apk_bend_as_int.Reads.Learnt
      (bend_as_int_entry (λ raw int r. r & int.after))
  pub bend_as_f32 : OneOutcome loader.bends.apk_bend_as_f32.Reads.Learnt
      (bend_as_f32_entry (λ raw float r. r & float.after))
  pub bend_as_f64 : OneOutcome loader.bends.apk_bend_as_f64.Reads.Learnt
      (bend_as_f64_entry (λ raw float r. r & float.after))

-- `loader_track`: one event
pub record EventEntries : Type 0 where
  pub event_read_lem : OneOutcome loader_track.events.apk_event_read.Reads.Learnt
      (event_read_entry (λ bytes at running bits row used after padding r. r & row.after & used.after & after.after & padding.after))
  pub event_length : OneOutcome loader_track.events.apk_event_length.Reads.Learnt
      (event_length_entry (λ row payload running bits length after r. r & length.after & after.after))
  pub event_write : OneOutcome loader_track.events.apk_event_write.Reads.Learnt
      (event_write_entry (λ row payload running bits out at next after r. r & out.after & next.after & after.after))

-- `loader_track`: lists
pub record ListEntries : Type 0 where
  pub list_read : OneOutcome loader_track.list_read.apk_list_read.Reads.Learnt
      (list_read_entry (λ bytes at running bits rows count place after padding r.
      r & rows.after & count.after & place.after & after.after & padding.after))
  pub list_length : OneOutcome loader_track.list_write.apk_list_length.Reads.Learnt
      (list_length_entry (λ rows count payload running bits length after index r. r & length.after & after.after & index.after))
  pub list_write : OneOutcome loader_track.list_write.apk_list_write.Reads.Learnt
      (list_write_entry (λ rows count payload running bits out length after index r. r & out.after & length.after & after.after & index.after))

-- `loader_track`: sameness
pub record Sameness : Type 0 where
  pub event_same : OneOutcome loader_track.sameness.apk_event_same.Reads.Learnt
      (event_same_entry (λ rowA bytesA rowB bytesB same r. r & same.after))
  pub list_same : OneOutcome loader_track.sameness.apk_list_same.Reads.Learnt
      (list_same_entry (λ rowsA count_a bytesA rowsB countB bytesB same r. r & same.after))

-- `player`: notes still sounding
pub record SoundingEntries : Type 0 where
  pub sounding_after : OneOutcome player.entries.apk_sounding_after.Reads.Learnt
      (sounding_after_entry (λ rows count table r. r & table.after))
  pub sounding_counts : OneOutcome player.entries.apk_sounding_counts.Reads.Learnt
      (sounding_counts_entry (λ table sounding r. r & sounding.after))
  pub sounding_silence : OneOutcome player.entries.apk_sounding_silence.Reads.Learnt
      (sounding_silence_entry (λ table channel key rows count r. r & rows.after & count.after))

-- `bank`: a bank of programs
pub record BankEntries : Type 0 where
  pub bank_read : OneOutcome bank.entries.apk_bank_read.Reads.Learnt
      (bank_read_entry (λ block ranges count r. r & ranges.after & count.after))
  pub bank_track_lem : OneOutcome bank.entries.apk_bank_track.Reads.Learnt
      (bank_track_entry (λ block index start length r. r & start.after & length.after))
  pub bank_list : OneOutcome bank.entries.apk_bank_list.Reads.Learnt
      (bank_list_entry (λ block index bits rows count place after padding r.
      r & rows.after & count.after & place.after & after.after & padding.after))
  pub bank_write : OneOutcome bank.entries.apk_bank_write.Reads.Learnt
      (bank_write_entry (λ bytes ranges count out total r. r & out.after & total.after))

-- `rows`: an event read into a row of numbers, and a list into rows
pub record Sheets : Type 0 where
  pub read_row : OneOutcome rows.one.read_row.Reads.Learnt (read_row_call (λ raw at running rules row r end. r & end))
  pub read_rows : OneOutcome rows.lists.read_rows.Reads.Learnt (read_rows_call (λ raw at running rules cells r end. r & end))

-- `event`: one event read with the running status handed over
pub record HandedOver : Type 0 where
  pub read_step : OneAnswer event.running.read_step.Reads.Learnt

-- all of them
pub record Entries : Type 0 where
  pub numbers : NumberEntries
  pub headers : HeaderEntries
  pub times : TimeEntries
  pub bends : BendEntries
  pub events : EventEntries
  pub lists : ListEntries
  pub sameness : Sameness
  pub sounding : SoundingEntries
  pub banks : BankEntries
  pub sheets : Sheets
  pub handed_over : HandedOver
