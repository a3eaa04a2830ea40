-- What is shown of a call of an exported entry, by the names of its parameters in the source and in `include/apkarewe.h`: the arguments in their
-- order, each lent value with what it holds before and after, and the answer last. Those that are lent nothing and refuse nothing need no names.
use Rattle.std.specs.Prelude.{List, ℕ, ℤ, Float}
use Rattle.loader.proofs as loader
use Rattle.loader_track.proofs as loader_track
use Rattle.player.proofs as player
use Rattle.bank.proofs as bank
use Rattle.claims.specs.Calls.{Shows, Lent, while_lent, first, second, third, fourth, fifth, sixth, seventh, eighth, ninth}

module _ {ℓ} {X : Type ℓ} where
  -- Numbers and payloads

  -- `apk_number_read(bytes, at, bits, value, next, padding)`
  abbrev pub number_read_entry : (List ℕ → ℕ → ℕ → Lent ℕ → Lent ℕ → Lent ℕ → ℕ → X) → Shows loader.numbers.apk_number_read.Reads.Learnt X
  number_read_entry show κs a r e = show (first a).now (second a) (third a) (while_lent (fourth a) (fourth e)) (while_lent (fifth a) (fifth e)) (while_lent (sixth a) (sixth e)) r

  -- `apk_number_write(value, out, at, next)`
  abbrev pub number_write_entry : (ℕ → Lent (List ℕ) → ℕ → Lent ℕ → ℕ → X) → Shows loader.numbers.apk_number_write.Reads.Learnt X
  number_write_entry show κs a r e = show (first a) (while_lent (second a) (second e)) (third a) (while_lent (fourth a) (fourth e)) r

  -- `apk_payload_read(bytes, at, bits, start, length, padding)`
  abbrev pub payload_read_entry : (List ℕ → ℕ → ℕ → Lent ℕ → Lent ℕ → Lent ℕ → ℕ → X) → Shows loader.numbers.apk_payload_read.Reads.Learnt X
  payload_read_entry show κs a r e = show (first a).now (second a) (third a) (while_lent (fourth a) (fourth e)) (while_lent (fifth a) (fifth e)) (while_lent (sixth a) (sixth e)) r

  -- `apk_payload_write(payload, start, length, out, at, next)`
  abbrev pub payload_write_entry : (List ℕ → ℕ → ℕ → Lent (List ℕ) → ℕ → Lent ℕ → ℕ → X) → Shows loader.numbers.apk_payload_write.Reads.Learnt X
  payload_write_entry show κs a r e = show (first a).now (second a) (third a) (while_lent (fourth a) (fourth e)) (fifth a) (while_lent (sixth a) (sixth e)) r

  -- Header fields

  -- `apk_format_read(bytes, format)`
  abbrev pub format_read_entry : (List ℕ → Lent ℕ → ℕ → X) → Shows loader.fields.apk_format_read.Reads.Learnt X
  format_read_entry show κs a r e = show (first a).now (while_lent (second a) (second e)) r

  -- `apk_format_encode(format, bytes)`
  abbrev pub format_encode_entry : (ℕ → Lent (List ℕ) → ℕ → X) → Shows loader.fields.apk_format_encode.Reads.Learnt X
  format_encode_entry show κs a r e = show (first a) (while_lent (second a) (second e)) r

  -- `apk_timing_read(bytes, ticks, rate, subframe)`
  abbrev pub timing_read_entry : (List ℕ → Lent ℕ → Lent ℕ → Lent ℕ → ℕ → X) → Shows loader.fields.apk_timing_read.Reads.Learnt X
  timing_read_entry show κs a r e = show (first a).now (while_lent (second a) (second e)) (while_lent (third a) (third e)) (while_lent (fourth a) (fourth e)) r

  -- `apk_timing_encode(ticks, rate, subframe, bytes)`
  abbrev pub timing_encode_entry : (ℕ → ℕ → ℕ → Lent (List ℕ) → ℕ → X) → Shows loader.fields.apk_timing_encode.Reads.Learnt X
  timing_encode_entry show κs a r e = show (first a) (second a) (third a) (while_lent (fourth a) (fourth e)) r

  -- Rates and SMPTE times

  -- `apk_fps_as_code(rate, code)`
  abbrev pub fps_as_code_entry : (ℕ → Lent ℕ → ℕ → X) → Shows loader.smpte.apk_fps_as_code.Reads.Learnt X
  fps_as_code_entry show κs a r e = show (first a) (while_lent (second a) (second e)) r

  -- `apk_fps_from_int(raw, rate)`
  abbrev pub fps_from_int_entry : (ℕ → Lent ℕ → ℕ → X) → Shows loader.smpte.apk_fps_from_int.Reads.Learnt X
  fps_from_int_entry show κs a r e = show (first a) (while_lent (second a) (second e)) r

  -- `apk_fps_as_f32(rate, frames)`
  abbrev pub fps_as_f32_entry : (ℕ → Lent Float → ℕ → X) → Shows loader.smpte.apk_fps_as_f32.Reads.Learnt X
  fps_as_f32_entry show κs a r e = show (first a) (while_lent (second a) (second e)) r

  -- `apk_smpte_new(hour, minute, second, frame, subframe, rate, bits)`
  abbrev pub smpte_new_entry : (ℕ → ℕ → ℕ → ℕ → ℕ → ℕ → ℕ → ℕ → X) → Shows loader.smpte.apk_smpte_new.Reads.Learnt X
  smpte_new_entry show κs a r e = show (first a) (second a) (third a) (fourth a) (fifth a) (sixth a) (seventh a) r

  -- `apk_smpte_read(first, minute, second, frame, subframe, bits, time)`
  abbrev pub smpte_read_entry : (ℕ → ℕ → ℕ → ℕ → ℕ → ℕ → Lent (List ℕ) → ℕ → X) → Shows loader.smpte.apk_smpte_read.Reads.Learnt X
  smpte_read_entry show κs a r e = show (first a) (second a) (third a) (fourth a) (fifth a) (sixth a) (while_lent (seventh a) (seventh e)) r

  -- `apk_smpte_encode(hour, minute, second, frame, subframe, rate, bits, bytes)`
  abbrev pub smpte_encode_entry : (ℕ → ℕ → ℕ → ℕ → ℕ → ℕ → ℕ → Lent (List ℕ) → ℕ → X) → Shows loader.smpte.apk_smpte_encode.Reads.Learnt X
  smpte_encode_entry show κs a r e = show (first a) (second a) (third a) (fourth a) (fifth a) (sixth a) (seventh a) (while_lent (eighth a) (eighth e)) r

  -- `apk_smpte_second_f32(hour, minute, second, frame, subframe, rate, bits, seconds)`
  abbrev pub smpte_second_f32_entry : (ℕ → ℕ → ℕ → ℕ → ℕ → ℕ → ℕ → Lent Float → ℕ → X) → Shows loader.smpte.apk_smpte_second_f32.Reads.Learnt X
  smpte_second_f32_entry show κs a r e = show (first a) (second a) (third a) (fourth a) (fifth a) (sixth a) (seventh a) (while_lent (eighth a) (eighth e)) r

  -- `apk_smpte_position(hour, minute, second, frame, subframe, rate, bits, subframes)`
  abbrev pub smpte_position_entry : (ℕ → ℕ → ℕ → ℕ → ℕ → ℕ → ℕ → Lent ℕ → ℕ → X) → Shows loader.smpte.apk_smpte_position.Reads.Learnt X
  smpte_position_entry show κs a r e = show (first a) (second a) (third a) (fourth a) (fifth a) (sixth a) (seventh a) (while_lent (eighth a) (eighth e)) r

  -- Bends

  -- `apk_bend_as_int(raw, int)`
  abbrev pub bend_as_int_entry : (ℕ → Lent ℤ → ℕ → X) → Shows loader.bends.apk_bend_as_int.Reads.Learnt X
  bend_as_int_entry show κs a r e = show (first a) (while_lent (second a) (second e)) r

  -- `apk_bend_as_f32(raw, float)`
  abbrev pub bend_as_f32_entry : (ℕ → Lent Float → ℕ → X) → Shows loader.bends.apk_bend_as_f32.Reads.Learnt X
  bend_as_f32_entry show κs a r e = show (first a) (while_lent (second a) (second e)) r

  -- `apk_bend_as_f64(raw, float)`
  abbrev pub bend_as_f64_entry : (ℕ → Lent Float → ℕ → X) → Shows loader.bends.apk_bend_as_f64.Reads.Learnt X
  bend_as_f64_entry show κs a r e = show (first a) (while_lent (second a) (second e)) r

  -- One event, as a row of cells

  -- `apk_event_read(bytes, at, running, bits, row, used, after, padding)`
  abbrev pub event_read_entry : (List ℕ → ℕ → ℕ → ℕ → Lent (List ℕ) → Lent ℕ → Lent ℕ → Lent ℕ → ℕ → X) → Shows loader_track.events.apk_event_read.Reads.Learnt X
  event_read_entry show κs a r e = show (first a).now (second a) (third a) (fourth a) (while_lent (fifth a) (fifth e)) (while_lent (sixth a) (sixth e)) (while_lent (seventh a) (seventh e)) (while_lent (eighth a) (eighth e)) r

  -- `apk_event_length(row, payload, running, bits, length, after)`
  abbrev pub event_length_entry : (List ℕ → List ℕ → ℕ → ℕ → Lent ℕ → Lent ℕ → ℕ → X) → Shows loader_track.events.apk_event_length.Reads.Learnt X
  event_length_entry show κs a r e = show (first a).now (second a).now (third a) (fourth a) (while_lent (fifth a) (fifth e)) (while_lent (sixth a) (sixth e)) r

  -- `apk_event_write(row, payload, running, bits, out, at, next, after)`
  abbrev pub event_write_entry : (List ℕ → List ℕ → ℕ → ℕ → Lent (List ℕ) → ℕ → Lent ℕ → Lent ℕ → ℕ → X) → Shows loader_track.events.apk_event_write.Reads.Learnt X
  event_write_entry show κs a r e = show (first a).now (second a).now (third a) (fourth a) (while_lent (fifth a) (fifth e)) (sixth a) (while_lent (seventh a) (seventh e)) (while_lent (eighth a) (eighth e)) r

  -- A list, read into rows

  -- `apk_list_read(bytes, at, running, bits, rows, count, place, after, padding)`
  abbrev pub list_read_entry : (List ℕ → ℕ → ℕ → ℕ → Lent (List ℕ) → Lent ℕ → Lent ℕ → Lent ℕ → Lent ℕ → ℕ → X) → Shows loader_track.list_read.apk_list_read.Reads.Learnt X
  list_read_entry show κs a r e = show (first a).now (second a) (third a) (fourth a) (while_lent (fifth a) (fifth e)) (while_lent (sixth a) (sixth e)) (while_lent (seventh a) (seventh e)) (while_lent (eighth a) (eighth e)) (while_lent (ninth a) (ninth e)) r

  -- A list of rows, measured and written

  -- `apk_list_length(rows, count, payload, running, bits, length, after, index)`
  abbrev pub list_length_entry : (List ℕ → ℕ → List ℕ → ℕ → ℕ → Lent ℕ → Lent ℕ → Lent ℕ → ℕ → X) → Shows loader_track.list_write.apk_list_length.Reads.Learnt X
  list_length_entry show κs a r e = show (first a).now (second a) (third a).now (fourth a) (fifth a) (while_lent (sixth a) (sixth e)) (while_lent (seventh a) (seventh e)) (while_lent (eighth a) (eighth e)) r

  -- `apk_list_write(rows, count, payload, running, bits, out, length, after, index)`
  abbrev pub list_write_entry : (List ℕ → ℕ → List ℕ → ℕ → ℕ → Lent (List ℕ) → Lent ℕ → Lent ℕ → Lent ℕ → ℕ → X) → Shows loader_track.list_write.apk_list_write.Reads.Learnt X
  list_write_entry show κs a r e = show (first a).now (second a) (third a).now (fourth a) (fifth a) (while_lent (sixth a) (sixth e)) (while_lent (seventh a) (seventh e)) (while_lent (eighth a) (eighth e)) (while_lent (ninth a) (ninth e)) r

  -- Sameness

  -- `apk_event_same(row_a, bytes_a, row_b, bytes_b, same)`
  abbrev pub event_same_entry : (List ℕ → List ℕ → List ℕ → List ℕ → Lent ℕ → ℕ → X) → Shows loader_track.sameness.apk_event_same.Reads.Learnt X
  event_same_entry show κs a r e = show (first a).now (second a).now (third a).now (fourth a).now (while_lent (fifth a) (fifth e)) r

  -- `apk_list_same(rows_a, count_a, bytes_a, rows_b, count_b, bytes_b, same)`
  abbrev pub list_same_entry : (List ℕ → ℕ → List ℕ → List ℕ → ℕ → List ℕ → Lent ℕ → ℕ → X) → Shows loader_track.sameness.apk_list_same.Reads.Learnt X
  list_same_entry show κs a r e = show (first a).now (second a) (third a).now (fourth a).now (fifth a) (sixth a).now (while_lent (seventh a) (seventh e)) r

  -- Notes still sounding

  -- `apk_sounding_after(rows, count, table)`
  abbrev pub sounding_after_entry : (List ℕ → ℕ → Lent (List ℕ) → ℕ → X) → Shows player.entries.apk_sounding_after.Reads.Learnt X
  sounding_after_entry show κs a r e = show (first a).now (second a) (while_lent (third a) (third e)) r

  -- `apk_sounding_counts(table, sounding)`
  abbrev pub sounding_counts_entry : (List ℕ → Lent (List ℕ) → Unit {0} → X) → Shows player.entries.apk_sounding_counts.Reads.Learnt X
  sounding_counts_entry show κs a r e = show (first a).now (while_lent (second a) (second e)) r

  -- `apk_sounding_silence(table, channel, key, rows, count)`
  abbrev pub sounding_silence_entry : (List ℕ → ℕ → ℕ → Lent (List ℕ) → Lent ℕ → ℕ → X) → Shows player.entries.apk_sounding_silence.Reads.Learnt X
  sounding_silence_entry show κs a r e = show (first a).now (second a) (third a) (while_lent (fourth a) (fourth e)) (while_lent (fifth a) (fifth e)) r

  -- A bank of programs

  -- `apk_bank_read(block, ranges, count)`
  abbrev pub bank_read_entry : (List ℕ → Lent (List ℕ) → Lent ℕ → ℕ → X) → Shows bank.entries.apk_bank_read.Reads.Learnt X
  bank_read_entry show κs a r e = show (first a).now (while_lent (second a) (second e)) (while_lent (third a) (third e)) r

  -- `apk_bank_track(block, index, start, length)`
  abbrev pub bank_track_entry : (List ℕ → ℕ → Lent ℕ → Lent ℕ → ℕ → X) → Shows bank.entries.apk_bank_track.Reads.Learnt X
  bank_track_entry show κs a r e = show (first a).now (second a) (while_lent (third a) (third e)) (while_lent (fourth a) (fourth e)) r

  -- `apk_bank_list(block, index, bits, rows, count, place, after, padding)`
  abbrev pub bank_list_entry : (List ℕ → ℕ → ℕ → Lent (List ℕ) → Lent ℕ → Lent ℕ → Lent ℕ → Lent ℕ → ℕ → X) → Shows bank.entries.apk_bank_list.Reads.Learnt X
  bank_list_entry show κs a r e = show (first a).now (second a) (third a) (while_lent (fourth a) (fourth e)) (while_lent (fifth a) (fifth e)) (while_lent (sixth a) (sixth e)) (while_lent (seventh a) (seventh e)) (while_lent (eighth a) (eighth e)) r

  -- `apk_bank_write(bytes, ranges, count, out, total)`
  abbrev pub bank_write_entry : (List ℕ → List ℕ → ℕ → Lent (List ℕ) → Lent ℕ → ℕ → X) → Shows bank.entries.apk_bank_write.Reads.Learnt X
  bank_write_entry show κs a r e = show (first a).now (second a).now (third a) (while_lent (fourth a) (fourth e)) (while_lent (fifth a) (fifth e)) r
