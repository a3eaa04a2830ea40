-- Two answers that a promise permits say the same, and no two answers say the same: so they are one.
use Rattle.std.specs.Prelude.{Result}
use mathlib.Core.Path.{◌≡◌, sym, ap, ◌∙◌}
use mathlib.Core.List.{List}
use Prim.Native.Nat.{ℕ}
use lib.ListN.{get_or}
use Rattle.smf.specs.Write.{Written}
use Rattle.smf.specs.Event.{Same}
use Rattle.smf.specs.Lists.{SameList}
use Rattle.track.specs.List.{capacity}
use Rattle.number.specs.Varlen.{write_left}
use Rattle.base.specs.declared.Refusal.{Refusal}
use Rattle.base.proofs.IdenticalNumbers.{tried_u2_injective, tried_u4_injective, tried_u7_injective, tried_u14_injective, tried_u15_injective, tried_u24_injective}
use Rattle.number.proofs.Identical.{tried_u28_injective, number_read_injective, written_to_injective}
use Rattle.number.proofs.IdenticalPayloads.{slice_read_injective}
use Rattle.header.proofs.Identical.{rate_of_injective, tried_fps_injective, format_read_injective, timing_read_injective, timing_encoded_injective}
use Rattle.header.proofs.IdenticalTimes.{tried_smpte_time_injective, encoded_smpte_time_injective, asked_second_injective, asked_position_injective}
use Rattle.midi.proofs.IdenticalBends.{bend_int_injective, bend_f32_injective, bend_f64_injective}
use Rattle.meta.proofs.Identical.{meta_read_injective}
use Rattle.event.proofs.Identical.{event_of_injective, event_read_injective}
use Rattle.event.specs.declared.TrackEvent.{TrackEvent}
use Rattle.track.proofs.Identical.{held_of_injective, list_read_injective, next_of_injective}
use Rattle.write.proofs.Identical.{length_said_injective, wrote_event_injective, size_said_injective, wrote_list_injective}
use Rattle.rows.specs.Rows.{row_numbers}
use Rattle.rows.specs.declared.Row.{Row}
use Rattle.rows.specs.RowEvent.{called_row}
use Rattle.rows.specs.RowLists.{called_rows}
use Rattle.rows.proofs.Identical.{row_answer_injective}
use Rattle.same.specs.OfRows.{rows_asked, lists_asked}
use Rattle.same.proofs.Identical.{tells_identical, says_identical}
use Rattle.bank.proofs.Identical.{bank_read_injective, bank_track_injective, listed_track_injective, bank_left_injective}
use Rattle.claims.proofs.Handed.{table_said_injective, list_said_injective}
use Rattle.claims.specs.Calls.{first, second, third, fourth, fifth, sixth}
use Rattle.claims.proofs.Agree.{joined}
use Rattle.claims.specs.Identical.{Numbers, Headers, Bends, Events, Lists, Notes, Programs, Identical}

-- a row is its numbers
row_of : List ℕ → Row
row_of l =
    record {
      kind = get_or l 0 0;
      a = get_or l 1 0;
      b = get_or l 2 0;
      c = get_or l 3 0;
      d = get_or l 4 0;
      e = get_or l 5 0;
      f = get_or l 6 0;
      start = get_or l 7 0;
      length = get_or l 8 0;
    }

row_numbers_injective : {x y : Row} → row_numbers x ≡ row_numbers y → x ≡ y
unfolding row_of
row_numbers_injective e = ap row_of e

-- a write's answer and its buffer
write_left_injective : {x y : Result ℕ Refusal} {b d : List ℕ} → write_left x b ≡ write_left y d → (x ≡ y) × (b ≡ d)
write_left_injective e = (written_to_injective (ap (λ (w : Written). w.answer) e), ap (λ (w : Written). w.buffer) e)

numbers : Numbers
numbers =
    record {
      u2_max_value = λ κs a y z d e p q. ap (λ (n : ℕ). record { 0 = n }) (p ∙ sym q);
      u2_new = λ κs a y z d e p q. ap (λ (n : ℕ). record { 0 = n }) (p ∙ sym q);
      u2_try_from = λ κs a y z d e p q. tried_u2_injective (p ∙ sym q);
      u2_as_int = λ κs a y z d e p q. p ∙ sym q;
      u2_low = λ κs a y z d e p q. ap (λ (n : ℕ). record { 0 = n }) (p ∙ sym q);
      u4_max_value = λ κs a y z d e p q. ap (λ (n : ℕ). record { 0 = n }) (p ∙ sym q);
      u4_new = λ κs a y z d e p q. ap (λ (n : ℕ). record { 0 = n }) (p ∙ sym q);
      u4_try_from = λ κs a y z d e p q. tried_u4_injective (p ∙ sym q);
      u4_as_int = λ κs a y z d e p q. p ∙ sym q;
      u4_low = λ κs a y z d e p q. ap (λ (n : ℕ). record { 0 = n }) (p ∙ sym q);
      u7_max_value = λ κs a y z d e p q. ap (λ (n : ℕ). record { 0 = n }) (p ∙ sym q);
      u7_new = λ κs a y z d e p q. ap (λ (n : ℕ). record { 0 = n }) (p ∙ sym q);
      u7_try_from = λ κs a y z d e p q. tried_u7_injective (p ∙ sym q);
      u7_as_int = λ κs a y z d e p q. p ∙ sym q;
      u7_low = λ κs a y z d e p q. ap (λ (n : ℕ). record { 0 = n }) (p ∙ sym q);
      u14_max_value = λ κs a y z d e p q. ap (λ (n : ℕ). record { 0 = n }) (p ∙ sym q);
      u14_new = λ κs a y z d e p q. ap (λ (n : ℕ). record { 0 = n }) (p ∙ sym q);
      u14_try_from = λ κs a y z d e p q. tried_u14_injective (p ∙ sym q);
      u14_as_int = λ κs a y z d e p q. p ∙ sym q;
      u14_low = λ κs a y z d e p q. ap (λ (n : ℕ). record { 0 = n }) (p ∙ sym q);
      u15_max_value = λ κs a y z d e p q. ap (λ (n : ℕ). record { 0 = n }) (p ∙ sym q);
      u15_new = λ κs a y z d e p q. ap (λ (n : ℕ). record { 0 = n }) (p ∙ sym q);
      u15_try_from = λ κs a y z d e p q. tried_u15_injective (p ∙ sym q);
      u15_as_int = λ κs a y z d e p q. p ∙ sym q;
      u15_low = λ κs a y z d e p q. ap (λ (n : ℕ). record { 0 = n }) (p ∙ sym q);
      u24_max_value = λ κs a y z d e p q. ap (λ (n : ℕ). record { 0 = n }) (p ∙ sym q);
      u24_new = λ κs a y z d e p q. ap (λ (n : ℕ). record { 0 = n }) (p ∙ sym q);
      u24_try_from = λ κs a y z d e p q. tried_u24_injective (p ∙ sym q);
      u24_as_int = λ κs a y z d e p q. p ∙ sym q;
      u24_low = λ κs a y z d e p q. ap (λ (n : ℕ). record { 0 = n }) (p ∙ sym q);
      u28_max_value = λ κs a y z d e p q. ap (λ (n : ℕ). record { 0 = n }) (p ∙ sym q);
      u28_new = λ κs a y z d e p q. ap (λ (n : ℕ). record { 0 = n }) (p ∙ sym q);
      u28_try_from = λ κs a y z d e p q. tried_u28_injective (p ∙ sym q);
      u28_as_int = λ κs a y z d e p q. p ∙ sym q;
      u28_low = λ κs a y z d e p q. ap (λ (n : ℕ). record { 0 = n }) (p ∙ sym q);
      refusal_number = λ κs a y z d e p q. p ∙ sym q;
      is_valid = λ κs a y z d e p q. p ∙ sym q;
      read_u7 = λ κs a y z d e p q. number_read_injective (p ∙ sym q);
      varlen_length = λ κs a y z d e p q. p ∙ sym q;
      write_varlen = λ κs a y z d e p q. joined (write_left_injective (p ∙ sym q));
      read_varlen_slice = λ κs a y z d e p q. slice_read_injective (p ∙ sym q);
      write_varlen_slice = λ κs a y z d e p q. joined (write_left_injective (p ∙ sym q));
      is_inside = λ κs a y z d e p q. p ∙ sym q;
      write_slice = λ κs a y z d e p q. joined (write_left_injective (p ∙ sym q));
    }

headers : Headers
headers =
    record {
      format_read = λ κs a y z d e p q. format_read_injective (p ∙ sym q);
      format_encode = λ κs a y z d e p q. p ∙ sym q;
      timing_read_lem = λ κs a y z d e p q. timing_read_injective (p ∙ sym q);
      timing_encode = λ κs a y z d e p q. timing_encoded_injective (p ∙ sym q);
      fps_from_code = λ κs a y z d e p q. rate_of_injective (p ∙ sym q);
      fps_as_code = λ κs a y z d e p q. ap (λ (n : ℕ). record { 0 = n }) (p ∙ sym q);
      fps_from_int = λ κs a y z d e p q. tried_fps_injective (p ∙ sym q);
      fps_as_int = λ κs a y z d e p q. p ∙ sym q;
      fps_as_f32 = λ κs a y z d e p q. p ∙ sym q;
      smpte_new = λ κs a y z d e p q. tried_smpte_time_injective (p ∙ sym q);
      smpte_in_range = λ κs a y z d e p q. p ∙ sym q;
      smpte_hour = λ κs a y z d e p q. p ∙ sym q;
      smpte_minute = λ κs a y z d e p q. p ∙ sym q;
      smpte_second = λ κs a y z d e p q. p ∙ sym q;
      smpte_frame = λ κs a y z d e p q. p ∙ sym q;
      smpte_subframe = λ κs a y z d e p q. p ∙ sym q;
      smpte_fps = λ κs a y z d e p q. p ∙ sym q;
      smpte_second_f32 = λ κs a y z d e p q. asked_second_injective (p ∙ sym q);
      smpte_position = λ κs a y z d e p q. asked_position_injective (p ∙ sym q);
      smpte_read = λ κs a y z d e p q. tried_smpte_time_injective (p ∙ sym q);
      smpte_encode = λ κs a y z d e p q. encoded_smpte_time_injective (p ∙ sym q);
      word = λ κs a y z d e p q. p ∙ sym q;
      from_byte = λ κs a y z d e p q. p ∙ sym q;
      to_byte = λ κs a y z d e p q. p ∙ sym q;
      negated = λ κs a y z d e p q. p ∙ sym q;
    }

bends : Bends
bends =
    record {
      min_raw_value = λ κs a y z d e p q. ap (λ (n : ℕ). record { 0 = record { 0 = n } }) (p ∙ sym q);
      mid_raw_value = λ κs a y z d e p q. ap (λ (n : ℕ). record { 0 = record { 0 = n } }) (p ∙ sym q);
      max_raw_value = λ κs a y z d e p q. ap (λ (n : ℕ). record { 0 = record { 0 = n } }) (p ∙ sym q);
      from_int = λ κs a y z d e p q. ap (λ (n : ℕ). record { 0 = record { 0 = n } }) (p ∙ sym q);
      from_f32 = λ κs a y z d e p q. ap (λ (n : ℕ). record { 0 = record { 0 = n } }) (p ∙ sym q);
      from_f64 = λ κs a y z d e p q. ap (λ (n : ℕ). record { 0 = record { 0 = n } }) (p ∙ sym q);
      as_int = λ κs a y z d e p q. bend_int_injective (p ∙ sym q);
      as_f32 = λ κs a y z d e p q. bend_f32_injective (p.0 ∙ sym q.0);
      as_f64 = λ κs a y z d e p q. bend_f64_injective (p.0 ∙ sym q.0);
    }

events : Events
events =
    record {
      msg_length = λ κs a y z d e p q. p ∙ sym q;
      meta_read_lem = λ κs a y z d e p q. meta_read_injective (p ∙ sym q);
      event_read_lem = λ κs a y z d e p q. event_read_injective (p ∙ sym q);
      event_length = λ κs a y z d e p q. length_said_injective (p ∙ sym q);
      write_event_lem = λ κs a y z d e p q. joined (wrote_event_injective (p ∙ sym q));
      row_length = λ κs a y z d e p q. length_said_injective (p ∙ sym q);
      write_row = λ κs a y z d e p q. joined (wrote_event_injective (p ∙ sym q));
    }

lists : Lists
lists =
    record {
      list_new = λ κs a y z d e p q. held_of_injective (p ∙ sym q);
      recorded = λ κs a y z d e p q. ap (λ (own : TrackEvent). record { event = own }) (event_of_injective (p ∙ sym q));
      list_read = λ κs a y z d e p q. list_read_injective (p ∙ sym q);
      cursor_next = λ κs a y z d e p q. next_of_injective (p ∙ sym q);
      list_length = λ κs a y z d e p q. size_said_injective (p ∙ sym q);
      write_list_lem = λ κs a y z d e p q. joined (wrote_list_injective (p ∙ sym q));
      rows_length = λ κs a y z d e p q. size_said_injective (p ∙ sym q);
      write_rows = λ κs a y z d e p q. joined (wrote_list_injective (p ∙ sym q));
      kind_row = λ κs a y z d e p q. row_numbers_injective (p ∙ sym q);
      event_row = λ κs a y z d e p q. p ∙ sym q;
      are_bytes = λ κs a y z d e p q. p ∙ sym q;
      event_of_row = λ κs a y z d e p q. row_answer_injective (p ∙ sym q);
      event_of_row_at = λ κs a y z d e p q. row_answer_injective (p ∙ sym q);
      same_event = λ κs a y z d e p q. tells_identical _ y z p q;
      same_list_lem = λ κs a y z d e p q. tells_identical _ y z p q;
      same_rows = λ κs a y z d e p q.
          says_identical (rows_asked (first a) (third a)) (Same (second a).now (called_row (first a)) (fourth a).now (called_row (third a))) y z p q;
      same_row_lists = λ κs a y z d e p q.
          says_identical (lists_asked capacity (first a).now (second a) (fourth a).now (fifth a))
          (SameList (third a).now (called_rows (second a) (first a).now) (second a) (sixth a).now (called_rows (fifth a) (fourth a).now) (fifth a))
          y z p q;
    }

notes : Notes
notes =
    record {
      fresh = λ κs a y z d e p q. p ∙ sym q;
      counts = λ κs a y z d e p q. p ∙ sym q;
      after = λ κs a y z d e p q. table_said_injective (p ∙ sym q);
      silence = λ κs a y z d e p q. list_said_injective (p ∙ sym q);
    }

programs : Programs
programs =
    record {
      read_bank_lem = λ κs a y z d e p q. bank_read_injective (p ∙ sym q);
      bank_track_lem = λ κs a y z d e p q. bank_track_injective (p ∙ sym q);
      list_track = λ κs a y z d e p q. listed_track_injective (p ∙ sym q);
      write_bank_lem = λ κs a y z d e p q. joined (bank_left_injective (p ∙ sym q));
    }

pub identical : Identical
identical = record { numbers = numbers; headers = headers; bends = bends; events = events; lists = lists; notes = notes; programs = programs }
