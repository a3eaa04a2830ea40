-- No function has a `requires`: what it asks is nothing, of whatever arguments.
use Rattle.claims.specs.EveryInput.{AnyBase, AnyNumber, AnyHeader, AnyMidi, AnyMeta, AnyEvent, AnyTrack, AnyRows, AnyWrite, AnySame, AnyLoader, AnyLoaderTrack, AnyPlayer, AnyBank, EveryInput}

base : AnyBase
base =
    record {
      u2_max_value = λ κs a. tt;
      u2_new = λ κs a. tt;
      u2_try_from = λ κs a. tt;
      u2_as_int = λ κs a. tt;
      u2_low = λ κs a. tt;
      u4_max_value = λ κs a. tt;
      u4_new = λ κs a. tt;
      u4_try_from = λ κs a. tt;
      u4_as_int = λ κs a. tt;
      u4_low = λ κs a. tt;
      u7_max_value = λ κs a. tt;
      u7_new = λ κs a. tt;
      u7_try_from = λ κs a. tt;
      u7_as_int = λ κs a. tt;
      u7_low = λ κs a. tt;
      u14_max_value = λ κs a. tt;
      u14_new = λ κs a. tt;
      u14_try_from = λ κs a. tt;
      u14_as_int = λ κs a. tt;
      u14_low = λ κs a. tt;
      u15_max_value = λ κs a. tt;
      u15_new = λ κs a. tt;
      u15_try_from = λ κs a. tt;
      u15_as_int = λ κs a. tt;
      u15_low = λ κs a. tt;
      u24_max_value = λ κs a. tt;
      u24_new = λ κs a. tt;
      u24_try_from = λ κs a. tt;
      u24_as_int = λ κs a. tt;
      u24_low = λ κs a. tt;
      refusal_number = λ κs a. tt;
      is_valid = λ κs a. tt;
    }

number : AnyNumber
number =
    record {
      u28_max_value = λ κs a. tt;
      u28_new = λ κs a. tt;
      u28_try_from = λ κs a. tt;
      u28_as_int = λ κs a. tt;
      u28_low = λ κs a. tt;
      read_u7 = λ κs a. tt;
      varlen_length = λ κs a. tt;
      write_varlen = λ κs a. tt;
      read_varlen_slice = λ κs a. tt;
      write_varlen_slice = λ κs a. tt;
      is_inside = λ κs a. tt;
      write_slice = λ κs a. tt;
    }

header : AnyHeader
header =
    record {
      format_read = λ κs a. tt;
      format_encode = λ κs a. tt;
      timing_read_lem = λ κs a. tt;
      timing_encode = λ κs a. tt;
      fps_from_code = λ κs a. tt;
      fps_as_code = λ κs a. tt;
      fps_from_int = λ κs a. tt;
      fps_as_int = λ κs a. tt;
      fps_as_f32 = λ κs a. tt;
      smpte_new = λ κs a. tt;
      smpte_in_range = λ κs a. tt;
      smpte_hour = λ κs a. tt;
      smpte_minute = λ κs a. tt;
      smpte_second = λ κs a. tt;
      smpte_frame = λ κs a. tt;
      smpte_subframe = λ κs a. tt;
      smpte_fps = λ κs a. tt;
      smpte_second_f32 = λ κs a. tt;
      smpte_position = λ κs a. tt;
      smpte_read = λ κs a. tt;
      smpte_encode = λ κs a. tt;
      word = λ κs a. tt;
      from_byte = λ κs a. tt;
      to_byte = λ κs a. tt;
      negated = λ κs a. tt;
    }

midi : AnyMidi
midi =
    record {
      min_raw_value = λ κs a. tt;
      mid_raw_value = λ κs a. tt;
      max_raw_value = λ κs a. tt;
      from_int = λ κs a. tt;
      from_f32 = λ κs a. tt;
      from_f64 = λ κs a. tt;
      as_int = λ κs a. tt;
      as_f32 = λ κs a. tt;
      as_f64 = λ κs a. tt;
      msg_length = λ κs a. tt;
    }

meta : AnyMeta
meta =
    record {
      meta_read_lem = λ κs a. tt;
    }

event : AnyEvent
event =
    record {
      event_read_lem = λ κs a. tt;
      read_step = λ κs a. tt;
    }

track : AnyTrack
track =
    record {
      list_new = λ κs a. tt;
      list_read = λ κs a. tt;
      cursor_next = λ κs a. tt;
      recorded = λ κs a. tt;
    }

rows : AnyRows
rows =
    record {
      kind_row = λ κs a. tt;
      event_row = λ κs a. tt;
      are_bytes = λ κs a. tt;
      event_of_row = λ κs a. tt;
      event_of_row_at = λ κs a. tt;
      read_row = λ κs a. tt;
      read_rows = λ κs a. tt;
    }

write : AnyWrite
write =
    record {
      event_length = λ κs a. tt;
      write_event_lem = λ κs a. tt;
      row_length = λ κs a. tt;
      write_row = λ κs a. tt;
      list_length = λ κs a. tt;
      write_list_lem = λ κs a. tt;
      rows_length = λ κs a. tt;
      write_rows = λ κs a. tt;
    }

same : AnySame
same =
    record {
      same_event = λ κs a. tt;
      same_list_lem = λ κs a. tt;
      same_rows = λ κs a. tt;
      same_row_lists = λ κs a. tt;
    }

loader : AnyLoader
loader =
    record {
      rules = λ κs a. tt;
      number_read = λ κs a. tt;
      number_length = λ κs a. tt;
      number_write = λ κs a. tt;
      payload_read = λ κs a. tt;
      payload_write = λ κs a. tt;
      format_read = λ κs a. tt;
      format_encode = λ κs a. tt;
      timing_read_lem = λ κs a. tt;
      timing_encode = λ κs a. tt;
      fps_from_code = λ κs a. tt;
      fps_as_code = λ κs a. tt;
      fps_from_int = λ κs a. tt;
      fps_as_f32 = λ κs a. tt;
      smpte_new = λ κs a. tt;
      smpte_read = λ κs a. tt;
      smpte_encode = λ κs a. tt;
      smpte_second_f32 = λ κs a. tt;
      smpte_position = λ κs a. tt;
      bend_min_raw_value = λ κs a. tt;
      bend_mid_raw_value = λ κs a. tt;
      bend_max_raw_value = λ κs a. tt;
      bend_from_int = λ κs a. tt;
      bend_from_f32 = λ κs a. tt;
      bend_from_f64 = λ κs a. tt;
      bend_as_int = λ κs a. tt;
      bend_as_f32 = λ κs a. tt;
      bend_as_f64 = λ κs a. tt;
    }

loader_track : AnyLoaderTrack
loader_track =
    record {
      event_read_lem = λ κs a. tt;
      event_length = λ κs a. tt;
      event_write = λ κs a. tt;
      list_read = λ κs a. tt;
      list_length = λ κs a. tt;
      list_write = λ κs a. tt;
      event_same = λ κs a. tt;
      list_same = λ κs a. tt;
    }

player : AnyPlayer
player =
    record {
      fresh = λ κs a. tt;
      counts = λ κs a. tt;
      after = λ κs a. tt;
      silence = λ κs a. tt;
      sounding_after = λ κs a. tt;
      sounding_counts = λ κs a. tt;
      sounding_silence = λ κs a. tt;
    }

bank : AnyBank
bank =
    record {
      read_bank_lem = λ κs a. tt;
      bank_track_lem = λ κs a. tt;
      list_track = λ κs a. tt;
      write_bank_lem = λ κs a. tt;
      bank_read = λ κs a. tt;
      bank_track_entry = λ κs a. tt;
      bank_list = λ κs a. tt;
      bank_write = λ κs a. tt;
    }

pub every_input : EveryInput
every_input = record { base = base; number = number; header = header; midi = midi; meta = meta; event = event; track = track; rows = rows; write = write; same = same; loader = loader; loader_track = loader_track; player = player; bank = bank }
