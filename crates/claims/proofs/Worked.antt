-- Document 01's worked bytes follow from the definitions, by computation.
use mathlib.Core.Path.{refl}
use Rattle.smf.specs.Running.{is_running}
use Rattle.smf.specs.Number.{ahead, encode_number, number_from, read_number}
use Rattle.smf.specs.Payload.{payload_after, read_payload}
use Rattle.smf.specs.Signed.{signed_byte}
use Rattle.smf.specs.Smpte.{is_rate, rate_of_code, is_time, to_time, time_of}
use Rattle.smf.specs.Wire.{data_length, read_one, read_two, read_channel, read_meta, read_status, read_body, after_delta, read_raw}
use Rattle.smf.specs.Kind.{message_two, is_text, called_meta, called}
use Rattle.smf.specs.Event.{map_meta, map_kind, map_event, named, name_raw, read_event, placed, event_at}
use Rattle.claims.specs.Worked.{AsWorked}

pub as_worked : AsWorked
unfolding is_running ahead encode_number number_from read_number payload_after read_payload signed_byte is_rate rate_of_code is_time to_time time_of data_length read_one read_two read_channel read_meta read_status read_body after_delta read_raw message_two is_text called_meta called map_meta map_kind map_event named name_raw read_event placed event_at
as_worked = refl
