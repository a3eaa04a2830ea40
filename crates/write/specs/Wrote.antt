-- What writing an event answers, in the terms of the definitions, with what the buffer holds at the end.
use Rattle.write.specs.declared.answer.WriteRefused.{WriteRefused}
use Rattle.write.specs.declared.answer.Past.{Past}
use Rattle.std.specs.Prelude.{List, ℕ, Err, Ok, Result}
use Rattle.smf.specs.Answer.{Answer, gives, refuses}
use Rattle.smf.specs.Wire.{RawEvent, encode_raw_event, running_after}
use Rattle.smf.specs.Write.{left, put}
use Rattle.smf.specs.Event.{EventWritten, event_written}
use Rattle.base.specs.Refusal.{number_of}

-- what each case of a written event says, with the buffer at the end
abbrev pub wrote_event : Result Past WriteRefused → List ℕ → EventWritten
wrote_event (Ok p) buffer =
    record { written = record { buffer = buffer; answer = gives p.next }; running = p.running.status }
wrote_event (Err n) buffer =
    record { written = record { buffer = buffer; answer = refuses (number_of n.refusal) }; running = n.running.status }

-- what writing a raw event, or its refusal, leaves: document 01, 20 where there is no room, after what forbids the event itself
unfoldable pub write_raw : ℕ → Answer RawEvent → List ℕ → ℕ → EventWritten
write_raw running (gives e) buffer at = event_written running (running_after e.raw) (put (encode_raw_event running e) buffer at)
write_raw running (refuses n) buffer at = event_written running running (left buffer n)
