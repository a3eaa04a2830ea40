-- How long an event's bytes are, and the running status that they leave.
use Rattle.base.specs.declared.Refusal.{Refusal}
use Rattle.std.specs.Prelude.{List, ℕ, length, Result}
use Rattle.smf.specs.Answer.{pick, Answer, gives, refuses, and_then}
use Rattle.smf.specs.Running.{is_running}
use Rattle.smf.specs.Wire.{RawEvent, encode_raw_event, running_after}
use Rattle.smf.specs.Event.{Event}
use Rattle.base.specs.Said.{said}
use Rattle.write.specs.Raw.{raw_judged}
use Rattle.write.specs.declared.answer.Size as answer

-- an event's length, and the running status after it
pub record Size : Type 0 where
  pub length : ℕ
  pub running : ℕ

-- a length and the running status after it
abbrev pub size : ℕ → ℕ → Size
size length running = record { length = length; running = running }

-- what a value of the code says
abbrev pub size_of : answer.Size → Size
size_of s = size s.length s.running.status

-- what each case of a measured event says
abbrev pub length_said : Result answer.Size Refusal → Answer Size
length_said = said size_of

-- the size of a raw event, from a running status
abbrev pub raw_size : ℕ → RawEvent → Size
raw_size running e = size (length (encode_raw_event running e)) (running_after e.raw)

-- the size of an event as it was judged; the number that forbids one stays what it is
unfoldable pub size_judged : ℕ → Answer (Event (List ℕ)) → Answer Size
size_judged running judged = and_then (raw_judged judged) (λ raw. gives (raw_size running raw))

-- the size of an event from a running status that is looked at first: 1 where it is invalid
unfoldable pub size_event : ℕ → Answer (Event (List ℕ)) → Answer Size
size_event running judged = pick (is_running running) (size_judged running judged) (refuses 1)

-- no legal event has more bytes: those of the longest payload, and a few
abbrev pub most : ℕ
most = 268435470
