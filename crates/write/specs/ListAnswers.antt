-- What measuring and writing a list answer, in the terms of the definitions, with what the buffer holds at the end.
use Rattle.write.specs.declared.answer.Size.{Size}
use Rattle.write.specs.declared.answer.ListRefused.{ListRefused}
use Rattle.std.specs.Prelude.{◌≡◌, List, map, ℕ, ◌≤◌, length, Err, Ok, Result}
use Rattle.smf.specs.Answer.{Answer, gives}
use Rattle.smf.specs.Write.{over}
use Rattle.smf.specs.Event.{Event}
use Rattle.smf.specs.Lists.{encode_list, wrote, ListSize, unsized, ListWritten, list_left}
use Rattle.base.specs.Refusal.{number_of}

-- what each case of a measured list says
abbrev pub size_said : Result Size ListRefused → ListSize
size_said (Ok s) = record { answer = wrote s.length; running = s.running.status }
size_said (Err n) = unsized n.running.status (number_of n.refusal) n.index

-- what each case of a written list says, with the buffer at the end
abbrev pub wrote_list : Result Size ListRefused → List ℕ → ListWritten
wrote_list (Ok s) buffer = record { buffer = buffer; answer = wrote s.length; running = s.running.status }
wrote_list (Err n) buffer = list_left n.running.status buffer (number_of n.refusal) n.index

-- What putting a list goes by

-- events that were all judged legal, and whose bytes have room
abbrev pub RoomFor : ℕ → List (Answer (Event (List ℕ))) → ℕ → Type 0
RoomFor running judged room = (es : List (Event (List ℕ))) × (judged ≡ map gives es) × (length (encode_list running es) ≤ room)

-- their bytes stand at the front of the buffer, over what was there before
abbrev pub InFront : ℕ → List (Answer (Event (List ℕ))) → List ℕ → List ℕ → Type 0
InFront running judged before after = (es : List (Event (List ℕ))) → judged ≡ map gives es → after ≡ over (encode_list running es) before 0
