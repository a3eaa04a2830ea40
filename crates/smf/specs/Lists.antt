-- Lists of events, read from bytes and written. Document 01, "Lists" and "Refusal numbers".
use Rattle.std.specs.Prelude.{◌≡◌, List, [], ◌∷◌, ◌++◌, map, ℕ, zero, suc, ◌+◌, ◌-◌, leb, length, take, drop, replicate}
use Rattle.smf.specs.Answer.{pick, Answer, gives, refuses, Rules}
use Rattle.smf.specs.Running.{is_running}
use Rattle.smf.specs.Place.{Span, place_of, bytes_of}
use Rattle.smf.specs.Write.{over}
use Rattle.smf.specs.Wire.{Taken, Reading, reads, refused}
use Rattle.smf.specs.Kind.{meta, end_of_track}
use Rattle.smf.specs.Event.{Event, event, map_event, read_event, event_placed, ReadAt, reads_at, refused_at, event_at, legal, encode_event, event_after}

-- Reading

-- why reading stopped: at the end of the bytes; as many read as may be, and bytes left; at an event that was refused, by its number
pub data Stop : Type 0 where
  ended : Stop
  full : Stop
  stopped : ℕ → Stop

-- the events read, each with the bytes and the running status after it; why reading stopped; the bytes and the running status there
pub record ListTaken : Type 0 where
  pub events : List (Taken (Event (List ℕ)))
  pub stop : Stop
  pub rest : List ℕ
  pub running : ℕ

-- a list that stops before its first event
abbrev pub stops_at : Stop → List ℕ → ℕ → ListTaken
stops_at stop rest running = record { events = []; stop = stop; rest = rest; running = running }

-- an event in front of a list
abbrev pub before : Taken (Event (List ℕ)) → ListTaken → ListTaken
before t l = record { events = t ∷ l.events; stop = l.stop; rest = l.rest; running = l.running }

-- go on behind an event; a refused one ends the list, and what is left and the running status are those before it
unfoldable pub go_on : (ℕ → List ℕ → ListTaken) → ℕ → List ℕ → Reading (Taken (Event (List ℕ))) → ListTaken
go_on more running s (reads t) = before t (more t.running t.rest)
go_on more running s (refused n after) = stops_at (stopped n) s running

-- at most so many events more
unfoldable pub read_more : Rules → ℕ → ℕ → List ℕ → ListTaken
read_more rules zero running [] = stops_at ended [] running
read_more rules zero running (b ∷ s) = stops_at full (b ∷ s) running
read_more rules (suc n) running [] = stops_at ended [] running
read_more rules (suc n) running (b ∷ s) = go_on (read_more rules n) running (b ∷ s) (read_event rules running (b ∷ s))

-- a list of at most so many events; 1 comes before all else
unfoldable pub read_list : Rules → ℕ → ℕ → List ℕ → ListTaken
read_list rules most running s = pick (is_running running) (read_more rules most running s) (stops_at (stopped 1) s running)

-- the events by themselves
abbrev pub taken_event : Taken (Event (List ℕ)) → Event (List ℕ)
taken_event t = t.value

-- the events of a list that was read
abbrev pub events_of : ListTaken → List (Event (List ℕ))
events_of l = map taken_event l.events

-- document 02, Q-2: the padding of a list is the sum over its events
unfoldable pub paddings : List (Taken (Event (List ℕ))) → ℕ
paddings [] = 0
paddings (t ∷ ts) = t.padding + paddings ts

-- a list read at a place: payloads as start and length in the bytes lent, the place of the next unread byte, and the padding
pub record ListAt : Type 0 where
  pub events : List (Event Span)
  pub stop : Stop
  pub place : ℕ
  pub running : ℕ
  pub padding : ℕ

-- an event of a list that was read from a place on, with its payload as a range of the bytes lent
abbrev pub event_from : List ℕ → ℕ → Taken (Event (List ℕ)) → Event Span
event_from s at t = (event_placed s at t).event

-- a list that was read from a place on
abbrev pub list_placed : List ℕ → ℕ → ListTaken → ListAt
list_placed s at l =
    record {
      events = map (event_from s at) l.events;
      stop = l.stop;
      place = place_of s at l.rest;
      running = l.running;
      padding = paddings l.events;
    }

-- the list at a place
unfoldable pub list_at : Rules → ℕ → ℕ → List ℕ → ℕ → ListAt
list_at rules most running s at = list_placed s at (read_list rules most running (drop at s))

-- One step of reading a list

-- where a reader is: the place of the next unread byte, the running status there, and how many events it has taken
pub record Reader : Type 0 where
  pub place : ℕ
  pub running : ℕ
  pub count : ℕ

-- the next event of the list, its padding, and where the reader is behind it; or why reading stops, and the reader stays where it is
pub data Next : Type 0 where
  takes : Event Span → (padding : ℕ) → Reader → Next
  stops : Stop → Next

-- one step, by what reading an event answered: on behind it, or stopped by its refusal
unfoldable pub step_on : Reader → ReadAt → Next
step_on r (reads_at a) = takes a.event a.padding (record { place = r.place + a.used; running = a.running; count = r.count + 1 })
step_on r (refused_at n used after padding) = stops (stopped n)

-- document 01: reading stops at the end, or full, with so many read and bytes left, or refused
unfoldable pub next_at : Rules → ℕ → List ℕ → Reader → Next
next_at rules most s r =
    pick (leb (length s) r.place) (stops ended)
    (pick (leb most r.count) (stops full)
    (step_on r (event_at rules r.running s r.place)))

-- document 01: a list holds so many records and a count
pub record Held : Type 0 where
  pub records : List (Event Span)
  pub count : ℕ

-- records past the count are delta 0, `EndOfTrack`
abbrev pub filler : Event Span
filler = event 0 (meta end_of_track)

-- document 01: as many records as a list holds, the events first and fillers behind them
unfoldable pub holding : ℕ → List (Event Span) → Held
holding most es = record { records = es ++ replicate (most - length es) filler; count = length es }

-- a list that was read, as it is held
pub record ListHeld : Type 0 where
  pub list : Held
  pub stop : Stop
  pub place : ℕ
  pub running : ℕ
  pub padding : ℕ

-- what was read, as a list holds it
abbrev pub held_as : ℕ → ListAt → ListHeld
held_as most l = record { list = holding most l.events; stop = l.stop; place = l.place; running = l.running; padding = l.padding }

-- document 01: bytes read as a list when all of them are used
pub record ReadsAs (rules : Rules) (most running : ℕ) (s : List ℕ) (es : List (Event (List ℕ))) : Type 0 where
  pub events : events_of (read_list rules most running s) ≡ es
  pub all : (read_list rules most running s).stop ≡ ended

-- Writing

-- records as they are judged over given payload bytes: each the event that it is, or the number that forbids it
abbrev pub records_judged : Rules → List ℕ → List (Event Span) → List (Answer (Event (List ℕ)))
records_judged rules bytes records = map (legal rules bytes) records

-- the events that were judged, or the first that is illegal: its number, and its index
pub data Checked : Type 0 where
  all_legal : List (Event (List ℕ)) → Checked
  illegal : (number index : ℕ) → Checked

-- one legal event more in front of what was checked
unfoldable pub with_event : Event (List ℕ) → Checked → Checked
with_event e (all_legal es) = all_legal (e ∷ es)
with_event e (illegal n i) = illegal n i

-- an event and what is behind it: the first that is illegal decides
unfoldable pub check_on : ℕ → Answer (Event (List ℕ)) → Checked → Checked
check_on i (gives e) others = with_event e others
check_on i (refuses n) others = illegal n i

-- the events of a list in their order, whose first has the index i
unfoldable pub check : ℕ → List (Answer (Event (List ℕ))) → Checked
check i [] = all_legal []
check i (j ∷ js) = check_on i j (check (i + 1) js)

-- the shortest bytes of a list, from a running status, and the running status after it
unfoldable pub encode_list : ℕ → List (Event (List ℕ)) → List ℕ
encode_list running [] = []
encode_list running (e ∷ es) = encode_event running e ++ encode_list (event_after e) es

-- the running status after a list
unfoldable pub list_after : ℕ → List (Event (List ℕ)) → ℕ
list_after running [] = running
list_after running (e ∷ es) = list_after (event_after e) es

-- what writing a list answers: its length, or a refusal by its number and the index of the first illegal event, 0 for 1, 20, 21
pub data ListAnswer : Type 0 where
  wrote : (length : ℕ) → ListAnswer
  refuses_at : (number index : ℕ) → ListAnswer

-- how long a list's bytes are, and the running status after it; as given where it is refused
pub record ListSize : Type 0 where
  pub answer : ListAnswer
  pub running : ℕ

-- a list that has no size: the number and the index by which it is refused, and the running status as given
abbrev pub unsized : ℕ → ℕ → ℕ → ListSize
unsized running n i = record { answer = refuses_at n i; running = running }

-- the size of a list that was checked
unfoldable pub size_checked : ℕ → Checked → ListSize
size_checked running (all_legal es) = record { answer = wrote (length (encode_list running es)); running = list_after running es }
size_checked running (illegal n i) = unsized running n i

-- document 01: 1, 21, then the first illegal event; what stands past the count is not looked at
unfoldable pub size_list : ℕ → ℕ → List (Answer (Event (List ℕ))) → ℕ → ListSize
size_list most running judged count =
    pick (is_running running)
    (pick (leb count most) (size_checked running (check 0 (take count judged))) (unsized running 21 0))
    (unsized running 1 0)

-- what it leaves in the buffer, what it answers, and the running status after it
pub record ListWritten : Type 0 where
  pub buffer : List ℕ
  pub answer : ListAnswer
  pub running : ℕ

-- a refused write leaves every byte and the running status as they came
abbrev pub list_left : ℕ → List ℕ → ℕ → ℕ → ListWritten
list_left running buffer n i = record { buffer = buffer; answer = refuses_at n i; running = running }

-- 20 where there is no room; an empty list fits room 0
unfoldable pub list_put_of : ℕ → List ℕ → List (Event (List ℕ)) → ListWritten
list_put_of running buffer es =
    pick (leb (length (encode_list running es)) (length buffer))
    (record { buffer = over (encode_list running es) buffer 0; answer = wrote (length (encode_list running es)); running = list_after running es })
    (list_left running buffer 20 0)

-- what writing a list that was checked leaves
unfoldable pub write_checked : ℕ → List ℕ → Checked → ListWritten
write_checked running buffer (all_legal es) = list_put_of running buffer es
write_checked running buffer (illegal n i) = list_left running buffer n i

-- document 01: 1, 21, then the first illegal event, then 20; what stands past the count is not looked at
unfoldable pub write_list : ℕ → ℕ → List (Answer (Event (List ℕ))) → ℕ → List ℕ → ListWritten
write_list most running judged count buffer =
    pick (is_running running)
    (pick (leb count most) (write_checked running buffer (check 0 (take count judged))) (list_left running buffer 21 0))
    (list_left running buffer 1 0)

-- Sameness

-- the events that counted records are, over given payload bytes
abbrev pub listed : List ℕ → List (Event Span) → ℕ → List (Event (List ℕ))
listed bytes records count = map (map_event (bytes_of bytes)) (take count records)

-- a count and the events that it counts, over the payload bytes
pub record Counted : Type 0 where
  pub count : ℕ
  pub events : List (Event (List ℕ))

-- a count and the events of that many records
abbrev pub counted : List ℕ → List (Event Span) → ℕ → Counted
counted bytes records count = record { count = count; events = listed bytes records count }

-- two lists are the same when counts, deltas, kinds, fields and payload bytes agree; starts don't count
abbrev pub SameList : List ℕ → List (Event Span) → ℕ → List ℕ → List (Event Span) → ℕ → Type 0
SameList bytes records count bytes' records' count' = counted bytes records count ≡ counted bytes' records' count'
