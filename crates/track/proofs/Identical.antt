-- No two answers of the list reader, and of its step, say the same.
use Rattle.track.specs.declared.cursor.NextEvent.{NextEvent}
use Rattle.std.specs.Prelude.{Err, Ok, Result}
use mathlib.Core.Path.{◌≡◌, refl, ap}
use mathlib.Core.List.{List, [], ◌∷◌, map}
use Rattle.smf.specs.Lists as smf
use Rattle.smf.proofs.Answer.{injective}
use Rattle.base.proofs.RefusalNumbers.{refusal_of, number_back}
use Rattle.smf.specs.Place.{Span}
use Rattle.smf.specs.Event.{Event}
use Rattle.event.specs.declared.TrackEvent.{TrackEvent}
use Rattle.event.proofs.Identical.{back_event, same_event}
use Rattle.track.specs.List.{record_of, held_of}
use Rattle.track.specs.declared.list.Record.{Record}
use Rattle.track.specs.Cursor.{stop_of, next_of}
use Rattle.track.specs.Read.{list_read_of}
use Rattle.track.specs.declared.list.EventList.{EventList}
use Rattle.track.specs.declared.cursor.Cursor.{Cursor}
use Rattle.track.specs.declared.cursor.Stop.{Stop}
use Rattle.track.specs.declared.cursor.Stop.TheVariants as stop
use Rattle.track.specs.declared.read.ReadList.{ReadList}

back_record : Event Span → Record
back_record e = record { event = back_event e }

same_records : (es : List Record) → map back_record (map record_of es) ≡ es
unfolding back_record
same_records [] = refl
same_records (e ∷ es) = rw (same_event e.event, same_records es)

pub back_held : smf.Held → EventList
back_held h = record { records = map back_record h.records; count = h.count }

same_held : (l : EventList) → back_held (held_of l) ≡ l
unfolding back_held
same_held l = rw (same_records l.records)

pub back_stop : smf.Stop → Stop
back_stop smf.ended = stop.End
back_stop smf.full = stop.Full
back_stop (smf.stopped n) = stop.Refused (refusal_of n)

pub same_stop : (s : Stop) → back_stop (stop_of s) ≡ s
unfolding back_stop
same_stop stop.End = refl
same_stop stop.Full = refl
same_stop (stop.Refused n) = ap stop.Refused (number_back n)

back_reader : smf.Reader → Cursor
back_reader r = record { place = r.place; running = record { status = r.running }; count = r.count }

back_next : smf.Next → Result NextEvent Stop
back_next (smf.takes e padding r) = Ok (record { event = back_event e; padding = padding; cursor = back_reader r })
back_next (smf.stops why) = Err (back_stop why)

same_next : (n : Result NextEvent Stop) → back_next (next_of n) ≡ n
unfolding back_next back_reader
same_next (Ok step) = ap (λ (e : TrackEvent). Ok (record { event = e; padding = step.padding; cursor = step.cursor })) (same_event step.event)
same_next (Err why) = ap Err (same_stop why)

back_list : smf.ListHeld → ReadList
back_list l = record { list = back_held l.list; stop = back_stop l.stop; place = l.place; running = record { status = l.running }; padding = l.padding }

same_list : (r : ReadList) → back_list (list_read_of r) ≡ r
unfolding back_list
same_list r = rw (same_held r.list, same_stop r.stop)

pub held_of_injective : {x y : EventList} → held_of x ≡ held_of y → x ≡ y
held_of_injective = injective held_of back_held same_held

pub list_read_injective : {x y : ReadList} → list_read_of x ≡ list_read_of y → x ≡ y
list_read_injective = injective list_read_of back_list same_list

pub next_of_injective : {x y : Result NextEvent Stop} → next_of x ≡ next_of y → x ≡ y
next_of_injective = injective next_of back_next same_next
