-- A reader of a list, and what its step answers, in the terms of the definitions.
use Rattle.track.specs.declared.cursor.NextEvent.{NextEvent}
use Rattle.std.specs.Prelude.{Err, Ok, Result}
use Rattle.smf.specs.Lists as smf
use Rattle.base.specs.Refusal.{number_of}
use Rattle.event.specs.Event.{event_of}
use Rattle.track.specs.declared.cursor.Cursor.{Cursor}
use Rattle.track.specs.declared.cursor.Stop.{Stop}
use Rattle.track.specs.declared.cursor.Stop.TheVariants as stop

-- why reading stopped
abbrev pub stop_of : Stop → smf.Stop
stop_of stop.End = smf.ended
stop_of stop.Full = smf.full
stop_of (stop.Refused n) = smf.stopped (number_of n)

-- where a reader is
abbrev pub reader_of : Cursor → smf.Reader
reader_of c = record { place = c.place; running = c.running.status; count = c.count }

-- what `Cursor::next` answers
abbrev pub next_of : Result NextEvent Stop → smf.Next
next_of (Ok step) = smf.takes (event_of step.event) step.padding (reader_of step.cursor)
next_of (Err why) = smf.stops (stop_of why)
