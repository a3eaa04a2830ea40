-- A list of events as the definitions take it.
use Rattle.std.specs.Prelude.{map, ℕ}
use Rattle.smf.specs.Place.{Span}
use Rattle.smf.specs.Event.{Event}
use Rattle.smf.specs.Lists.{Held}
use Rattle.event.specs.Event.{event_of}
use Rattle.track.specs.declared.list.Record.{Record}
use Rattle.track.specs.declared.list.EventList.{EventList}

-- document 01: a list holds 128 records
abbrev pub capacity : ℕ
capacity = 128

-- the event that a record holds
abbrev pub record_of : Record → Event Span
record_of r = event_of r.event

-- a list as its records and its count
abbrev pub held_of : EventList → Held
held_of l = record { records = map record_of l.records; count = l.count }
