-- A track event as the definitions take it, and what reading one answers.
use Rattle.event.specs.declared.read.EventRefused.{EventRefused}
use Rattle.event.specs.declared.read.EventAt.{EventAt}
use Rattle.std.specs.Prelude.{ℕ, Err, Ok, Result}
use Rattle.smf.specs.Place.{Span}
use Rattle.smf.specs.Kind as kind
use Rattle.smf.specs.Event as smf
use Rattle.base.specs.Refusal.{number_of}
use Rattle.midi.specs.Midi.{message_of}
use Rattle.meta.specs.Meta.{meta_of, span_of}
use Rattle.event.specs.declared.TrackEventKind.{TrackEventKind}
use Rattle.event.specs.declared.TrackEventKind.TheVariants as track
use Rattle.event.specs.declared.TrackEvent.{TrackEvent}

-- the kind of each case
abbrev pub kind_of : TrackEventKind → kind.Kind Span
kind_of (track.Midi channel message) = kind.midi channel.0 (message_of message)
kind_of (track.SysEx r) = kind.sys_ex (span_of r)
kind_of (track.Escape r) = kind.escape (span_of r)
kind_of (track.Meta m) = kind.meta (meta_of m)

-- an event: its delta as a plain number, and its kind
abbrev pub event_of : TrackEvent → smf.Event Span
event_of e = smf.event e.delta.0 (kind_of e.kind)

-- an event, the bytes used, the running status after it, and its padding
abbrev pub event_used : smf.Event Span → ℕ → ℕ → ℕ → smf.ReadAt
event_used e used running padding = smf.reads_at (record { event = e; used = used; running = running; padding = padding })

-- what `TrackEvent::read` answers
abbrev pub event_read : Result EventAt EventRefused → smf.ReadAt
event_read (Ok e) = event_used (event_of e.event) e.used e.running.status e.padding
event_read (Err n) = smf.refused_at (number_of n.refusal) n.used n.running.status n.padding
