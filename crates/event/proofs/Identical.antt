-- No two events, and no two answers, say the same.
use Rattle.event.specs.declared.read.EventRefused.{EventRefused}
use Rattle.event.specs.declared.read.EventAt.{EventAt}
use Rattle.std.specs.Prelude.{Err, Ok, Result}
use mathlib.Core.Path.{◌≡◌, refl, ap}
use Rattle.smf.specs.Place.{Span}
use Rattle.smf.specs.Kind as kind
use Rattle.smf.specs.Event as smf
use Rattle.smf.proofs.Answer.{injective}
use Rattle.base.specs.declared.Refusal.{Refusal}
use Rattle.base.proofs.RefusalNumbers.{refusal_of, number_back}
use Rattle.midi.proofs.Identical.{back_message, same_message}
use Rattle.meta.proofs.Identical.{back_range, back_meta, same_meta}
use Rattle.midi.specs.declared.MidiMessage.{MidiMessage}
use Rattle.event.specs.Event.{kind_of, event_of, event_read}
use Rattle.event.specs.declared.TrackEventKind.{TrackEventKind}
use Rattle.event.specs.declared.TrackEventKind.TheVariants as track
use Rattle.event.specs.declared.TrackEvent.{TrackEvent}

back_kind : kind.Kind Span → TrackEventKind
back_kind (kind.midi channel message) = track.Midi (record { 0 = channel }) (back_message message)
back_kind (kind.sys_ex p) = track.SysEx (back_range p)
back_kind (kind.escape p) = track.Escape (back_range p)
back_kind (kind.meta m) = track.Meta (back_meta m)

same_kind : (k : TrackEventKind) → back_kind (kind_of k) ≡ k
unfolding back_kind
same_kind (track.Midi channel message) = ap (λ (m : MidiMessage). track.Midi channel m) (same_message message)
same_kind (track.SysEx r) = refl
same_kind (track.Escape r) = refl
same_kind (track.Meta m) = ap track.Meta (same_meta m)

pub back_event : smf.Event Span → TrackEvent
back_event e = record { delta = record { 0 = e.delta }; kind = back_kind e.kind }

pub same_event : (e : TrackEvent) → back_event (event_of e) ≡ e
unfolding back_event
same_event e = ap (λ (k : TrackEventKind). record { delta = e.delta; kind = k }) (same_kind e.kind)

pub event_of_injective : {x y : TrackEvent} → event_of x ≡ event_of y → x ≡ y
event_of_injective = injective event_of back_event same_event

back_read : smf.ReadAt → Result EventAt EventRefused
back_read (smf.reads_at e) = Ok (record { event = back_event e.event; used = e.used; running = record { status = e.running }; padding = e.padding })
back_read (smf.refused_at n used running padding) = Err (record { refusal = refusal_of n; used = used; running = record { status = running }; padding = padding })

same_read : (r : Result EventAt EventRefused) → back_read (event_read r) ≡ r
unfolding back_read
same_read (Ok e) = ap (λ (x : TrackEvent). Ok (record { event = x; used = e.used; running = e.running; padding = e.padding })) (same_event e.event)
same_read (Err n) = ap (λ (x : Refusal). Err (record { refusal = x; used = n.used; running = n.running; padding = n.padding })) (number_back n.refusal)

pub event_read_injective : {x y : Result EventAt EventRefused} → event_read x ≡ event_read y → x ≡ y
event_read_injective = injective event_read back_read same_read
