-- What was made a row comes back from it, for every event of the code.
use Rattle.std.specs.Prelude.{None, Some}
use mathlib.Core.Path.{◌≡◌, refl}
use mathlib.Core.Bool.{Bool, true, false, not}
use mathlib.Core.List.{List, ◌∷◌}
use Prim.Native.Nat.{ℕ, ◌<◌, ◌^◌}
use native.Mathlib.Omega.{arith}
use lib.Dec.{ltb, eqb}
use lib.IntN.{ℤ, pos, negsuc}
use lib.Signed.{mag}
use mir.Val.{Val}
use denote.Laws.{Is}
use borrow.Author.Tests.{lt-ltb}
use Rattle.smf.specs.Answer.{pick, gives}
use Rattle.smf.specs.Signed.{byte_of_signed}
use Rattle.smf.specs.Smpte.{is_rate}
use Rattle.smf.specs.Kind as kind
use Rattle.smf.specs.Kind.{is_text}
use Rattle.smf.specs.Event.{event}
use Rattle.smf.proofs.Signed.{signed_back}
use Rattle.header.specs.Fps.{rate_of}
use Rattle.header.specs.declared.Fps.{Fps}
use Rattle.header.specs.declared.Fps.TheVariants as fps
use Rattle.midi.specs.Midi.{message_of}
use Rattle.meta.specs.Meta.{meta_of}
use Rattle.midi.specs.declared.MidiMessage.{MidiMessage}
use Rattle.midi.specs.declared.MidiMessage.TheVariants as midi
use Rattle.midi.specs.contracts.MidiMessage as midi-type
use Rattle.meta.specs.declared.MetaMessage.{MetaMessage}
use Rattle.meta.specs.declared.MetaMessage.TheVariants as meta
use Rattle.meta.specs.contracts.MetaMessage as meta_type
use Rattle.event.specs.Event.{kind_of, event_of}
use Rattle.event.specs.declared.TrackEventKind.{TrackEventKind}
use Rattle.event.specs.declared.TrackEventKind.TheVariants as track
use Rattle.event.specs.contracts.TrackEventKind as kind_type
use Rattle.event.specs.declared.TrackEvent.{TrackEvent}
use Rattle.event.specs.contracts.TrackEvent as event-type
use Rattle.rows.specs.Rows.{midi_row, meta_row, kind_row, event_row}
use Rattle.rows.specs.RowEvent.{are_bytes, time_fits, fields_fit, is_row, row_number_of, row_meta, row_message, row_kind, called_row, event_of_row}

-- each rate is one
rate : (f : Fps) → is_rate (rate_of f) ≡ true
unfolding is_rate
rate fps.Fps24 = refl
rate fps.Fps25 = refl
rate fps.Fps29 = refl
rate fps.Fps30 = refl

-- a signed byte's byte is one
signed_byte_lem : (z : ℤ) → mag z < 128 → byte_of_signed z < 256
unfolding byte_of_signed
signed_byte_lem (pos n) h = omega arith
signed_byte_lem (negsuc n) h = omega arith

-- yes and no, as a row has them
flag : (t : Bool) → not (eqb (pick t 1 0) 0) ≡ t
flag true = refl
flag false = refl

-- The bound of a field stands at `p.1.1.1.1` in what is known of an enum's value, at `.1 .1` in what is known of a struct's.
module _ (delta : ℕ) (d : ltb delta (2 ^ 32) ≡ true) where
  midi_kept : (channel : ℕ) → channel < 256 → (m : MidiMessage) (vs : List Val) → Is midi-type.the_row m vs → event_of_row (delta ∷ midi_row channel (message_of m)) ≡ gives (event delta (kind.midi channel (message_of m)))
  unfolding event_of_row is_row called_row fields_fit are_bytes row_kind row_message
  midi_kept ch c (midi.NoteOff x y) vs p = rw (d, lt-ltb ch 256 c, lt-ltb x.0 256 p.1.1.1.1.0.1.1.0.1, lt-ltb y.0 256 p.1.1.1.1.1.0.1.1.0.1)
  midi_kept ch c (midi.NoteOn x y) vs p = rw (d, lt-ltb ch 256 c, lt-ltb x.0 256 p.1.1.1.1.0.1.1.0.1, lt-ltb y.0 256 p.1.1.1.1.1.0.1.1.0.1)
  midi_kept ch c (midi.Aftertouch x y) vs p = rw (d, lt-ltb ch 256 c, lt-ltb x.0 256 p.1.1.1.1.0.1.1.0.1, lt-ltb y.0 256 p.1.1.1.1.1.0.1.1.0.1)
  midi_kept ch c (midi.Controller x y) vs p = rw (d, lt-ltb ch 256 c, lt-ltb x.0 256 p.1.1.1.1.0.1.1.0.1, lt-ltb y.0 256 p.1.1.1.1.1.0.1.1.0.1)
  midi_kept ch c (midi.ProgramChange x) vs p = rw (d, lt-ltb ch 256 c, lt-ltb x.0 256 p.1.1.1.1.0.1.1.0.1)
  midi_kept ch c (midi.ChannelAftertouch x) vs p = rw (d, lt-ltb ch 256 c, lt-ltb x.0 256 p.1.1.1.1.0.1.1.0.1)
  midi_kept ch c (midi.PitchBend bend) vs p = rw (d, lt-ltb bend.0.0 65536 p.1.1.1.1.0.1.1.0.1.1.0.1, lt-ltb ch 256 c)

  meta_kept : (m : MetaMessage) (vs : List Val) → Is meta_type.the_row m vs → event_of_row (delta ∷ meta_row (meta_of m)) ≡ gives (event delta (kind.meta (meta_of m)))
  unfolding event_of_row is_row called_row fields_fit are_bytes time_fits row_kind row_meta row_number_of is_text
  meta_kept (meta.TrackNumber (Some n)) vs p = rw (d, lt-ltb n 65536 p.1.1.1.1.0.1.1.1.1.0.1)
  meta_kept (meta.TrackNumber None) vs p = rw d
  meta_kept (meta.Text r) vs p = rw d
  meta_kept (meta.Copyright r) vs p = rw d
  meta_kept (meta.TrackName r) vs p = rw d
  meta_kept (meta.InstrumentName r) vs p = rw d
  meta_kept (meta.Lyric r) vs p = rw d
  meta_kept (meta.Marker r) vs p = rw d
  meta_kept (meta.CuePoint r) vs p = rw d
  meta_kept (meta.ProgramName r) vs p = rw d
  meta_kept (meta.DeviceName r) vs p = rw d
  meta_kept (meta.MidiChannel x) vs p = rw (d, lt-ltb x.0 256 p.1.1.1.1.0.1.1.0.1)
  meta_kept (meta.MidiPort x) vs p = rw (d, lt-ltb x.0 256 p.1.1.1.1.0.1.1.0.1)
  meta_kept meta.EndOfTrack vs p = rw d
  meta_kept (meta.Tempo x) vs p = rw (d, lt-ltb x.0 (2 ^ 32) p.1.1.1.1.0.1.1.0.1)
  meta_kept (meta.SmpteOffset t) vs p = rw (d, rate t.fps, lt-ltb t.hour 256 p.1.1.1.1.0.1.1.0.1, lt-ltb t.minute 256 p.1.1.1.1.0.1.1.1.0.1, lt-ltb t.second 256 p.1.1.1.1.0.1.1.1.1.0.1, lt-ltb t.frame 256 p.1.1.1.1.0.1.1.1.1.1.0.1, lt-ltb t.subframe 256 p.1.1.1.1.0.1.1.1.1.1.1.0.1)
  meta_kept (meta.TimeSignature x y z w) vs p = rw (d, lt-ltb x 256 p.1.1.1.1.0.1, lt-ltb y 256 p.1.1.1.1.1.0.1, lt-ltb z 256 p.1.1.1.1.1.1.0.1, lt-ltb w 256 p.1.1.1.1.1.1.1.0.1)
  meta_kept (meta.KeySignature z minor) vs p = rw (d, lt-ltb (byte_of_signed z) 256 (signed_byte_lem z p.1.1.1.1.0.1), signed_back z p.1.1.1.1.0.1, flag minor)
  meta_kept (meta.SequencerSpecific r) vs p = rw d
  meta_kept (meta.Unknown x r) vs p = rw (d, lt-ltb x 256 p.1.1.1.1.0.1)

  kind_kept : (k : TrackEventKind) (vs : List Val) → Is kind_type.the_row k vs → event_of_row (delta ∷ kind_row (kind_of k)) ≡ gives (event delta (kind_of k))
  unfolding event_of_row is_row called_row fields_fit row_kind
  kind_kept (track.Midi channel message) vs p = midi_kept channel.0 p.1.1.1.1.0.1.1.0.1 message _ p.1.1.1.1.1.0
  kind_kept (track.SysEx r) vs p = rw d
  kind_kept (track.Escape r) vs p = rw d
  kind_kept (track.Meta m) vs p = meta_kept m _ p.1.1.1.1.0

-- `Is` holds of the values that the code can have: each number within its integer
pub kept : (e : TrackEvent) (vs : List Val) → Is event-type.the_row e vs → event_of_row (event_row (event_of e)) ≡ gives (event_of e)
kept e vs p = kind_kept e.delta.0 (lt-ltb e.delta.0 (2 ^ 32) p.1.1.0.1.1.0.1) e.kind _ p.1.1.1.0
