-- What an arm that takes every other case of an enum knows: it is none of those that an arm before it takes.
use Rattle.std.specs.Prelude.{None, Some}
use mathlib.Core.Path.{◌≡◌, refl}
use mathlib.Core.Bool.{true}
use Prim.Native.Nat.{ℕ}
use Rattle.base.specs.declared.u4.{u4}
use Rattle.base.specs.declared.u7.{u7}
use Rattle.base.specs.declared.u24.{u24}
use Rattle.midi.specs.Midi.{message_of}
use Rattle.midi.specs.declared.MidiMessage.{MidiMessage}
use Rattle.midi.specs.declared.MidiMessage.TheVariants as midi
use Rattle.meta.specs.Meta.{meta_of}
use Rattle.meta.specs.declared.MetaMessage.{MetaMessage}
use Rattle.meta.specs.declared.MetaMessage.TheVariants as meta
use Rattle.event.specs.Event.{kind_of}
use Rattle.event.specs.declared.TrackEventKind.{TrackEventKind}
use Rattle.event.specs.declared.TrackEventKind.TheVariants as track
use Rattle.player.specs.Notes.{no_such_note, message_note, kind_note}
use Rattle.player.specs.Widths.{meta_within}

-- the channel messages behind `NoteOff` and `NoteOn`
pub no_note : (channel : ℕ) (m : MidiMessage) → ((key vel : u7) → m ≡ midi.NoteOff key vel → ⊥) → ((key vel : u7) → m ≡ midi.NoteOn key vel → ⊥) → no_such_note ≡ message_note channel (message_of m)
unfolding message_note
no_note channel (midi.NoteOff key vel) off on = absurd (off key vel refl)
no_note channel (midi.NoteOn key vel) off on = absurd (on key vel refl)
no_note channel (midi.Aftertouch key vel) off on = refl
no_note channel (midi.Controller number value) off on = refl
no_note channel (midi.ProgramChange program) off on = refl
no_note channel (midi.ChannelAftertouch vel) off on = refl
no_note channel (midi.PitchBend bend) off on = refl

-- the kinds behind a channel message
pub no_message : (k : TrackEventKind) → ((channel : u4) (message : MidiMessage) → k ≡ track.Midi channel message → ⊥) → no_such_note ≡ kind_note (kind_of k)
unfolding kind_note
no_message (track.Midi channel message) h = absurd (h channel message refl)
no_message (track.SysEx r) h = refl
no_message (track.Escape r) h = refl
no_message (track.Meta m) h = refl

-- the meta messages but a channel, a port and a tempo
pub unrestricted : (m : MetaMessage) → ((c : u4) → m ≡ meta.MidiChannel c → ⊥) → ((c : u7) → m ≡ meta.MidiPort c → ⊥) → ((v : u24) → m ≡ meta.Tempo v → ⊥) → true ≡ meta_within (meta_of m)
unfolding meta_within
unrestricted (meta.TrackNumber (Some n)) h p q = refl
unrestricted (meta.TrackNumber None) h p q = refl
unrestricted (meta.Text r) h p q = refl
unrestricted (meta.Copyright r) h p q = refl
unrestricted (meta.TrackName r) h p q = refl
unrestricted (meta.InstrumentName r) h p q = refl
unrestricted (meta.Lyric r) h p q = refl
unrestricted (meta.Marker r) h p q = refl
unrestricted (meta.CuePoint r) h p q = refl
unrestricted (meta.ProgramName r) h p q = refl
unrestricted (meta.DeviceName r) h p q = refl
unrestricted (meta.MidiChannel c) h p q = absurd (h c refl)
unrestricted (meta.MidiPort c) h p q = absurd (p c refl)
unrestricted meta.EndOfTrack h p q = refl
unrestricted (meta.Tempo v) h p q = absurd (q v refl)
unrestricted (meta.SmpteOffset time) h p q = refl
unrestricted (meta.TimeSignature a b c d) h p q = refl
unrestricted (meta.KeySignature sharps minor) h p q = refl
unrestricted (meta.SequencerSpecific r) h p q = refl
unrestricted (meta.Unknown t r) h p q = refl
