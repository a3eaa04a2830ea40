-- A meta message as the definitions take it.
use Rattle.base.specs.declared.Refusal.{Refusal}
use Rattle.meta.specs.declared.MetaAt as code
use Rattle.std.specs.Prelude.{ℕ, None, Option, Result, Some}
use Rattle.smf.specs.Answer.{Answer}
use Rattle.smf.specs.Place.{Span}
use Rattle.smf.specs.Kind as kind
use Rattle.smf.specs.MetaAt.{MetaAt}
use Rattle.base.specs.Said.{said}
use Rattle.base.specs.declared.Range.{Range}
use Rattle.header.specs.Smpte.{smpte_time_of}
use Rattle.meta.specs.declared.MetaMessage.{MetaMessage}
use Rattle.meta.specs.declared.MetaMessage.TheVariants as meta

-- the range of a payload
abbrev pub span_of : Range → Span
span_of r = record { start = r.start; length = r.length }

-- a track number that is there, and one that is missing
abbrev pub number_meta : Option ℕ → kind.Meta Span
number_meta (Some n) = kind.track_number n
number_meta None = kind.no_track_number

-- the message of each case; the nine text kinds by their type
abbrev pub meta_of : MetaMessage → kind.Meta Span
meta_of (meta.TrackNumber n) = number_meta n
meta_of (meta.Text r) = kind.text 0x01 (span_of r)
meta_of (meta.Copyright r) = kind.text 0x02 (span_of r)
meta_of (meta.TrackName r) = kind.text 0x03 (span_of r)
meta_of (meta.InstrumentName r) = kind.text 0x04 (span_of r)
meta_of (meta.Lyric r) = kind.text 0x05 (span_of r)
meta_of (meta.Marker r) = kind.text 0x06 (span_of r)
meta_of (meta.CuePoint r) = kind.text 0x07 (span_of r)
meta_of (meta.ProgramName r) = kind.text 0x08 (span_of r)
meta_of (meta.DeviceName r) = kind.text 0x09 (span_of r)
meta_of (meta.MidiChannel c) = kind.midi_channel c.0
meta_of (meta.MidiPort c) = kind.midi_port c.0
meta_of meta.EndOfTrack = kind.end_of_track
meta_of (meta.Tempo v) = kind.tempo v.0
meta_of (meta.SmpteOffset time) = kind.smpte_offset (smpte_time_of time)
meta_of (meta.TimeSignature a b c d) = kind.time_signature a b c d
meta_of (meta.KeySignature sharps minor) = kind.key_signature sharps minor
meta_of (meta.SequencerSpecific r) = kind.sequencer_specific (span_of r)
meta_of (meta.Unknown t r) = kind.unknown t (span_of r)

-- a meta message, the place after it, and the padding of its length
abbrev pub meta_before : MetaMessage → ℕ → ℕ → MetaAt
meta_before m next padding = record { message = meta_of m; next = next; padding = padding }

-- what `MetaMessage::read` answers
abbrev pub meta_read : Result code.MetaAt Refusal → Answer MetaAt
meta_read = said (λ m. meta_before m.message m.next m.padding)
