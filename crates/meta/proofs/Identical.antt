-- No two meta messages, and no two answers, say the same.
use Rattle.base.specs.declared.Refusal.{Refusal}
use Rattle.std.specs.Prelude.{None, Result, Some}
use Rattle.meta.specs.declared.MetaAt as code
use mathlib.Core.Path.{◌≡◌, refl, ap}
use Prim.Native.Nat.{ℕ}
use lib.Dec.{eqb}
use Rattle.smf.specs.Answer.{pick}
use Rattle.smf.specs.Place.{Span}
use Rattle.smf.specs.Kind as kind
use Rattle.smf.specs.MetaAt.{MetaAt}
use Rattle.smf.proofs.Answer.{injective}
use Rattle.base.specs.declared.Range.{Range}
use Rattle.base.proofs.Said.{said_injective}
use Rattle.header.proofs.IdenticalTimes.{back_smpte_time, same_smpte_time}
use Rattle.meta.specs.Meta.{meta_of, meta_before, meta_read}
use Rattle.meta.specs.declared.MetaMessage.{MetaMessage}
use Rattle.meta.specs.declared.MetaMessage.TheVariants as meta

abbrev pub back_range : Span → Range
back_range span = record { start = span.start; length = span.length }

-- the text kinds, by their type
back_text : ℕ → Range → MetaMessage
back_text t r =
    pick (eqb t 0x01) (meta.Text r)
    (pick (eqb t 0x02) (meta.Copyright r)
    (pick (eqb t 0x03) (meta.TrackName r)
    (pick (eqb t 0x04) (meta.InstrumentName r)
    (pick (eqb t 0x05) (meta.Lyric r)
    (pick (eqb t 0x06) (meta.Marker r)
    (pick (eqb t 0x07) (meta.CuePoint r)
    (pick (eqb t 0x08) (meta.ProgramName r)
    (meta.DeviceName r))))))))

pub back_meta : kind.Meta Span → MetaMessage
back_meta (kind.track_number n) = meta.TrackNumber (Some n)
back_meta kind.no_track_number = meta.TrackNumber None
back_meta (kind.text t p) = back_text t (back_range p)
back_meta (kind.midi_channel c) = meta.MidiChannel (record { 0 = c })
back_meta (kind.midi_port c) = meta.MidiPort (record { 0 = c })
back_meta kind.end_of_track = meta.EndOfTrack
back_meta (kind.tempo v) = meta.Tempo (record { 0 = v })
back_meta (kind.smpte_offset time) = meta.SmpteOffset (back_smpte_time time)
back_meta (kind.time_signature a b c d) = meta.TimeSignature a b c d
back_meta (kind.key_signature sharps minor) = meta.KeySignature sharps minor
back_meta (kind.sequencer_specific p) = meta.SequencerSpecific (back_range p)
back_meta (kind.unknown t p) = meta.Unknown t (back_range p)

pub same_meta : (m : MetaMessage) → back_meta (meta_of m) ≡ m
unfolding back_meta back_text
same_meta (meta.TrackNumber (Some n)) = refl
same_meta (meta.TrackNumber None) = refl
same_meta (meta.Text r) = refl
same_meta (meta.Copyright r) = refl
same_meta (meta.TrackName r) = refl
same_meta (meta.InstrumentName r) = refl
same_meta (meta.Lyric r) = refl
same_meta (meta.Marker r) = refl
same_meta (meta.CuePoint r) = refl
same_meta (meta.ProgramName r) = refl
same_meta (meta.DeviceName r) = refl
same_meta (meta.MidiChannel c) = refl
same_meta (meta.MidiPort c) = refl
same_meta meta.EndOfTrack = refl
same_meta (meta.Tempo v) = refl
same_meta (meta.SmpteOffset time) = ap meta.SmpteOffset (same_smpte_time time)
same_meta (meta.TimeSignature a b c d) = refl
same_meta (meta.KeySignature sharps minor) = refl
same_meta (meta.SequencerSpecific r) = refl
same_meta (meta.Unknown t r) = refl

pub meta_of_injective : {x y : MetaMessage} → meta_of x ≡ meta_of y → x ≡ y
meta_of_injective = injective meta_of back_meta same_meta

back_read : MetaAt → code.MetaAt
back_read m = record { message = back_meta m.message; next = m.next; padding = m.padding }

same_read : (m : code.MetaAt) → back_read (meta_before m.message m.next m.padding) ≡ m
unfolding back_read
same_read m = ap (λ (x : MetaMessage). record { message = x; next = m.next; padding = m.padding }) (same_meta m.message)

pub meta_read_injective : {x y : Result code.MetaAt Refusal} → meta_read x ≡ meta_read y → x ≡ y
meta_read_injective = said_injective (λ m. meta_before m.message m.next m.padding) back_read same_read
