-- Every row has as many cells: those of its kind, and the delta in front.
use mathlib.Core.Path.{◌≡◌, refl}
use Prim.Native.Nat.{ℕ, suc}
use lib.ListN.{length}
use Rattle.smf.specs.Place.{Span}
use Rattle.smf.specs.Kind as kind
use Rattle.smf.specs.Event.{Event}
use Rattle.rows.specs.Rows.{width, midi_row, meta_row, kind_row, event_row}

midi_length : (channel : ℕ) (m : kind.Message) → suc (length (midi_row channel m)) ≡ width
midi_length ch (kind.note_off key vel) = refl
midi_length ch (kind.note_on key vel) = refl
midi_length ch (kind.aftertouch key vel) = refl
midi_length ch (kind.controller number value) = refl
midi_length ch (kind.program_change program) = refl
midi_length ch (kind.channel_aftertouch vel) = refl
midi_length ch (kind.pitch_bend raw) = refl

meta_length : (m : kind.Meta Span) → suc (length (meta_row m)) ≡ width
meta_length (kind.track_number n) = refl
meta_length kind.no_track_number = refl
meta_length (kind.text t p) = refl
meta_length (kind.midi_channel c) = refl
meta_length (kind.midi_port c) = refl
meta_length kind.end_of_track = refl
meta_length (kind.tempo v) = refl
meta_length (kind.smpte_offset t) = refl
meta_length (kind.time_signature a b c d) = refl
meta_length (kind.key_signature sharps minor) = refl
meta_length (kind.sequencer_specific p) = refl
meta_length (kind.unknown t p) = refl

kind_length : (k : kind.Kind Span) → suc (length (kind_row k)) ≡ width
kind_length (kind.midi channel message) = midi_length channel message
kind_length (kind.sys_ex p) = refl
kind_length (kind.escape p) = refl
kind_length (kind.meta m) = meta_length m

pub row_length : (e : Event Span) → length (event_row e) ≡ width
row_length e = kind_length e.kind
