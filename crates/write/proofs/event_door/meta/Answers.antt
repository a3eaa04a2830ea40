-- `meta` meets its contract, message by message.
use mathlib.Core.Path.{refl, sym, ◌∙◌}
use native.Mathlib.Omega.{arith}
use borrow.Author.Rules.{rules}
use mir.Syntax.{w8}
use mir.Val.{SFits}
use mir.Facts.{to_z-of_z}
use Rattle.smf.specs.Kind.{is_text}
use Rattle.write.proofs.Forms.{text_made, channel_made, port_made, end_made, tempo_made, signature_fits, key_fits, sequencer_made, unknown_made}
use Rattle.write.proofs.event_door.meta.Goals as goal

pub returns-in-TrackNumber : goal.returns-in-TrackNumber
returns-in-TrackNumber c = rw c.in-TrackNumber.is (c.number.ensures _ _)

pub returns-in-Text : goal.returns-in-Text
unfolding is_text
returns-in-Text c = rw c.in-Text.is (c.typed.ensures ∙ sym (text_made _ _ _ _ refl))

pub returns-in-Copyright : goal.returns-in-Copyright
unfolding is_text
returns-in-Copyright c = rw c.in-Copyright.is (c.typed-in-Copyright.ensures ∙ sym (text_made _ _ _ _ refl))

pub returns-in-TrackName : goal.returns-in-TrackName
unfolding is_text
returns-in-TrackName c = rw c.in-TrackName.is (c.typed-in-TrackName.ensures ∙ sym (text_made _ _ _ _ refl))

pub returns-in-InstrumentName : goal.returns-in-InstrumentName
unfolding is_text
returns-in-InstrumentName c = rw c.in-InstrumentName.is (c.typed-in-InstrumentName.ensures ∙ sym (text_made _ _ _ _ refl))

pub returns-in-Lyric : goal.returns-in-Lyric
unfolding is_text
returns-in-Lyric c = rw c.in-Lyric.is (c.typed-in-Lyric.ensures ∙ sym (text_made _ _ _ _ refl))

pub returns-in-Marker : goal.returns-in-Marker
unfolding is_text
returns-in-Marker c = rw c.in-Marker.is (c.typed-in-Marker.ensures ∙ sym (text_made _ _ _ _ refl))

pub returns-in-CuePoint : goal.returns-in-CuePoint
unfolding is_text
returns-in-CuePoint c = rw c.in-CuePoint.is (c.typed-in-CuePoint.ensures ∙ sym (text_made _ _ _ _ refl))

pub returns-in-ProgramName : goal.returns-in-ProgramName
unfolding is_text
returns-in-ProgramName c = rw c.in-ProgramName.is (c.typed-in-ProgramName.ensures ∙ sym (text_made _ _ _ _ refl))

pub returns-in-DeviceName : goal.returns-in-DeviceName
unfolding is_text
returns-in-DeviceName c = rw c.in-DeviceName.is (c.typed-in-DeviceName.ensures ∙ sym (text_made _ _ _ _ refl))

pub returns-in-MidiChannel : goal.returns-in-MidiChannel
returns-in-MidiChannel c = rw (c.in-MidiChannel.is, channel_made) (rw c.from.ensures at (c.narrow.ensures c.args.bytes.now))

pub returns-in-MidiPort : goal.returns-in-MidiPort
returns-in-MidiPort c = rw (c.in-MidiPort.is, port_made) (rw c.from-in-MidiPort.ensures at (c.narrow-in-MidiPort.ensures c.args.bytes.now))

pub returns-in-EndOfTrack : goal.returns-in-EndOfTrack
returns-in-EndOfTrack c = rw (c.in-EndOfTrack.is, end_made) (c.own_bytes.ensures _)

pub returns-in-Tempo : goal.returns-in-Tempo
returns-in-Tempo c = rw (c.in-Tempo.is, tempo_made) (rw c.from-in-Tempo.ensures at (c.tempo.ensures c.args.bytes.now))

pub returns-in-SmpteOffset : goal.returns-in-SmpteOffset
returns-in-SmpteOffset c = rw c.in-SmpteOffset.is (c.time.ensures _)

pub returns-in-TimeSignature : goal.returns-in-TimeSignature
returns-in-TimeSignature c =
    let v = c.in-TimeSignature in
    rw (c.in-TimeSignature.is, signature_fits _ _ {a = v.a} {b = v.b} {c = v.c} {d = v.d} (omega arith) (omega arith) (omega arith) (omega arith)) (c.signature.ensures _)

pub returns-in-KeySignature : goal.returns-in-KeySignature
returns-in-KeySignature c =
    let v = c.in-KeySignature in
    let byte : SFits w8 v.sharps = search rules in
    rw (c.in-KeySignature.is, key_fits _ _ v.sharps v.minor byte.sfits) (c.key.ensures _ ∙ rw (c.to_byte.ensures, to_z-of_z byte))

pub returns-in-SequencerSpecific : goal.returns-in-SequencerSpecific
returns-in-SequencerSpecific c = rw c.in-SequencerSpecific.is (c.typed-in-SequencerSpecific.ensures ∙ sym (sequencer_made _ _ _))

pub returns-in-Unknown : goal.returns-in-Unknown
returns-in-Unknown c = rw c.in-Unknown.is (c.unknown.ensures ∙ sym (unknown_made _ _ _ _))
