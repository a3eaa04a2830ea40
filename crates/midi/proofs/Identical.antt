-- No two channel messages say the same.
use Rattle.std.proofs.Common.{◌≡◌, refl}
use Rattle.smf.specs.Kind as kind
use Rattle.smf.proofs.Answer.{injective}
use Rattle.midi.specs.Midi.{message_of}
use Rattle.midi.specs.declared.MidiMessage.{MidiMessage}
use Rattle.midi.specs.declared.MidiMessage.TheVariants as midi

pub back_message : kind.Message → MidiMessage
back_message (kind.note_off key vel) = midi.NoteOff (record { 0 = key }) (record { 0 = vel })
back_message (kind.note_on key vel) = midi.NoteOn (record { 0 = key }) (record { 0 = vel })
back_message (kind.aftertouch key vel) = midi.Aftertouch (record { 0 = key }) (record { 0 = vel })
back_message (kind.controller number value) = midi.Controller (record { 0 = number }) (record { 0 = value })
back_message (kind.program_change program) = midi.ProgramChange (record { 0 = program })
back_message (kind.channel_aftertouch vel) = midi.ChannelAftertouch (record { 0 = vel })
back_message (kind.pitch_bend raw) = midi.PitchBend (record { 0 = record { 0 = raw } })

pub same_message : (m : MidiMessage) → back_message (message_of m) ≡ m
unfolding back_message
same_message (midi.NoteOff key vel) = refl
same_message (midi.NoteOn key vel) = refl
same_message (midi.Aftertouch key vel) = refl
same_message (midi.Controller number value) = refl
same_message (midi.ProgramChange program) = refl
same_message (midi.ChannelAftertouch vel) = refl
same_message (midi.PitchBend bend) = refl

pub message_of_injective : {x y : MidiMessage} → message_of x ≡ message_of y → x ≡ y
message_of_injective = injective message_of back_message same_message
