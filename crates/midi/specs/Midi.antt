-- A channel message as the definitions take it.
use Rattle.smf.specs.Kind as kind
use Rattle.midi.specs.declared.MidiMessage.{MidiMessage}
use Rattle.midi.specs.declared.MidiMessage.TheVariants as midi

-- the message of each case, with its fields as plain numbers
abbrev pub message_of : MidiMessage → kind.Message
message_of (midi.NoteOff key vel) = kind.note_off key.0 vel.0
message_of (midi.NoteOn key vel) = kind.note_on key.0 vel.0
message_of (midi.Aftertouch key vel) = kind.aftertouch key.0 vel.0
message_of (midi.Controller number value) = kind.controller number.0 value.0
message_of (midi.ProgramChange program) = kind.program_change program.0
message_of (midi.ChannelAftertouch vel) = kind.channel_aftertouch vel.0
message_of (midi.PitchBend bend) = kind.pitch_bend bend.0.0
