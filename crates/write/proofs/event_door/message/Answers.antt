-- `message` meets its contract, message by message.
use Rattle.smf.specs.Kind.{raw_message}
use Rattle.smf.specs.Event.{message_fits}
use Rattle.write.proofs.Forms.{midi_made}
use Rattle.write.proofs.RowForms.{and-true}
use Rattle.write.proofs.event_door.message.Goals as goal

pub returns-in-NoteOff : goal.returns-in-NoteOff
unfolding message_fits raw_message
returns-in-NoteOff c = λ rules bytes. rw (c.in-NoteOff.is, midi_made rules bytes) (rw c.from-ch.ensures at (c.two.ensures bytes))

pub returns-in-NoteOn : goal.returns-in-NoteOn
unfolding message_fits raw_message
returns-in-NoteOn c = λ rules bytes. rw (c.in-NoteOn.is, midi_made rules bytes) (rw c.from-ch.ensures at (c.two-in-NoteOn.ensures bytes))

pub returns-in-Aftertouch : goal.returns-in-Aftertouch
unfolding message_fits raw_message
returns-in-Aftertouch c = λ rules bytes. rw (c.in-Aftertouch.is, midi_made rules bytes) (rw c.from-ch.ensures at (c.two-in-Aftertouch.ensures bytes))

pub returns-in-Controller : goal.returns-in-Controller
unfolding message_fits raw_message
returns-in-Controller c = λ rules bytes. rw (c.in-Controller.is, midi_made rules bytes) (rw c.from-ch.ensures at (c.two-in-Controller.ensures bytes))

pub returns-in-ProgramChange : goal.returns-in-ProgramChange
unfolding message_fits raw_message
returns-in-ProgramChange c = λ rules bytes. rw (c.in-ProgramChange.is, midi_made rules bytes) (rw (c.from-ch.ensures, c.from.ensures, and-true) at (c.channel.ensures bytes))

pub returns-in-ChannelAftertouch : goal.returns-in-ChannelAftertouch
unfolding message_fits raw_message
returns-in-ChannelAftertouch c = λ rules bytes. rw (c.in-ChannelAftertouch.is, midi_made rules bytes) (rw (c.from-ch.ensures, c.from-in-ChannelAftertouch.ensures, and-true) at (c.channel-in-ChannelAftertouch.ensures bytes))

pub returns-in-PitchBend : goal.returns-in-PitchBend
unfolding message_fits raw_message
returns-in-PitchBend c = λ rules bytes. rw (c.in-PitchBend.is, midi_made rules bytes) (rw (c.from-ch.ensures, c.from-in-PitchBend.ensures) at (c.pitch.ensures bytes))
