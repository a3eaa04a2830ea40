-- `note_of` meets its contract: the two note messages by their arms, and nothing else is one.
use Rattle.player.specs.Notes.{message_note, kind_note}
use Rattle.player.proofs.Others.{no_note, no_message}
use Rattle.player.proofs.notes.note_of.Goals as goal

pub returns-in-NoteOff : goal.returns-in-NoteOff
unfolding message_note kind_note
returns-in-NoteOff c = rw (c.in-Midi.is, c.in-NoteOff.is) c.leaving.ensures

pub returns-in-NoteOn : goal.returns-in-NoteOn
unfolding message_note kind_note
returns-in-NoteOn c = rw (c.in-Midi.is, c.in-NoteOn.is) c.leaving-in-NoteOn.ensures

pub returns-in_default-message : goal.returns-in_default-message
unfolding kind_note
returns-in_default-message c = let d = c.in_default-message in rw c.in-Midi.is (no_note c.in-Midi.channel.0 c.in-Midi.message d.not-NoteOff d.not-NoteOn)

pub returns-in_default : goal.returns-in_default
returns-in_default c = no_message c.args.kind c.in_default.not-Midi
