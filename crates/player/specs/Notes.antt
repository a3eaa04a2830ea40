-- What a list of events leaves in a table. Document 02, Q-1: after any list each entry is the velocity of the last note message for it, 0 after a
-- `NoteOff`, and as before if there was none; aftertouch changes nothing.
use Rattle.std.specs.Prelude.{◌&&◌, List, [], ◌∷◌, ℕ, eqb}
use Rattle.smf.specs.Answer.{pick}
use Rattle.smf.specs.Kind.{Message, note_off, note_on, aftertouch, controller, program_change, channel_aftertouch, pitch_bend}
use Rattle.smf.specs.Kind.{Kind, midi, sys_ex, escape, meta}
use Rattle.smf.specs.Event.{Event}
use Rattle.player.specs.Table.{Table, entry, table_of}

-- a note message, with the velocity that it leaves at its channel and key; or no note message
pub data Note : Type 0 where
  no_such_note : Note
  note : (channel key velocity : ℕ) → Note

-- a `NoteOff` leaves 0, a `NoteOn` its velocity, which may be 0
unfoldable pub message_note : ℕ → Message → Note
message_note channel (note_off key vel) = note channel key 0
message_note channel (note_on key vel) = note channel key vel
message_note channel (aftertouch key vel) = no_such_note
message_note channel (controller number value) = no_such_note
message_note channel (program_change program) = no_such_note
message_note channel (channel_aftertouch vel) = no_such_note
message_note channel (pitch_bend raw) = no_such_note

-- the note message that a kind is
unfoldable pub kind_note : {P : Type 0} → Kind P → Note
kind_note (midi channel message) = message_note channel message
kind_note (sys_ex p) = no_such_note
kind_note (escape p) = no_such_note
kind_note (meta m) = no_such_note

-- what becomes of an entry: it stays as it is, or becomes a velocity
pub data Change : Type 0 where
  stays : Change
  becomes : ℕ → Change

-- what a note message makes of the entry of a channel and key: it stays, where the message is for another
unfoldable pub change_by : ℕ → ℕ → Note → Change
change_by channel key no_such_note = stays
change_by channel key (note c k v) = pick (eqb c channel && eqb k key) (becomes v) stays

-- of two changes one behind the other the last one counts
unfoldable pub last_of : Change → Change → Change
last_of front stays = front
last_of front (becomes v) = becomes v

-- what the last note message for a channel and key makes of its entry
unfoldable pub last_note : {P : Type 0} → ℕ → ℕ → List (Event P) → Change
last_note channel key [] = stays
last_note channel key (e ∷ es) = last_of (change_by channel key (kind_note e.kind)) (last_note channel key es)

-- an entry after a change
abbrev pub changed : ℕ → Change → ℕ
changed before stays = before
changed before (becomes v) = v

-- the table after events
unfoldable pub table_after : {P : Type 0} → Table → List (Event P) → Table
table_after t es = table_of (λ channel key. changed (entry t channel key) (last_note channel key es))
