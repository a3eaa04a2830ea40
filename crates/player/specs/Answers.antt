-- What the functions of this crate answer: the table or the list, and a number beside it, which is 0 where it is accepted, else the refusal's.
use Rattle.std.specs.Prelude.{List, [], ℕ, Err, None, Ok, Option, Result, Some}
use Rattle.smf.specs.Answer.{Answer, gives, refuses, and_then}
use Rattle.smf.specs.Place.{Span}
use Rattle.smf.specs.Event.{Event}
use Rattle.smf.specs.Lists.{Held, holding}
use Rattle.base.specs.Refusal.{number_of}
use Rattle.base.specs.declared.Refusal.{Refusal}
use Rattle.track.specs.List.{capacity, held_of}
use Rattle.track.specs.declared.list.EventList.{EventList}
use Rattle.player.specs.Table.{Table}
use Rattle.player.specs.Notes.{Note, no_such_note, note, table_after}
use Rattle.player.specs.declared.notes.Note as code
use Rattle.player.specs.declared.notes.Untaken.{Untaken}

-- what a function gives, and the number that it answers by
pub record Beside (A : Type 0) : Type 0 where
  pub value : A
  pub number : ℕ

-- something, with a number beside it
abbrev pub with_number : {A : Type 0} → A → ℕ → Beside A
with_number a n = record { value = a; number = n }

-- what is given, with 0 beside it; where it is refused, what stands in for it, and the refusal's number
unfoldable pub beside : {A : Type 0} → A → Answer A → Beside A
beside other (gives a) = with_number a 0
beside other (refuses n) = with_number other n

-- document 02, Q-1: the table after the events that are accepted; after a refusal as it came
abbrev pub table_beside : Table → Answer (List (Event Span)) → Beside Table
table_beside t accepted = beside t (and_then accepted (λ (es : List (Event Span)). gives (table_after t es)))

-- document 02, Q-1: a list of these events; after a refusal an empty one
abbrev pub list_beside : ℕ → Answer (List (Event Span)) → Beside Held
list_beside most asked = beside (holding most []) (and_then asked (λ (es : List (Event Span)). gives (holding most es)))

-- what `after` answers: the table after the list, or the table that is handed back with the refusal
abbrev pub table_said : Result Table Untaken → Beside Table
table_said (Ok t) = with_number t 0
table_said (Err u) = with_number u.table (number_of u.refusal)

-- what `silence` answers: the list; after a refusal an empty one
abbrev pub list_said : Result EventList Refusal → Beside Held
list_said (Ok l) = with_number (held_of l) 0
list_said (Err n) = with_number (holding capacity []) (number_of n)

-- the note message that a value of the code says
abbrev pub note_said : Option code.Note → Note
note_said None = no_such_note
note_said (Some n) = note n.channel n.key n.velocity
