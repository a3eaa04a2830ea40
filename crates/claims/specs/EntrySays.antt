-- What an exported entry says in plain numbers. It answers 0 where it accepts, else the number of its refusal in document 01's table.
use Rattle.std.specs.Prelude.{◌≡◌, List, ℕ, zero, suc}
use Rattle.smf.specs.Answer.{Answer, gives, refuses}
use Rattle.smf.specs.Event.{EventWritten}
use Rattle.smf.specs.Lists.{ListAnswer, wrote, refuses_at, ListSize, ListWritten}
use Rattle.claims.specs.Calls.{Lent}
use Rattle.claims.specs.Table.{OneOf}

-- what was lent is at the end what it was
abbrev pub Unchanged : {A : Type 0} → Lent A → Type 0
Unchanged v = v.after ≡ v.before

-- an entry accepts, and something holds; or it refuses by one of these numbers, and something else does
abbrev pub Outcome : List ℕ → ℕ → Type 0 → Type 0 → Type 0
Outcome ns zero Accepted Refused = Accepted
Outcome ns (suc n) Accepted Refused = OneOf ns (suc n) × Refused

-- one that refuses by these numbers, and leaves what is left then
abbrev pub AnswersBy : List ℕ → ℕ → Type 0 → Type 0
AnswersBy ns r Left = Outcome ns r (Unit {0}) Left

-- the answer, with the value that was found, as the definitions give it
abbrev pub said : {A : Type 0} → ℕ → A → Answer A
said zero a = gives a
said (suc n) a = refuses (suc n)

abbrev pub said_list : ℕ → ℕ → ℕ → ListAnswer
said_list zero long index = wrote long
said_list (suc n) long index = refuses_at (suc n) index

-- what `apk_event_write` leaves
abbrev pub entry_event_left : Lent (List ℕ) → Lent ℕ → Lent ℕ → ℕ → EventWritten
entry_event_left out next after r = record { written = record { buffer = out.after; answer = said r next.after }; running = after.after }

-- what `apk_list_length` leaves
abbrev pub entry_size_left : Lent ℕ → Lent ℕ → Lent ℕ → ℕ → ListSize
entry_size_left long after index r = record { answer = said_list r long.after index.after; running = after.after }

-- what `apk_list_write` leaves
abbrev pub entry_list_left : Lent (List ℕ) → Lent ℕ → Lent ℕ → Lent ℕ → ℕ → ListWritten
entry_list_left out long after index r = record { buffer = out.after; answer = said_list r long.after index.after; running = after.after }
