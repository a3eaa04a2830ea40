-- What is asked of two rows, or of two sets of rows, and what an answer says.
use Rattle.base.specs.declared.Refusal.{Refusal}
use Rattle.std.specs.Prelude.{◌≡◌, ◌&&◌, List, ℕ, leb, Bool, Err, Ok, Result}
use Rattle.smf.specs.Answer.{pick, Answer, gives, refuses}
use Rattle.smf.specs.Place.{Span}
use Rattle.smf.specs.Event.{Event, Same}
use Rattle.base.specs.Refusal.{number_of}
use Rattle.rows.specs.RowEvent.{is_row}
use Rattle.rows.specs.RowLists.{are_rows}
use Rattle.same.specs.Same.{Tells}

-- two rows can be compared where both are events'; else document 01's 18, as of a field above its width
unfoldable pub rows_asked : List ℕ → List ℕ → Answer (Unit {0})
rows_asked a b = pick (is_row a && is_row b) (gives tt) (refuses 18)

-- so many rows of each, where the counts are those of lists, 21, and then all rows are events', 18
unfoldable pub lists_asked : ℕ → List ℕ → ℕ → List ℕ → ℕ → Answer (Unit {0})
lists_asked most a m b n =
    pick (leb m most && leb n most) (pick (are_rows m a && are_rows n b) (gives tt) (refuses 18)) (refuses 21)

-- of what can be compared an answer tells whether a rule holds, and of the rest it says the number
abbrev pub Says : Result Bool Refusal → Answer (Unit {0}) → Type 0 → Type 0
Says (Ok told) (gives u) Rule = Tells told Rule
Says (Ok told) (refuses n) Rule = ⊥
Says (Err m) (gives u) Rule = ⊥
Says (Err m) (refuses n) Rule = number_of m ≡ n

-- two events that rows may have given are the same where both were given, and are
abbrev pub SameGiven : List ℕ → Answer (Event Span) → List ℕ → Answer (Event Span) → Type 0
SameGiven s (gives e) t (gives f) = Same s e t f
SameGiven s (gives e) t (refuses n) = ⊥
SameGiven s (refuses m) t (gives f) = ⊥
SameGiven s (refuses m) t (refuses n) = ⊥
