-- Documents 01 and 02, "Refusal numbers": the table, and the numbers of it by which each thing is refused.
use Rattle.std.specs.Prelude.{◌≡◌, Bool, true, false, ◌&&◌, ◌||◌, List, [], ◌∷◌, ℕ, leb, eqb}
use Rattle.smf.specs.Answer.{pick, Answer, gives, refuses}

-- the table has the numbers 1 to 26, and 34; documents 01 and 02
abbrev pub in_table : ℕ → Bool
in_table n = (leb 1 n && leb n 26) || eqb n 34

-- whether a number is one of these
abbrev pub among : List ℕ → ℕ → Bool
among [] n = false
among (m ∷ ms) n = eqb n m || among ms n

-- a number of the table, and one of these
abbrev pub OneOf : List ℕ → ℕ → Type 0
OneOf ns n = (in_table n && among ns n) ≡ true

-- a value, or a refusal by one of these numbers
abbrev pub By : {A : Type 0} → List ℕ → Answer A → Type 0
By ns (gives a) = Unit {0}
By ns (refuses n) = OneOf ns n

-- a write that gives a value, or refuses by one of these numbers and leaves the buffer as it was
abbrev pub Keeps : {A B : Type 0} → List ℕ → Answer A → B → B → Type 0
Keeps ns (gives a) before after = Unit {0}
Keeps ns (refuses n) before after = OneOf ns n × (after ≡ before)

-- a number that is read: 2 cut off, 3 its fourth byte continues, both only where reading is strict
abbrev pub of_number : Bool → List ℕ
of_number strict = pick strict (2 ∷ 3 ∷ []) []

-- a payload that is read: its number's, and 11 cut off, only where reading is strict
abbrev pub of_payload : Bool → List ℕ
of_payload strict = pick strict (2 ∷ 3 ∷ 11 ∷ []) []

-- a meta message that is read: 10 no type, its payload's, 12 strict: channel or port, 13 SMPTE time, 14 key signature
abbrev pub of_meta : Bool → List ℕ
of_meta strict = pick strict (2 ∷ 3 ∷ 10 ∷ 11 ∷ 12 ∷ 13 ∷ 14 ∷ []) (10 ∷ 13 ∷ 14 ∷ [])

-- an event that is read: 1 to 14, of which 2, 3, 11 and 12 only where reading is strict
abbrev pub of_event : Bool → List ℕ
of_event strict =
    pick strict (1 ∷ 2 ∷ 3 ∷ 4 ∷ 5 ∷ 6 ∷ 7 ∷ 8 ∷ 9 ∷ 10 ∷ 11 ∷ 12 ∷ 13 ∷ 14 ∷ [])
    (1 ∷ 4 ∷ 5 ∷ 6 ∷ 7 ∷ 8 ∷ 9 ∷ 10 ∷ 13 ∷ 14 ∷ [])

-- an event that is not legal: 18 a field above its width, 19 a payload outside the bytes, 22 one too long, 23 an `Unknown` that is named
abbrev pub of_legality : List ℕ
of_legality = 18 ∷ 19 ∷ 22 ∷ 23 ∷ []

-- an event that is measured, and one that is written: 1 the running status first; 20 no room, last
abbrev pub of_length : List ℕ
of_length = 1 ∷ of_legality

abbrev pub of_writing : List ℕ
of_writing = 1 ∷ 20 ∷ of_legality

-- a list that is measured, and one that is written: 21 a count above what a list holds
abbrev pub of_list_length : List ℕ
of_list_length = 1 ∷ 21 ∷ of_legality

abbrev pub of_list_writing : List ℕ
of_list_writing = 1 ∷ 20 ∷ 21 ∷ of_legality

-- document 02, Q-3: a block that is no bank: 24 shorter than its header and entries, 25 too many tracks, 26 any other disagreement
abbrev pub of_bank : List ℕ
of_bank = 24 ∷ 25 ∷ 26 ∷ []

-- a track of a bank: 34 no such index
abbrev pub of_bank_track : List ℕ
of_bank_track = 34 ∷ of_bank

-- a bank that is written: 25 too many tracks, 19 a range outside the bytes, 20 above the most bytes or the room
abbrev pub of_bank_writing : List ℕ
of_bank_writing = 19 ∷ 20 ∷ 25 ∷ []
