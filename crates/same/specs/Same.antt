-- What a test tells, and the parts of a row that are compared.
use Rattle.std.specs.Prelude.{Bool, true, false, List, [], ◌∷◌, ℕ}
use Rattle.smf.specs.Place.{Span}
use Rattle.rows.specs.declared.Row.{Row}

-- document 01, "Lists": the same by the rule, and different otherwise; true where the rule holds, false where it does not
abbrev pub Tells : Bool → Type 0 → Type 0
Tells true Rule = Rule
Tells false Rule = Rule → ⊥

-- a range of the bytes lent, by its start and length
abbrev pub span : ℕ → ℕ → Span
span start size = record { start = start; length = size }

-- document 01, "Lists": kinds and fields; the number of a row's kind, and its six fields
abbrev pub row_fields : Row → List ℕ
row_fields r = r.kind ∷ r.a ∷ r.b ∷ r.c ∷ r.d ∷ r.e ∷ r.f ∷ []

-- the range of a row's payload, of which the bytes count and not the start
abbrev pub load_span : Row → Span
load_span r = span r.start r.length
