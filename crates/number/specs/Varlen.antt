-- What reading and writing a number answer, in the terms of the definitions.
use Rattle.number.specs.declared.u28.{u28}
use Rattle.base.specs.declared.Refusal.{Refusal}
use Rattle.number.specs.declared.varlen.NumberAt as code
use Rattle.std.specs.Prelude.{List, ℕ, Result}
use Rattle.smf.specs.Answer.{Answer}
use Rattle.smf.specs.Place.{NumberAt}
use Rattle.smf.specs.Write as write
use Rattle.base.specs.Said.{said}

-- what `u28::try_from` answers
abbrev pub tried_u28 : Result u28 Refusal → Answer ℕ
tried_u28 = said (λ x. x.0)

-- a number, the place after it and its padding, or the number of a refusal
abbrev pub number_read_of : Result code.NumberAt Refusal → Answer NumberAt
number_read_of = said (λ n. record { value = n.value.0; next = n.next; padding = n.padding })

-- the place after what was written, or the number of a refusal
abbrev pub written_to : Result ℕ Refusal → Answer ℕ
written_to = said (λ p. p)

-- what writing answers, with what the buffer holds at the end
abbrev pub write_left : Result ℕ Refusal → List ℕ → write.Written
write_left r buffer = record { buffer = buffer; answer = written_to r }
