-- Places. Document 01, "What must change shape": a slice that shrinks is a place by value; a payload is its start and length in the bytes lent.
use Rattle.std.specs.Prelude.{Bool, List, ℕ, ◌+◌, ◌-◌, leb, length, take, drop}
use Rattle.smf.specs.Answer.{Answer, gives, and_then, Rules}
use Rattle.smf.specs.Number.{Numeral, read_number, padding_of}
use Rattle.smf.specs.Payload.{Payload, read_payload}

-- the place of what is left, of the bytes s read from place at: at, and as many on as were used
abbrev pub place_of : List ℕ → ℕ → List ℕ → ℕ
place_of s at rest = at + (length (drop at s) - length rest)

-- a number read at a place, the place after it, and its padding
pub record NumberAt : Type 0 where
  pub value : ℕ
  pub next : ℕ
  pub padding : ℕ

-- a number that was read from a place on
abbrev pub number_placed : List ℕ → ℕ → Numeral → NumberAt
number_placed s at n = record { value = n.value; next = place_of s at n.rest; padding = padding_of (drop at s) n }

-- the number at a place
unfoldable pub number_at : Rules → List ℕ → ℕ → Answer NumberAt
number_at rules s at = and_then (read_number rules (drop at s)) (λ (n : Numeral). gives (number_placed s at n))

-- a payload's start and length in the bytes lent
pub record Span : Type 0 where
  pub start : ℕ
  pub length : ℕ

-- document 01, refusal 19: a range not inside the payload bytes; start beyond the end counts even at length 0
unfoldable pub inside : List ℕ → Span → Bool
inside bytes span = leb (span.start + span.length) (length bytes)

-- the bytes of a range
unfoldable pub bytes_of : List ℕ → Span → List ℕ
bytes_of bytes span = take span.length (drop span.start bytes)

-- a payload read at a place, and the padding of its number
pub record PayloadAt : Type 0 where
  pub span : Span
  pub padding : ℕ

-- it ends where what is left begins
abbrev pub span_placed : List ℕ → ℕ → Payload → Span
span_placed s at p = record { start = place_of s at p.rest - length p.bytes; length = length p.bytes }

-- a payload that was read from a place on
abbrev pub payload_placed : List ℕ → ℕ → Payload → PayloadAt
payload_placed s at p = record { span = span_placed s at p; padding = p.padding }

-- the payload at a place
unfoldable pub payload_at : Rules → List ℕ → ℕ → Answer PayloadAt
payload_at rules s at = and_then (read_payload rules (drop at s)) (λ (p : Payload). gives (payload_placed s at p))
