-- Writing into a lent buffer. Document 01, "Refusal numbers": 20 where there is no room; a refused write leaves every byte as it came,
-- an accepted one gives its length and writes no byte beyond.
use Rattle.std.specs.Prelude.{List, ◌++◌, ℕ, ◌+◌, ◌^◌, leb, ltb, length, take, drop}
use Rattle.smf.specs.Answer.{pick, Answer, gives, refuses, unless, and_then}
use Rattle.smf.specs.Width.{try_width}
use Rattle.smf.specs.Number.{encode_number}
use Rattle.smf.specs.Payload.{encode_payload}
use Rattle.smf.specs.Place.{Span, inside, bytes_of}

-- what a write leaves in the buffer, and what it answers: the place after what was written
pub record Written : Type 0 where
  pub buffer : List ℕ
  pub answer : Answer ℕ

-- bs over as many bytes at a place of the buffer
abbrev pub over : List ℕ → List ℕ → ℕ → List ℕ
over bs buffer at = take at buffer ++ (bs ++ drop (at + length bs) buffer)

-- a refused write
abbrev pub left : List ℕ → ℕ → Written
left buffer n = record { buffer = buffer; answer = refuses n }

-- bytes put at a place
unfoldable pub put : List ℕ → List ℕ → ℕ → Written
put bs buffer at =
    pick (leb (at + length bs) (length buffer)) (record { buffer = over bs buffer at; answer = gives (at + length bs) })
    (left buffer 20)

-- the bytes that a thing has, put at a place, unless it has none
abbrev pub write : Answer (List ℕ) → List ℕ → ℕ → Written
write (gives bs) buffer at = put bs buffer at
write (refuses n) buffer at = left buffer n

-- a number's bytes; 18 above its width
unfoldable pub number_bytes : ℕ → Answer (List ℕ)
number_bytes v = and_then (try_width 28 v) (λ (n : ℕ). gives (encode_number n))

-- the bytes of a range; document 01: 19 where it is not inside the bytes lent, and a start beyond the end counts even at length 0
unfoldable pub part : List ℕ → Span → Answer (List ℕ)
part bytes span = unless (inside bytes span) 19 (gives (bytes_of bytes span))

-- document 01: 22 where a payload is above 268,435,455 bytes
unfoldable pub load_bytes : List ℕ → Answer (List ℕ)
load_bytes bytes = unless (ltb (length bytes) (2 ^ 28)) 22 (gives (encode_payload bytes))

-- a payload's bytes, of a range of the bytes lent
unfoldable pub payload_bytes : List ℕ → ℕ → ℕ → Answer (List ℕ)
payload_bytes bytes start n = and_then (part bytes (record { start = start; length = n })) load_bytes
