-- Payloads. SMF 1.0 and document 01, "Bytes of an event": a number and that many bytes.
use Rattle.std.specs.Prelude.{List, [], ◌++◌, leb, length, take, drop, ℕ}
use Rattle.smf.specs.Answer.{pick, Answer, gives, and_then, Rules, strictly}
use Rattle.smf.specs.Number.{Numeral, read_number, padding_of, encode_number}

-- a payload that was read, the bytes after it, and the padding of its number
pub record Payload : Type 0 where
  pub bytes : List ℕ
  pub rest : List ℕ
  pub padding : ℕ

-- the bytes of a payload, those after it, and the padding of its number
abbrev pub payload : List ℕ → List ℕ → ℕ → Payload
payload bytes rest padding = record { bytes = bytes; rest = rest; padding = padding }

-- behind a number that the bytes begin with. Document 01: a payload cut off is the rest of the bytes; strict: 11. Document 02, Q-2: it keeps the padding of
-- its number as it was read
unfoldable pub payload_after : Rules → List ℕ → Numeral → Answer Payload
payload_after rules bytes n =
    pick (leb n.value (length n.rest)) (gives (payload (take n.value n.rest) (drop n.value n.rest) (padding_of bytes n)))
    (strictly rules 11 (payload n.rest [] (padding_of bytes n)))

-- the payload that the bytes begin with
unfoldable pub read_payload : Rules → List ℕ → Answer Payload
read_payload rules bytes = and_then (read_number rules bytes) (payload_after rules bytes)

-- the shortest bytes of a payload
unfoldable pub encode_payload : List ℕ → List ℕ
encode_payload bytes = encode_number (length bytes) ++ bytes
