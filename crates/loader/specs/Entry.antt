-- What an exported entry leaves its caller with: an answer, and what the values lent to it hold.
use Rattle.std.specs.Prelude.{ℕ, ◌%◌, eqb}
use Rattle.smf.specs.Answer.{Answer, gives, refuses, Rules}

-- the rules that a set of bits says: bit 0 strict; the other bits mean nothing, and are not looked at
abbrev pub from_bits : ℕ → Rules
from_bits bits = record { strict = eqb (bits % 2) 1 }

-- the answer: 0 where it is accepted, else the refusal's number in document 01's table
abbrev pub answered : {A : Type 0} → Answer A → ℕ
answered (gives a) = 0
answered (refuses n) = n

-- what a lent value holds at the end: its part of what is given; after a refusal, what it held
abbrev pub leaves : {A B : Type 0} → (A → B) → Answer A → B → B
leaves part (gives a) held = part a
leaves part (refuses n) held = held
