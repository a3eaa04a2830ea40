-- Variable-length numbers.
-- SMF 1.0: one to four bytes of seven bits each, the highest first, bit 7 set on all but the last.
use Rattle.std.specs.Prelude.{Bool, true, false, List, [], ◌∷◌, ◌++◌, ℕ, zero, suc, ◌+◌, ◌-◌, ◌*◌, ◌/◌, ◌%◌, ltb, eqb, length}
use Rattle.smf.specs.Answer.{pick, Answer, gives, Rules, strictly}

-- the bits so far with a byte's low seven behind them
abbrev pub joined : ℕ → ℕ → ℕ
joined bits byte = bits * 128 + byte % 128

-- whether no byte is left
abbrev pub no_more : List ℕ → Bool
no_more [] = true
no_more (b ∷ bs) = false

-- SMF: whether the bytes, all of them, are a number's: at most k, with bit 7 set on all but the last
unfoldable pub is_number : ℕ → List ℕ → Bool
is_number zero bytes = false
is_number (suc k) [] = false
is_number (suc k) (b ∷ bs) = pick (ltb b 128) (no_more bs) (is_number k bs)

-- SMF: the number that the bytes stand for, behind the bits so far
unfoldable pub value_from : ℕ → List ℕ → ℕ
value_from bits [] = bits
value_from bits (b ∷ bs) = value_from (joined bits b) bs

-- SMF: the groups ahead of the last, bit 7 set: none where no bit is left, and at most k
unfoldable pub ahead : ℕ → ℕ → List ℕ
ahead zero v = []
ahead (suc k) v = pick (eqb v 0) [] (ahead k (v / 128) ++ ((128 + v % 128) ∷ []))

-- SMF: the shortest bytes of a number
unfoldable pub encode_number : ℕ → List ℕ
encode_number v = ahead 3 (v / 128) ++ ((v % 128) ∷ [])

-- a number that was read, and the bytes after it
pub record Numeral : Type 0 where
  pub value : ℕ
  pub rest : List ℕ

-- a value, and the bytes after it
abbrev pub numeral : ℕ → List ℕ → Numeral
numeral v rest = record { value = v; rest = rest }

-- Document 01, "Bytes of an event": at the end of the bytes the number stops with the bits read so far (strict: 2);
-- a fourth byte ends it whether or not it continues (strict, if it does: 3). Here at most k bytes more are read.
unfoldable pub number_from : Rules → ℕ → ℕ → List ℕ → Answer Numeral
number_from rules zero bits bytes = strictly rules 3 (numeral bits bytes)
number_from rules (suc k) bits [] = strictly rules 2 (numeral bits [])
number_from rules (suc k) bits (b ∷ bs) =
    pick (ltb b 128) (gives (numeral (joined bits b) bs)) (number_from rules k (joined bits b) bs)

-- the number that the bytes begin with
unfoldable pub read_number : Rules → List ℕ → Answer Numeral
read_number rules bytes = number_from rules 4 0 bytes

-- Document 02, Q-2: of the bytes used for a value, those beyond the fewest that hold it. A difference stops at 0: fewer are used only where no byte was
-- there, which is `fewest` of the law `Took` in `smf/proofs/Number.antt`.
abbrev pub beyond_fewest : ℕ → ℕ → ℕ
beyond_fewest used value = used - length (encode_number value)

-- the padding of a number that the bytes begin with
abbrev pub padding_of : List ℕ → Numeral → ℕ
padding_of bytes n = beyond_fewest (length bytes - length n.rest) n.value
