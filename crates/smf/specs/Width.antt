-- Restricted numbers, module 1 of document 01: u2, u4, u7, u14, u15, u24 and u28 are numbers of that many bits.
use Rattle.std.specs.Prelude.{ℕ, ◌%◌, ◌^◌, ◌-◌, ltb}
use Rattle.smf.specs.Answer.{pick, Answer, gives, refuses}

-- the low w bits of x
abbrev pub low_bits : ℕ → ℕ → ℕ
low_bits w x = x % 2 ^ w

-- the largest number of w bits
abbrev pub largest : ℕ → ℕ
largest w = 2 ^ w - 1

-- x as a number of w bits; 18 where it is above that width
unfoldable pub try_width : ℕ → ℕ → Answer ℕ
try_width w x = pick (ltb x (2 ^ w)) (gives x) (refuses 18)
