-- Signed bytes. SMF 1.0 and document 01: two's complement, so that a byte from 80 up stands for itself less 256.
use Rattle.std.specs.Prelude.{ℕ, ◌-◌, ltb, ℤ, pos, negsuc, ◌-ℤ◌}
use Rattle.smf.specs.Answer.{pick}

-- the signed number of a byte
unfoldable pub signed_byte : ℕ → ℤ
signed_byte byte = pick (ltb byte 128) (pos byte) (pos byte -ℤ pos 256)

-- the byte of a signed number; `negsuc n` is the number -1 - n
unfoldable pub byte_of_signed : ℤ → ℕ
byte_of_signed (pos n) = n
byte_of_signed (negsuc n) = 255 - n
