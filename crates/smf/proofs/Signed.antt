-- Laws of signed bytes, and of a signed number's shape under the test whether it is below 0.
use mathlib.Core.Path.{◌≡◌, refl, sym, ap, subst, ◌∙◌}
use mathlib.Core.Bool.{true, false, true≢false}
use Prim.Native.Nat.{ℕ, zero, suc, ◌-◌, ◌<◌, ◌≤◌}
use native.Mathlib.Omega.{arith}
use lib.IntN.{ℤ, pos, negsuc, ◌-ℤ◌, neg_ℤ, +ℤ_idl}
use lib.Signed.{mag, lt_z}
use borrow.Author.Tests.{lt-ltb, le-ltb}
use mir.Syntax.{Width, w8, w16}
use mir.Val.{SFits, to_z, of_z}
use mir.ValLaws.{to_z_pos}
use mir.Facts.{to_z-of_z}
use Rattle.smf.proofs.Answer.{by_lt}
use Rattle.smf.specs.Signed.{signed_byte, byte_of_signed}

-- a difference that is below 0
pub sub_below : (a b : ℕ) → a < b → pos a -ℤ pos b ≡ negsuc (b - suc a)
sub_below a zero h = elim h [ ]
sub_below a (suc b) h = rw (lt-ltb a (suc b))

-- a byte less 256
pub less_256 : (b : ℕ) → b < 256 → pos b -ℤ pos 256 ≡ negsuc (255 - b)
less_256 b h = sub_below b 256 h ∙ ap negsuc (omega arith)

-- a byte below 80 is its own signed number, and one from 80 up stands for itself less 256
pub signed_low : (b : ℕ) → b < 128 → signed_byte b ≡ pos b
unfolding signed_byte
signed_low b h = rw (lt-ltb b 128)

pub signed_high : (b : ℕ) → 128 ≤ b → b < 256 → signed_byte b ≡ negsuc (255 - b)
unfolding signed_byte
signed_high b low high = rw (le-ltb b 128) (less_256 b high)

-- the byte of a byte's signed number is the byte
pub byte_back : (b : ℕ) → b < 256 → byte_of_signed (signed_byte b) ≡ b
unfolding byte_of_signed
byte_back b h = by_lt b 128 (λ low. ap byte_of_signed (signed_low b low)) (λ high. ap byte_of_signed (signed_high b high h) ∙ omega arith)

-- the signed number of a signed number's byte is the number
pub signed_back : (z : ℤ) → mag z < 128 → signed_byte (byte_of_signed z) ≡ z
unfolding byte_of_signed
signed_back (pos n) h = signed_low n h
signed_back (negsuc n) h = signed_high (255 - n) (omega arith) (omega arith) ∙ ap negsuc (omega arith)

-- minus a byte from 80 up is 256 less the byte; and the byte of minus a number is 256 less the number
pub negated_byte : (b : ℕ) → 128 ≤ b → b < 256 → neg_ℤ (signed_byte b) ≡ pos (256 - b)
negated_byte b low high = ap neg_ℤ (signed_high b low high) ∙ ap pos (omega arith)

pub byte_negated : (n : ℕ) → 0 < n → byte_of_signed (neg_ℤ (pos n)) ≡ 256 - n
unfolding byte_of_signed
byte_negated zero h = absurd (omega arith)
byte_negated (suc n) h = omega arith

-- the machine's minus of a small number, and that it fits
pub minus_small : (n : ℕ) → n < 128 → pos 0 -ℤ to_z w8 n ≡ neg_ℤ (pos n)
minus_small n h = rw (to_z_pos w8 n h) (+ℤ_idl (neg_ℤ (pos n)))

pub minus_fits : (n : ℕ) → n < 128 → SFits w8 (neg_ℤ (pos n))
minus_fits zero h = record { sfits = omega arith }
minus_fits (suc n) h = record { sfits = omega arith }

-- minus a signed byte fits the next wider type
pub neg_fits : (z : ℤ) → SFits w8 z → SFits w16 (neg_ℤ z)
neg_fits (pos zero) h = record { sfits = omega arith }
neg_fits (pos (suc n)) h = record { sfits = omega arith }
neg_fits (negsuc n) h = record { sfits = omega arith }

-- a signed number that is below 0, and one that is not
pub record Below (z : ℤ) : Type 0 where
  pub n : ℕ
  pub is : z ≡ negsuc n

pub record Above (z : ℤ) : Type 0 where
  pub n : ℕ
  pub is : z ≡ pos n

below_zero : (z : ℤ) → lt_z z (pos 0) ≡ true → Below z
below_zero (negsuc n) t = record { n = n; is = refl }
below_zero (pos n) t = absurd (true≢false (sym t ∙ le-ltb n 0 (omega arith)))

above_zero : (z : ℤ) → lt_z z (pos 0) ≡ false → Above z
above_zero (pos n) t = record { n = n; is = refl }
above_zero (negsuc n) t = absurd (true≢false t)

-- the test is made on what the machine reads back of the number
module _ (w : Width) (z : ℤ) (fits : SFits w z) where
  pub negative : lt_z (to_z w (of_z w z)) (pos 0) ≡ true → Below z
  negative t = below_zero z (subst (λ (y : ℤ). lt_z y (pos 0) ≡ true) (to_z-of_z fits) t)

  pub natural : lt_z (to_z w (of_z w z)) (pos 0) ≡ false → Above z
  natural t = above_zero z (subst (λ (y : ℤ). lt_z y (pos 0) ≡ false) (to_z-of_z fits) t)
