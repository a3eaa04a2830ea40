-- Laws of bend values: integers, floats and raw bends, there and back.
use mathlib.Core.Path.{◌≡◌, refl, sym, ap, subst, ◌∙◌}
use mathlib.Core.Bool.{true}
use Prim.Native.Nat.{ℕ, suc, ◌+◌, ◌-◌, ◌^◌, ◌<◌, ◌≤◌}
use native.Mathlib.Omega.{arith}
use lib.IntN.{ℤ, pos, negsuc, nat_abs, sub_ℕ, ◌+ℤ◌, ◌-ℤ◌, -ℤ-+ℤ_cancel, +ℤ-neg_ℤ_cancel}
use lib.Signed.{mag}
use lib.Dec.{ltb, lit<, lit≤}
use lib.Ieee.{Format, nan, fin, mul, of_int}
use borrow.Author.Tests.{ltb-false, lt-ltb, le-ltb}
use Rattle.smf.specs.Answer.{gives, refuses}
use Rattle.smf.specs.Bend.{lowest, highest, bend_of, clamped, raw_bend, ask_bend, scaled, raw_bend_of_float, quotient, ask_float, GivesQuotient}
use Rattle.smf.proofs.Answer.{by_lt, pick_test}
use Rattle.smf.proofs.Width.{try_in, try_out}
use Rattle.smf.proofs.BendFloat.{one, step, quotient_is, quotient_exact, scaled_quotient}

-- ---- integers and raw bends

-- an integer is a signed bend where its `mag` is below 8,192: that of -(n + 1) is n
pub clamped_mag : (z : ℤ) → mag (clamped z) < 8192
unfolding clamped
clamped_mag (pos n) = pick_test (λ z. mag z < 8192) (ltb 8191 n) (λ e. lit< tt) (λ e. omega (arith, ltb-false 8191 n e))
clamped_mag (negsuc n) = pick_test (λ z. mag z < 8192) (ltb 8191 n) (λ e. lit< tt) (λ e. omega (arith, ltb-false 8191 n e))

-- a signed bend is not clamped
pub clamped_same : (z : ℤ) → mag z < 8192 → clamped z ≡ z
unfolding clamped
clamped_same (pos n) h = rw (le-ltb 8191 n (omega arith))
clamped_same (negsuc n) h = rw (le-ltb 8191 n (omega arith))

-- a - b is within m where a is below b + m, and b is not above m
sub_mag : (a b m : ℕ) → a < b + m → b ≤ m → mag (sub_ℕ a b) < m
sub_mag a b m h k = by_lt a b (λ p. rw (lt-ltb a b p) (omega arith)) (λ p. rw (le-ltb a b p) (omega arith))

-- a raw bend is a signed one
pub bend_mag : (raw : ℕ) → raw < 2 ^ 14 → mag (bend_of raw) < 8192
bend_mag raw h = sub_mag raw 8192 8192 h (lit≤ tt)

-- 8,192 above a signed bend there is a number of 14 bits ..
record Raised (z : ℤ) : Type 0 where
  raw : ℕ
  small : raw < 2 ^ 14
  is : z +ℤ pos 8192 ≡ pos raw

raised : (z : ℤ) → mag z < 8192 → Raised z
raised (pos n) h = record { raw = n + 8192; small = omega arith; is = refl }
raised (negsuc n) h = record { raw = 8192 - suc n; small = omega arith; is = rw (le-ltb 8192 (suc n) h) }

-- .. which is the raw bend of an integer, once that is clamped
pub raw_small : (z : ℤ) → raw_bend z < 2 ^ 14
unfolding raw_bend
raw_small z = let r = raised (clamped z) (clamped_mag z) in rw r.is r.small

pub raw_is : (z : ℤ) → clamped z +ℤ pos 8192 ≡ pos (raw_bend z)
unfolding raw_bend
raw_is z = let r = raised (clamped z) (clamped_mag z) in r.is ∙ ap (λ (x : ℤ). pos (nat_abs x)) (sym r.is)

-- from an integer and back: the clamped integer
pub bend_back : (z : ℤ) → bend_of (raw_bend z) ≡ clamped z
bend_back z = ap (λ (x : ℤ). x -ℤ pos 8192) (sym (raw_is z)) ∙ +ℤ-neg_ℤ_cancel (clamped z) (pos 8192)

-- to an integer and back: the raw bend
pub raw_back : (raw : ℕ) → raw < 2 ^ 14 → raw_bend (bend_of raw) ≡ raw
unfolding raw_bend
raw_back raw h = rw (clamped_same (bend_of raw) (bend_mag raw h)) (ap nat_abs (-ℤ-+ℤ_cancel (pos raw) (pos 8192)))

-- a bend's value asked, by the width
pub ask_in : (raw : ℕ) → raw < 2 ^ 14 → gives (bend_of raw) ≡ ask_bend raw
unfolding ask_bend
ask_in raw h = rw (sym (try_in 14 h))

pub ask_out : (raw : ℕ) → 2 ^ 14 ≤ raw → refuses 18 ≡ ask_bend raw
unfolding ask_bend
ask_out raw h = rw (sym (try_out 14 h))

-- what is given is the signed bend of a raw one
pub asked : (raw : ℕ) (z : ℤ) → gives z ≡ ask_bend raw → (raw < 2 ^ 14) × (z ≡ bend_of raw)
asked raw z e =
    by_lt raw (2 ^ 14) (λ h. (h, cc (ask_in raw h)))
    (λ h. let clash : ◌≡◌ {A = ℕ} 0 1 = cc (ask_out raw h) in absurd (omega arith))

-- .. and so within its bounds
pub asked_mag : (raw : ℕ) (z : ℤ) → gives z ≡ ask_bend raw → mag z < 8192
asked_mag raw z e = let a = asked raw z e in subst (λ (x : ℤ). mag x < 8192) (sym a.1) (bend_mag raw a.0)

-- ---- floats

-- a float asked: of the bend that is given, times 1 / 8,192, and a refusal stays what it is
pub ask_float_lem : (f : Format) (raw : ℕ) (z : ℤ) → gives z ≡ ask_bend raw → gives (mul f (of_int f z) step) ≡ ask_float f raw
unfolding ask_float
ask_float_lem f raw z e = rw (sym e) (ap gives (quotient_is f z (asked_mag raw z e)))

pub ask_float_out : (f : Format) (raw n : ℕ) → refuses n ≡ ask_bend raw → refuses n ≡ ask_float f raw
unfolding ask_float
ask_float_out f raw n e = rw (sym e)

pub ask_exact : (f : Format) (raw : ℕ) → GivesQuotient raw (ask_float f raw)
unfolding ask_float GivesQuotient
ask_exact f raw = by_lt raw (2 ^ 14)
    (λ h. rw (sym (ask_in raw h)) (quotient_exact f (bend_of raw) (bend_mag raw h)))
    (λ h. rw (sym (ask_out raw h)) tt)

-- to a float and back: the raw bend
pub float_back : (f : Format) (raw : ℕ) → raw < 2 ^ 14 → raw_bend_of_float (quotient f (bend_of raw)) ≡ raw
unfolding raw_bend_of_float
float_back f raw h = ap raw_bend (scaled_quotient f (bend_of raw) (bend_mag raw h)) ∙ raw_back raw h

-- document 01: NaN gives -8,192, 1.0 gives 8,191, and a fraction is dropped toward zero: -1.5 / 8,192 gives -1
nan_lowest : bend_of (raw_bend_of_float nan) ≡ lowest
unfolding clamped raw_bend scaled raw_bend_of_float
nan_lowest = refl

one_highest : bend_of (raw_bend_of_float one) ≡ highest
unfolding clamped raw_bend scaled raw_bend_of_float
one_highest = refl

toward_zero : bend_of (raw_bend_of_float (fin true 3 (negsuc 13))) ≡ negsuc 0
unfolding clamped raw_bend scaled raw_bend_of_float
toward_zero = refl
