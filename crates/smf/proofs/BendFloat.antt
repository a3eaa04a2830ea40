-- What a multiplication by 8,192, or by its inverse, makes of a float: laws over the format, so that `f32` and `f64` share them.
use mathlib.Core.Path.{◌≡◌, refl, sym, ap, subst, ◌∙◌}
use mathlib.Core.Bool.{Bool, true, false, ◌||◌, ◌&&◌, true≢false}
use Prim.Native.Nat.{ℕ, zero, suc, ◌+◌, ◌-◌, ◌*◌, ◌/◌, ◌%◌, ◌^◌, ◌<◌, ◌≤◌, min}
use native.Mathlib.Nat.{mul-one, one-mul, mul_assoc, mul_comm, mul_right_comm, mul-div_cancel, mul-le-mul_right, le_of_mul-le-mul_right, le_trans, le_of_eq, lt_of_le_of_lt, lt_of_lt_of_le, div-le_of_le-mul, min-eq_left, min-eq_right}
use native.Mathlib.Omega.{arith}
use lib.IntN.{ℤ, pos, negsuc, neg_ℤ}
use lib.Signed.{mag}
use lib.Dec.{T, ltb, leb, eqb, lt→ltb, ltb→lt, leb→le, eqb→eq, lit≤, lit<}
use lib.Pow.{pow-add, pow_pos, pow-lt, pow_mono}
use lib.Ieee.{Float, nan, inf, fin, Format, binary32, binary64, prec, emax, low, up, down, unlike, round, mul, of_int, lt, le, fits, to_signed}
use lib.Ieee.Fits.{down_pos, and_l, and_r}
use lib.Ieee.Exact.{HasValue, round_exact}
use lib.Ieee.Back.{round_whole}
use lib.Ieee.Nearest.{div_same}
use lib.Ieee.Scale.{round_same}
use borrow.Author.Tests.{ltb-true, ltb-false}
use Rattle.smf.specs.Answer.{pick}
use Rattle.smf.specs.Bend.{signed, scaled, quotient, IsQuotient}
use Rattle.smf.proofs.Answer.{by_lt}

-- ---- to a float

-- 1 / 8,192
abbrev pub step : Float
step = fin false 1 (negsuc 12)

-- what the laws here use of a format: it has 14 digits at least, and 13 binary places either way
roomy : (f : Format) → (14 ≤ prec f) × (13 ≤ low f) × (13 ≤ emax f)
roomy binary32 = (lit≤ tt, lit≤ tt, lit≤ tt)
roomy binary64 = (lit≤ tt, lit≤ tt, lit≤ tt)

same_sign : (s : Bool) → unlike s false ≡ s
same_sign true = refl
same_sign false = refl

-- a float that is n, times 1 / 8,192, is the rounded n / 8,192
times_step : (f : Format) (x : Float) (s : Bool) (n : ℕ) → HasValue x s n 1 → mul f x step ≡ round f s n 8192
unfolding mul
times_step f nan s n v = absurd v
times_step f (inf t) s n v = absurd v
times_step f (fin t m e) s n v =
    ap (λ (b : Bool). round f b (m * up e * 1) (down e * 8192)) (same_sign t ∙ v.0)
    ∙ round_same f s (m * up e * 1) (down e * 8192) n 8192 (omega (arith, down_pos e)) (lit< tt)
    (ap (λ (a : ℕ). a * 8192) v.1 ∙ mul_assoc n (down e) 8192)

-- up to 8,192 the rounded n / 8,192 is exact
quotient_of : (f : Format) (s : Bool) (n : ℕ) → n ≤ 8192 → HasValue (round f s n 8192) s n 8192
quotient_of f s n h =
    let r = roomy f in
    let j = low f - 13 in
    let split : 2 ^ low f ≡ 2 ^ j * 8192 = ap (λ (k : ℕ). 2 ^ k) (omega arith) ∙ pow-add 2 j 13 in
    round_exact f s n 8192 n j (lit< tt)
    (lt_of_le_of_lt h (lt_of_lt_of_le (lit< tt) (pow_mono r.0)))
    (lt_of_le_of_lt (mul-le-mul_right (2 ^ j) h)
    (lt_of_le_of_lt (le_of_eq (mul_comm 8192 (2 ^ j) ∙ sym split)) (pow-lt (omega arith))))
    (ap (λ (k : ℕ). n * k) split ∙ sym (mul_assoc n (2 ^ j) 8192))

-- the float of a signed bend is its exact quotient by 8,192
pub quotient_exact : (f : Format) (z : ℤ) → mag z < 8192 → IsQuotient z (quotient f z)
unfolding quotient IsQuotient
quotient_exact f (pos n) h = quotient_of f false n (omega arith)
quotient_exact f (negsuc n) h = quotient_of f true (suc n) h

-- a whole number up to 8,192 is a value of the format
whole_of : (f : Format) (s : Bool) (n : ℕ) → n ≤ 8192 → HasValue (round f s n 1) s n 1
whole_of f s n h = round_whole f s n (le_trans h (le_trans (lit≤ tt) (pow_mono (roomy f).0)))

-- and it is the bend as a float, times 1 / 8,192
pub quotient_is : (f : Format) (z : ℤ) → mag z < 8192 → mul f (of_int f z) step ≡ quotient f z
unfolding quotient of_int
quotient_is f (pos n) h = times_step f (round f false n 1) false n (whole_of f false n (omega arith))
quotient_is f (negsuc n) h = times_step f (round f true (suc n) 1) true (suc n) (whole_of f true (suc n) h)

-- read back, the quotient is the bend
quotient_scaled : (y : Float) (s : Bool) (n : ℕ) → n ≤ 8192 → HasValue y s n 8192 → scaled y ≡ signed s n
unfolding scaled
quotient_scaled nan s n h v = absurd v
quotient_scaled (inf t) s n h v = absurd v
quotient_scaled (fin t m e) s n h v =
    let a = m * up e in
    let d = down e in
    let in_one : a ≤ d = le_of_mul-le-mul_right {k = 8192} (le_trans (le_of_eq v.1) (le_trans (mul-le-mul_right d h) (le_of_eq (mul_comm 8192 d)))) (lit< tt) in
    ap (λ (b : Bool). signed b (min a d * 8192 / d)) v.0
    ∙ ap (λ (k : ℕ). signed s (k * 8192 / d)) (min-eq_left in_one)
    ∙ ap (λ (k : ℕ). signed s (k / d)) v.1
    ∙ ap (signed s) (mul-div_cancel n (down_pos e))

pub scaled_quotient : (f : Format) (z : ℤ) → mag z < 8192 → scaled (quotient f z) ≡ z
unfolding quotient
scaled_quotient f (pos n) h = quotient_scaled (round f false n 8192) false n (omega arith) (quotient_of f false n (omega arith))
scaled_quotient f (negsuc n) h = quotient_scaled (round f true (suc n) 8192) true (suc n) h (quotient_of f true (suc n) h)

-- ---- from a float

-- 8,192, 1 and -1
abbrev pub scale : Float
scale = fin false 1 (pos 13)

abbrev pub one : Float
one = fin false 1 (pos 0)

abbrev pub minus_one : Float
minus_one = fin true 1 (pos 0)

-- a value that fits a format has no more digits than it, and no lower place
fits_says : (f : Format) (s : Bool) (m : ℕ) (e : ℤ) → T (fits f (fin s m e)) → (m < 2 ^ prec f) × (down e ≤ 2 ^ low f)
unfolding fits
fits_says f s zero (pos k) t = (pow_pos (prec f), pow_pos (low f))
fits_says f s zero (negsuc k) t = (pow_pos (prec f), omega (arith, eqb→eq (1 * 2 ^ suc k) 1 t, pow_pos (low f)))
fits_says f s (suc m) e t =
    let a = eqb (suc m % 2) 1 in
    let b = ltb (suc m) (2 ^ prec f) in
    let c = leb (down e) (2 ^ low f) in
    let t' : T (a && b && c) = and_l (a && b && c) (ltb (suc m * up e) (2 ^ suc (emax f) * down e)) t in
    (ltb→lt (suc m) (2 ^ prec f) (and_r a b (and_l (a && b) c t')), leb→le (down e) (2 ^ low f) (and_r (a && b) c t'))

-- 2 ^ e is a whole number of the format's smallest values
place : (l : ℕ) (e : ℤ) → down e ≤ 2 ^ l → (j : ℕ) × (up e * 2 ^ l ≡ 2 ^ j * down e)
place l (pos k) h = (k + l, sym (pow-add 2 k l) ∙ sym (mul-one (2 ^ (k + l))))
place l (negsuc k) h =
    let h' : suc k ≤ l = by_lt l (suc k) (λ p. absurd (omega (arith, pow-lt p, h))) (λ p. p) in
    (l - suc k, one-mul (2 ^ l) ∙ ap (λ (x : ℕ). 2 ^ x) (omega arith) ∙ pow-add 2 (l - suc k) (suc k))

-- within -1..1 a float times 8,192 is exact
scaled_exact : (f : Format) (s : Bool) (m : ℕ) (e : ℤ) → T (fits f (fin s m e)) → m * up e ≤ down e
    → HasValue (mul f (fin s m e) scale) s (m * up e * 8192) (down e)
unfolding mul
scaled_exact f s m e t h =
    let l = low f in
    let d = down e in
    let p = place l e (fits_says f s m e t).1 in
    let j = p.0 in
    let whole : m * up e * 2 ^ l ≡ m * 2 ^ j * d = mul_assoc m (up e) (2 ^ l) ∙ ap (λ (x : ℕ). m * x) p.1 ∙ sym (mul_assoc m (2 ^ j) d) in
    let bound : m * 2 ^ j ≤ 2 ^ l = le_of_mul-le-mul_right {k = d} (le_trans (le_of_eq (sym whole)) (le_trans (mul-le-mul_right (2 ^ l) h) (le_of_eq (mul_comm d (2 ^ l))))) (down_pos e) in
    let more : m * 2 ^ (j + 13) ≡ m * 2 ^ j * 8192 = ap (λ (x : ℕ). m * x) (pow-add 2 j 13) ∙ sym (mul_assoc m (2 ^ j) 8192) in
    rw (same_sign s, mul-one (down e))
    (round_exact f s (m * up e * 8192) d m (j + 13) (down_pos e) (fits_says f s m e t).0
    (lt_of_le_of_lt (le_of_eq more)
    (lt_of_le_of_lt (mul-le-mul_right 8192 bound) (lt_of_le_of_lt (le_of_eq (sym (pow-add 2 l 13))) (pow-lt (omega (arith, roomy f))))))
    (mul_right_comm (m * up e) 8192 (2 ^ l) ∙ ap (λ (x : ℕ). x * 8192) whole ∙ mul_right_comm (m * 2 ^ j) d 8192 ∙ ap (λ (x : ℕ). x * d) (sym more)))

-- what the code asks of such a product, and what is left of it without its fraction
pub record Cut (y : Float) (z : ℤ) : Type 0 where
  pub above : T (le (fin true 1 (pos 63)) y)
  pub below : T (lt y (fin false 1 (pos 63)))
  pub is : to_signed 63 y ≡ z
  pub small : mag z ≤ 8192

or_l : (a b : Bool) → T a → T (a || b)
or_l true b t = tt
or_l false b t = absurd t

mag_neg : (r : ℕ) → r ≤ 8192 → mag (neg_ℤ (pos r)) ≤ 8192
mag_neg zero h = omega arith
mag_neg (suc r) h = omega arith

-- a float of at most 8,192 either way
cut : (s : Bool) (m : ℕ) (e : ℤ) → m * up e ≤ 8192 * down e → Cut (fin s m e) (signed s (m * up e / down e))
unfolding le lt to_signed
cut false m e h =
    let d = down_pos e in
    let k = m * up e / down e in
    let n : k ≤ 8192 = div-le_of_le-mul (down e) (omega arith) in
    record {
      above = or_l (ltb 0 (2 ^ 63 * down e + m * up e * 1)) _ (lt→ltb 0 (2 ^ 63 * down e + m * up e * 1) (omega arith));
      below = lt→ltb (m * up e * 1) (2 ^ 63 * down e) (omega arith);
      is = ap pos (min-eq_left (le_trans n (lit≤ tt)));
      small = n;
    }
cut true m e h =
    let d = down_pos e in
    let k = m * up e / down e in
    let n : k ≤ 8192 = div-le_of_le-mul (down e) (omega arith) in
    record {
      above = or_l (ltb (m * up e * 1) (2 ^ 63 * down e)) _ (lt→ltb (m * up e * 1) (2 ^ 63 * down e) (omega arith));
      below = lt→ltb 0 (m * up e * 1 + 2 ^ 63 * down e) (omega arith);
      is = ap (λ (x : ℕ). neg_ℤ (pos x)) (min-eq_left (le_trans n (lit≤ tt)));
      small = mag_neg k n;
    }

-- by the fraction that it is
cut_value : (y : Float) (s : Bool) (a c : ℕ) → 0 < c → a ≤ 8192 * c → HasValue y s a c → Cut y (signed s (a / c))
cut_value nan s a c p h v = absurd v
cut_value (inf t) s a c p h v = absurd v
cut_value (fin t m e) s a c p h v =
    let d = down e in
    let top : m * up e ≤ 8192 * d =
    le_of_mul-le-mul_right {k = c} (le_trans (le_of_eq v.1) (le_trans (mul-le-mul_right d h) (le_of_eq (mul_right_comm 8192 c d)))) p in
    subst (Cut (fin t m e)) (ap (λ (b : Bool). signed b (m * up e / d)) v.0 ∙ ap (signed s) (div_same (m * up e) d a c (down_pos e) p v.1)) (cut t m e top)

-- a float clamped to -1..1, times 8,192
product : (f : Format) (s : Bool) (m : ℕ) (e : ℤ) → T (fits f (fin s m e)) → m * up e ≤ down e → Cut (mul f (fin s m e) scale) (scaled (fin s m e))
unfolding scaled
product f s m e t h =
    subst (Cut (mul f (fin s m e) scale)) (ap (λ (k : ℕ). signed s (k * 8192 / down e)) (sym (min-eq_left h)))
    (cut_value (mul f (fin s m e) scale) s (m * up e * 8192) (down e) (down_pos e)
    (le_trans (mul-le-mul_right 8192 h) (le_of_eq (mul_comm (down e) 8192))) (scaled_exact f s m e t h))

-- a float beyond 1 either way is clamped to 1
beyond : (s : Bool) (m : ℕ) (e : ℤ) → down e ≤ m * up e → scaled (fin s 1 (pos 0)) ≡ scaled (fin s m e)
unfolding scaled
beyond s m e h =
    let d = down e in
    ap (signed s) (sym (ap (λ (k : ℕ). k * 8192 / d) (min-eq_right h) ∙ ap (λ (k : ℕ). k / d) (mul_comm d 8192) ∙ mul-div_cancel 8192 (down_pos e)))

one_fits : (f : Format) (s : Bool) → T (fits f (fin s 1 (pos 0)))
unfolding fits
one_fits binary32 s = tt
one_fits binary64 s = tt

-- 1 or -1 in the place of a float whose clamped value it is
end : (f : Format) (s : Bool) (x : Float) → scaled (fin s 1 (pos 0)) ≡ scaled x → Cut (mul f (fin s 1 (pos 0)) scale) (scaled x)
end f s x e = subst (Cut (mul f (fin s 1 (pos 0)) scale)) e (product f s 1 (pos 0) (one_fits f s) (lit≤ tt))

-- clamped by two comparisons, multiplied and cut, a float gives what the definition says: in either format, at every float that it has
pub clamped_product : (f : Format) (x : Float) → fits f x ≡ true
    → Cut (mul f (pick (lt minus_one x) (pick (lt x one) x one) minus_one) scale) (scaled x)
unfolding lt scaled
clamped_product f x h = go (lt minus_one x) (lt x one) x refl refl (subst T (sym h) tt)
  where
    go : (a b : Bool) (x : Float) → lt minus_one x ≡ a → lt x one ≡ b → T (fits f x) → Cut (mul f (pick a (pick b x one) minus_one) scale) (scaled x)
    go false b nan p q t = end f true nan refl
    go false b (inf true) p q t = end f true (inf true) refl
    go false b (inf false) p q t = absurd (true≢false p)
    go false b (fin true m e) p q t = end f true (fin true m e) (beyond true m e (omega (arith, ltb-false (m * up e * 1) (1 * down e) p)))
    go false b (fin false m e) p q t = absurd (omega (arith, down_pos e, ltb-false 0 (1 * down e + m * up e * 1) p))
    go true false nan p q t = absurd (true≢false (sym p))
    go true false (inf true) p q t = absurd (true≢false (sym p))
    go true false (inf false) p q t = end f false (inf false) refl
    go true false (fin true m e) p q t = absurd (omega (arith, down_pos e, ltb-false 0 (m * up e * 1 + 1 * down e) q))
    go true false (fin false m e) p q t = end f false (fin false m e) (beyond false m e (omega (arith, ltb-false (m * up e * 1) (1 * down e) q)))
    go true true nan p q t = absurd (true≢false (sym p))
    go true true (inf true) p q t = absurd (true≢false (sym p))
    go true true (inf false) p q t = absurd (true≢false (sym q))
    go true true (fin true m e) p q t = product f true m e t (omega (arith, ltb-true (m * up e * 1) (1 * down e) p))
    go true true (fin false m e) p q t = product f false m e t (omega (arith, ltb-true (m * up e * 1) (1 * down e) q))
