-- What `from_f32` and `from_f64`, and `as_f32` and `as_f64`, have in common: laws over the float's format.
-- `to_z w (of_z w z)` is the signed integer z as a machine of w bits holds it.
use Rattle.std.specs.Prelude.{Err, Ok, Result}
use Rattle.std.proofs.Common.{◌≡◌, ℕ, true, false, ℤ, pos, sym, ap, ◌∙◌, subst, arith, to_z-of_z, w16, w64, SFits, to_z, of_z}
use lib.Ieee.{Float, Format, mul, of_int, fits, to_signed}
use Rattle.base.specs.Refusal.{number_of}
use Rattle.base.specs.declared.Refusal.{Refusal}
use Rattle.smf.specs.Answer.{Answer, gives, refuses}
use Rattle.smf.proofs.Answer.{by_test}
use Rattle.smf.specs.Bend.{scaled, ask_bend, ask_float, GivesQuotient}
use Rattle.smf.proofs.BendFloat.{Cut, scale, step, clamped_product}
use Rattle.smf.proofs.Bend.{asked_mag, ask_float_lem, ask_float_out, ask_exact}
use Rattle.std.specs.Float.{fin}
use Rattle.std.specs.Float.Ieee.{lt, eq}
use Rattle.std.specs.Ordering.{float_partial_cmp, partial_lt}
use Rattle.midi.specs.Bend.{bend_int, between, clamped_float}

-- the clamped float y of x, times 8,192
pub product : (f : Format) (x : Float) {y : Float} → fits f x ≡ true → y ≡ clamped_float x → Cut (mul f y scale) (scaled x)
product f x h e = rw e (clamped_product f x h)

-- its whole part z, an `i64`, fits an `i16` ..
module _ (f : Format) (x : Float) {y : Float} {z : ℤ} (h : fits f x ≡ true) (e : y ≡ clamped_float x) (cut : z ≡ to_signed 63 (mul f y scale)) where
  held : to_z w64 (of_z w64 z) ≡ scaled x
  held =
      let p = product f x h e in
      let is : z ≡ scaled x = cut ∙ p.is in
      to_z-of_z {w = w64} (record { sfits = rw is (omega (arith, p.small)) }) ∙ is

  pub narrow : SFits w16 (to_z w64 (of_z w64 z))
  narrow = rw held (record { sfits = omega (arith, (product f x h e).small) })

  -- what is passed on is what the definition gives
  pub passed : to_z w16 (of_z w16 (to_z w64 (of_z w64 z))) ≡ scaled x
  passed = to_z-of_z {w = w16} narrow ∙ held

-- an answer that is the one asked for is exact too
exactly : (f : Format) (raw : ℕ) {a : Answer Float} → a ≡ ask_float f raw → (a ≡ ask_float f raw) × GivesQuotient raw a
exactly f raw e = (e, subst (GivesQuotient raw) (sym e) (ask_exact f raw))

-- the bend z that `as_int` gave, as a float, times 1 / 8,192
module _ (f : Format) (raw : ℕ) {r : Result ℤ Refusal} (a : bend_int r ≡ ask_bend raw) where
  pub given : {z : ℤ} → r ≡ Ok z
      → let x = gives (mul f (of_int f (to_z w16 (of_z w16 z))) step) in (x ≡ ask_float f raw) × GivesQuotient raw x
  given {z} v =
      let g : gives z ≡ ask_bend raw = ap bend_int (sym v) ∙ a in
      exactly f raw (rw (to_z-of_z {w = w16} {z = z} (record { sfits = omega (arith, asked_mag raw z g) })) (ask_float_lem f raw z g))

  -- its refusal
  pub refused : {n : Refusal} → r ≡ Err n
      → (refuses (number_of n) ≡ ask_float f raw) × GivesQuotient raw (refuses (number_of n))
  refused {n} v = exactly f raw (ask_float_out f raw (number_of n) (ap bend_int (sym v) ∙ a))

-- a clamp by the order of floats is the clamp of a float
lt_is : (x y : Float) → partial_lt float_partial_cmp x y ≡ lt x y
lt_is x y =
    by_test (lt x y) (λ less. rw less)
    (λ not. rw not (by_test (eq x y) (λ same. rw same) (λ other. rw other (by_test (lt y x) (λ more. rw more) (λ none. rw none)))))

pub floated : (x : Float) {y : Float} → y ≡ between float_partial_cmp x (fin true 1 (pos 0)) (fin false 1 (pos 0)) → y ≡ clamped_float x
floated x e = e ∙ rw (lt_is (fin true 1 (pos 0)) x, lt_is x (fin false 1 (pos 0)))
