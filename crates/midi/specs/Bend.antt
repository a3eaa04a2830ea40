-- What `as_int`, `as_f32` and `as_f64` of a bend answer, in the terms of the definitions: the value, or the refusal's number.
use Rattle.base.specs.declared.Refusal.{Refusal}
use Rattle.std.specs.Prelude.{true, false, ℤ, pos, Float, Result}
use Rattle.std.specs.Prelude.{Option}
use Rattle.std.specs.declared.cmp.Ordering.{Ordering}
use Rattle.std.specs.Ordering.{partial_lt}
use Rattle.std.specs.Float.{fin}
use Rattle.std.specs.Float.Ieee.{lt}
use Rattle.smf.specs.Answer.{pick, Answer}
use Rattle.base.specs.Said.{said}

-- the signed bend
abbrev pub bend_int : Result ℤ Refusal → Answer ℤ
bend_int = said (λ x. x)

-- the float itself
abbrev pub bend_f32 : Result Float Refusal → Answer Float
bend_f32 = said (λ x. x)

-- the float itself, of 64 bits
abbrev pub bend_f64 : Result Float Refusal → Answer Float
bend_f64 = said (λ x. x)

-- what the private clamp gives, comparison by comparison: the public promises are on the float's exact value
abbrev pub between : {F : Type 0} → (F → F → Option Ordering) → F → F → F → F
between order x low high = pick (partial_lt order low x) (pick (partial_lt order x high) x high) low

-- at floats and -1.0..1.0
abbrev pub clamped_float : Float → Float
clamped_float x =
    pick (lt (fin true 1 (pos 0)) x) (pick (lt x (fin false 1 (pos 0))) x (fin false 1 (pos 0))) (fin true 1 (pos 0))
