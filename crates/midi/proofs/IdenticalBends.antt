-- No two answers to a bend's value asked say the same.
use Rattle.std.specs.Prelude.{Result}
use Rattle.std.proofs.Common.{◌≡◌, ℤ, refl}
use lib.Ieee.{Float}
use Rattle.base.specs.declared.Refusal.{Refusal}
use Rattle.base.proofs.Said.{said_injective}
use Rattle.midi.specs.Bend.{bend_int, bend_f32, bend_f64}

pub bend_int_injective : {x y : Result ℤ Refusal} → bend_int x ≡ bend_int y → x ≡ y
bend_int_injective = said_injective (λ x. x) (λ x. x) (λ x. refl)

pub bend_f32_injective : {x y : Result Float Refusal} → bend_f32 x ≡ bend_f32 y → x ≡ y
bend_f32_injective = said_injective (λ x. x) (λ x. x) (λ x. refl)

pub bend_f64_injective : {x y : Result Float Refusal} → bend_f64 x ≡ bend_f64 y → x ≡ y
bend_f64_injective = said_injective (λ x. x) (λ x. x) (λ x. refl)
