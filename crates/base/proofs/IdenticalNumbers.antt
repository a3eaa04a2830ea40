-- No two answers of one function say the same, so that its promise permits one answer alone.
use Rattle.std.specs.Prelude.{Result}
use mathlib.Core.Path.{◌≡◌, refl}
use Rattle.base.specs.Restricted.{tried_u2, tried_u4, tried_u7, tried_u14, tried_u15, tried_u24}
use Rattle.base.specs.declared.Refusal.{Refusal}
use Rattle.base.specs.declared.u2.{u2}
use Rattle.base.specs.declared.u4.{u4}
use Rattle.base.specs.declared.u7.{u7}
use Rattle.base.specs.declared.u14.{u14}
use Rattle.base.specs.declared.u15.{u15}
use Rattle.base.specs.declared.u24.{u24}
use Rattle.base.proofs.Said.{said_injective}

pub tried_u2_injective : {x y : Result u2 Refusal} → tried_u2 x ≡ tried_u2 y → x ≡ y
tried_u2_injective = said_injective (λ x. x.0) (λ n. record { 0 = n }) (λ x. refl)

pub tried_u4_injective : {x y : Result u4 Refusal} → tried_u4 x ≡ tried_u4 y → x ≡ y
tried_u4_injective = said_injective (λ x. x.0) (λ n. record { 0 = n }) (λ x. refl)

pub tried_u7_injective : {x y : Result u7 Refusal} → tried_u7 x ≡ tried_u7 y → x ≡ y
tried_u7_injective = said_injective (λ x. x.0) (λ n. record { 0 = n }) (λ x. refl)

pub tried_u14_injective : {x y : Result u14 Refusal} → tried_u14 x ≡ tried_u14 y → x ≡ y
tried_u14_injective = said_injective (λ x. x.0) (λ n. record { 0 = n }) (λ x. refl)

pub tried_u15_injective : {x y : Result u15 Refusal} → tried_u15 x ≡ tried_u15 y → x ≡ y
tried_u15_injective = said_injective (λ x. x.0) (λ n. record { 0 = n }) (λ x. refl)

pub tried_u24_injective : {x y : Result u24 Refusal} → tried_u24 x ≡ tried_u24 y → x ≡ y
tried_u24_injective = said_injective (λ x. x.0) (λ n. record { 0 = n }) (λ x. refl)
