-- No two answers of one function say the same, so that its promise permits one answer alone.
use Rattle.std.specs.Prelude.{Result}
use mathlib.Core.Path.{◌≡◌, refl}
use Prim.Native.Nat.{ℕ}
use Rattle.base.specs.declared.Refusal.{Refusal}
use Rattle.base.proofs.Said.{said_injective}
use Rattle.number.specs.declared.u28.{u28}
use Rattle.number.specs.declared.varlen.NumberAt.{NumberAt}
use Rattle.number.specs.Varlen.{tried_u28, number_read_of, written_to}

pub tried_u28_injective : {x y : Result u28 Refusal} → tried_u28 x ≡ tried_u28 y → x ≡ y
tried_u28_injective = said_injective (λ x. x.0) (λ n. record { 0 = n }) (λ x. refl)

pub number_read_injective : {x y : Result NumberAt Refusal} → number_read_of x ≡ number_read_of y → x ≡ y
number_read_injective =
    said_injective (λ n. record { value = n.value.0; next = n.next; padding = n.padding })
    (λ x. record { value = record { 0 = x.value }; next = x.next; padding = x.padding })
    (λ x. refl)

pub written_to_injective : {x y : Result ℕ Refusal} → written_to x ≡ written_to y → x ≡ y
written_to_injective = said_injective (λ p. p) (λ p. p) (λ p. refl)
