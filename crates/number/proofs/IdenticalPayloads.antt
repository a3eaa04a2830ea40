-- No two answers of a payload's reader say the same, so that its promise permits one answer alone.
use Rattle.std.specs.Prelude.{Result}
use mathlib.Core.Path.{◌≡◌, refl}
use Rattle.base.specs.declared.Refusal.{Refusal}
use Rattle.base.proofs.Said.{said_injective}
use Rattle.number.specs.declared.payload.Payload.{Payload}
use Rattle.number.specs.Payload.{payload_of, slice_read}

pub slice_read_injective : {x y : Result Payload Refusal} → slice_read x ≡ slice_read y → x ≡ y
slice_read_injective =
    said_injective payload_of
    (λ x. record { range = record { start = x.span.start; length = x.span.length }; padding = x.padding })
    (λ x. refl)
