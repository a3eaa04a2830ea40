-- No two values and no two answers of this crate say the same.
use Rattle.base.specs.declared.Refusal.{Refusal}
use Rattle.std.specs.Prelude.{Result}
use mathlib.Core.Path.{◌≡◌, refl}
use mathlib.Core.List.{List}
use Prim.Native.Nat.{ℕ}
use lib.Ieee.{Float}
use Rattle.smf.specs.Smpte.{Time}
use Rattle.smf.proofs.Answer.{injective}
use Rattle.base.proofs.Said.{said_injective}
use Rattle.header.proofs.Identical.{back_fps, same_fps}
use Rattle.header.specs.Smpte.{smpte_time_of, tried_smpte_time, encoded_smpte_time, asked_second, asked_position}
use Rattle.header.specs.declared.SmpteTime.{SmpteTime}

pub back_smpte_time : Time → SmpteTime
back_smpte_time t =
    record { hour = t.hour; minute = t.minute; second = t.second; frame = t.frame; subframe = t.subframe; fps = back_fps t.rate }

pub same_smpte_time : (t : SmpteTime) → back_smpte_time (smpte_time_of t) ≡ t
unfolding back_smpte_time
same_smpte_time t = rw (same_fps t.fps)

pub smpte_time_of_injective : {x y : SmpteTime} → smpte_time_of x ≡ smpte_time_of y → x ≡ y
smpte_time_of_injective = injective smpte_time_of back_smpte_time same_smpte_time

pub tried_smpte_time_injective : {x y : Result SmpteTime Refusal} → tried_smpte_time x ≡ tried_smpte_time y → x ≡ y
tried_smpte_time_injective = said_injective smpte_time_of back_smpte_time same_smpte_time

pub encoded_smpte_time_injective : {x y : Result (List ℕ) Refusal} → encoded_smpte_time x ≡ encoded_smpte_time y → x ≡ y
encoded_smpte_time_injective = said_injective (λ b. b) (λ b. b) (λ b. refl)

pub asked_second_injective : {x y : Result Float Refusal} → asked_second x ≡ asked_second y → x ≡ y
asked_second_injective = said_injective (λ x. x) (λ x. x) (λ x. refl)

pub asked_position_injective : {x y : Result ℕ Refusal} → asked_position x ≡ asked_position y → x ≡ y
asked_position_injective = said_injective (λ x. x) (λ x. x) (λ x. refl)
