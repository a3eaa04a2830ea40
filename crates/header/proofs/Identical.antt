-- No two values and no two answers of this crate say the same.
use Rattle.base.specs.declared.Refusal.{Refusal}
use Rattle.std.specs.Prelude.{Result}
use mathlib.Core.Path.{◌≡◌, refl, ap}
use mathlib.Core.List.{List}
use Prim.Native.Nat.{ℕ}
use lib.Dec.{eqb}
use Rattle.smf.specs.Answer.{pick}
use Rattle.smf.specs.Header as smf
use Rattle.smf.proofs.Answer.{injective}
use Rattle.base.proofs.Said.{said_injective}
use Rattle.header.specs.Fps.{rate_of, tried_fps}
use Rattle.header.specs.Format.{format_of, format_read_of}
use Rattle.header.specs.Timing.{timing_of, timing_read, timing_encoded}
use Rattle.header.specs.declared.Fps.{Fps}
use Rattle.header.specs.declared.Fps.TheVariants as fps
use Rattle.header.specs.declared.format.Format.{Format}
use Rattle.header.specs.declared.format.Format.TheVariants as format
use Rattle.header.specs.declared.timing.Timing.{Timing}
use Rattle.header.specs.declared.timing.Timing.TheVariants as timing

pub back_fps : ℕ → Fps
back_fps rate = pick (eqb rate 24) fps.Fps24 (pick (eqb rate 25) fps.Fps25 (pick (eqb rate 29) fps.Fps29 fps.Fps30))

pub same_fps : (f : Fps) → back_fps (rate_of f) ≡ f
unfolding back_fps
same_fps fps.Fps24 = refl
same_fps fps.Fps25 = refl
same_fps fps.Fps29 = refl
same_fps fps.Fps30 = refl

pub rate_of_injective : {x y : Fps} → rate_of x ≡ rate_of y → x ≡ y
rate_of_injective = injective rate_of back_fps same_fps

pub tried_fps_injective : {x y : Result Fps Refusal} → tried_fps x ≡ tried_fps y → x ≡ y
tried_fps_injective = said_injective rate_of back_fps same_fps

back_format : ℕ → Format
back_format n = pick (eqb n 0) format.SingleTrack (pick (eqb n 1) format.Parallel format.Sequential)

same_format : (f : Format) → back_format (format_of f) ≡ f
unfolding back_format
same_format format.SingleTrack = refl
same_format format.Parallel = refl
same_format format.Sequential = refl

pub format_of_injective : {x y : Format} → format_of x ≡ format_of y → x ≡ y
format_of_injective = injective format_of back_format same_format

pub format_read_injective : {x y : Result Format Refusal} → format_read_of x ≡ format_read_of y → x ≡ y
format_read_injective = said_injective format_of back_format same_format

back_timing : smf.Timing → Timing
back_timing (smf.metrical ticks) = timing.Metrical (record { 0 = ticks })
back_timing (smf.timecode rate subframe) = timing.Timecode (back_fps rate) subframe

same_timing : (t : Timing) → back_timing (timing_of t) ≡ t
unfolding back_timing
same_timing (timing.Metrical ticks) = refl
same_timing (timing.Timecode f subframe) = ap (λ g. timing.Timecode g subframe) (same_fps f)

pub timing_of_injective : {x y : Timing} → timing_of x ≡ timing_of y → x ≡ y
timing_of_injective = injective timing_of back_timing same_timing

pub timing_read_injective : {x y : Result Timing Refusal} → timing_read x ≡ timing_read y → x ≡ y
timing_read_injective = said_injective timing_of back_timing same_timing

pub timing_encoded_injective : {x y : Result (List ℕ) Refusal} → timing_encoded x ≡ timing_encoded y → x ≡ y
timing_encoded_injective = said_injective (λ b. b) (λ b. b) (λ b. refl)
