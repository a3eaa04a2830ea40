-- A timing as the definitions take it, and what `read` and `encode` answer.
use Rattle.base.specs.declared.Refusal.{Refusal}
use Rattle.std.specs.Prelude.{List, ℕ, Result}
use Rattle.smf.specs.Answer.{Answer}
use Rattle.smf.specs.Header as smf
use Rattle.base.specs.Said.{said}
use Rattle.header.specs.Fps.{rate_of}
use Rattle.header.specs.declared.timing.Timing.{Timing}
use Rattle.header.specs.declared.timing.Timing.TheVariants as timing

-- a timing, its rate by its number
abbrev pub timing_of : Timing → smf.Timing
timing_of (timing.Metrical ticks) = smf.metrical ticks.0
timing_of (timing.Timecode fps subframe) = smf.timecode (rate_of fps) subframe

-- what `Timing::read` answers
abbrev pub timing_read : Result Timing Refusal → Answer smf.Timing
timing_read = said timing_of

-- what `Timing::encode` answers: the two bytes
abbrev pub timing_encoded : Result (List ℕ) Refusal → Answer (List ℕ)
timing_encoded = said (λ bytes. bytes)
