-- A rate as its number, and what `from_int` answers.
use Rattle.base.specs.declared.Refusal.{Refusal}
use Rattle.std.specs.Prelude.{ℕ, Result}
use Rattle.smf.specs.Answer.{Answer}
use Rattle.base.specs.Said.{said}
use Rattle.header.specs.declared.Fps.{Fps}
use Rattle.header.specs.declared.Fps.TheVariants as fps

-- the number of a rate
abbrev pub rate_of : Fps → ℕ
rate_of fps.Fps24 = 24
rate_of fps.Fps25 = 25
rate_of fps.Fps29 = 29
rate_of fps.Fps30 = 30

-- what `Fps::from_int` answers
abbrev pub tried_fps : Result Fps Refusal → Answer ℕ
tried_fps = said rate_of
