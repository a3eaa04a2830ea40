-- An SMPTE time as the definitions take it, and what its functions answer.
use Rattle.base.specs.declared.Refusal.{Refusal}
use Rattle.std.specs.Prelude.{List, ℕ, Float, Result}
use Rattle.smf.specs.Answer.{Answer}
use Rattle.smf.specs.Smpte.{Time, time}
use Rattle.base.specs.Said.{said}
use Rattle.header.specs.Fps.{rate_of}
use Rattle.header.specs.declared.SmpteTime.{SmpteTime}

-- a time, its rate by its number
abbrev pub smpte_time_of : SmpteTime → Time
smpte_time_of t = time t.hour t.minute t.second t.frame t.subframe (rate_of t.fps)

-- what `SmpteTime::new` and `SmpteTime::read` answer
abbrev pub tried_smpte_time : Result SmpteTime Refusal → Answer Time
tried_smpte_time = said smpte_time_of

-- what `SmpteTime::encode` answers: the five bytes
abbrev pub encoded_smpte_time : Result (List ℕ) Refusal → Answer (List ℕ)
encoded_smpte_time = said (λ bytes. bytes)

-- what `SmpteTime::second_f32` answers
abbrev pub asked_second : Result Float Refusal → Answer Float
asked_second = said (λ x. x)

-- what `SmpteTime::position` answers
abbrev pub asked_position : Result ℕ Refusal → Answer ℕ
asked_position = said (λ x. x)
