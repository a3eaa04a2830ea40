-- SMPTE times as an entry's caller gives them and is left with them: six numbers, the rate last.
use Rattle.std.specs.Prelude.{List, [], ◌∷◌, ℕ}
use Rattle.smf.specs.Answer.{Answer, gives, and_then}
use Rattle.smf.specs.Smpte.{Time, time, to_rate}

-- a time of six numbers, in its ranges or not; 16 where there is no such rate
abbrev pub time_given : ℕ → ℕ → ℕ → ℕ → ℕ → ℕ → Answer Time
time_given hour minute second frame subframe rate =
    and_then (to_rate rate) (λ (r : ℕ). gives (time hour minute second frame subframe r))

-- the six numbers of a time
abbrev pub six_of : Time → List ℕ
six_of t = t.hour ∷ t.minute ∷ t.second ∷ t.frame ∷ t.subframe ∷ t.rate ∷ []
