-- Seconds as floats. Document 01, "Bend values": `second_f32` is bit-equal to the Rust, operation for operation.
use Rattle.std.specs.Prelude.{false, ℕ, eqb, pos, Float}
use Rattle.std.specs.Float.{binary32}
use Rattle.std.specs.Float.Ieee.{add, div, round, of_int}
use Rattle.smf.specs.Answer.{pick, Answer, gives, refuses, Rules}
use Rattle.smf.specs.Smpte.{Time, is_time}

-- a whole number as a float
abbrev pub whole : ℕ → Float
whole n = of_int binary32 (pos n)

-- the float nearest to a fraction
abbrev pub fraction : ℕ → ℕ → Float
fraction over under = round binary32 false over under

-- the Rust: a rate as a float is its number, and 29 is 30 / 1.001
unfoldable pub rate_float : ℕ → Float
rate_float rate = pick (eqb rate 29) (div binary32 (whole 30) (fraction 1001 1000)) (whole rate)

-- the Rust: second + ((frame + subframe / 100) / rate), each step rounded
unfoldable pub second_float : Time → Float
second_float t =
    add binary32 (whole t.second)
    (div binary32 (add binary32 (whole t.frame) (div binary32 (whole t.subframe) (whole 100))) (rate_float t.rate))

-- document 01, refusal 13: the seconds of a time inside its ranges
unfoldable pub seconds_of : Rules → Time → Answer Float
seconds_of rules t = pick (is_time rules t) (gives (second_float t)) (refuses 13)
