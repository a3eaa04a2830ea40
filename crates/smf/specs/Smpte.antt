-- SMPTE times of day. SMF 1.0 gives the rates and the five bytes of a time, FF 54;
-- document 01, "Bytes of an event" and "Refusal numbers", the ranges, the position and the refusals.
use Rattle.std.specs.Prelude.{Bool, ◌&&◌, ◌||◌, List, [], ◌∷◌, ℕ, ◌+◌, ◌*◌, ◌/◌, ◌%◌, ltb, eqb}
use Rattle.smf.specs.Answer.{pick, Answer, gives, refuses, Rules}

-- SMF: a rate is its number of frames in a second, 24, 25, 29 (30 drop-frame) or 30
unfoldable pub is_rate : ℕ → Bool
is_rate rate = eqb rate 24 || eqb rate 25 || eqb rate 29 || eqb rate 30

-- document 01: 16 where there is no such rate
unfoldable pub to_rate : ℕ → Answer ℕ
to_rate rate = pick (is_rate rate) (gives rate) (refuses 16)

-- SMF: the rate of a two-bit code
unfoldable pub rate_of_code : ℕ → ℕ
rate_of_code code = pick (eqb code 0) 24 (pick (eqb code 1) 25 (pick (eqb code 2) 29 30))

-- SMF: the two-bit code of a rate
unfoldable pub code_of_rate : ℕ → ℕ
code_of_rate rate = pick (eqb rate 24) 0 (pick (eqb rate 25) 1 (pick (eqb rate 29) 2 3))

-- a time of day, with its rate
pub record Time : Type 0 where
  pub hour : ℕ
  pub minute : ℕ
  pub second : ℕ
  pub frame : ℕ
  pub subframe : ℕ
  pub rate : ℕ

-- the time of six numbers, the rate last
abbrev pub time : ℕ → ℕ → ℕ → ℕ → ℕ → ℕ → Time
time hour minute second frame subframe rate =
    record { hour = hour; minute = minute; second = second; frame = frame; subframe = subframe; rate = rate }

-- document 01: one of the rates; hour below 24, minute and second below 60, frame below the rate's number, subframe below 100
unfoldable pub is_time : Rules → Time → Bool
is_time rules t =
    is_rate t.rate
    && ltb t.hour 24
    && ltb t.minute 60
    && ltb t.second 60
    && ltb t.frame t.rate
    && ltb t.subframe 100

-- document 01, refusal 13: a time outside its ranges, when one is built
unfoldable pub to_time : Rules → Time → Answer Time
to_time rules t = pick (is_time rules t) (gives t) (refuses 13)

-- SMF and document 01: hour in bits 0..4 of the first byte, rate code in bits 5..6, bit 7 ignored; then the other fields, a byte each
unfoldable pub time_of : Rules → ℕ → ℕ → ℕ → ℕ → ℕ → Answer Time
time_of rules first minute second frame subframe =
    to_time rules (time (first % 32) minute second frame subframe (rate_of_code (first / 32 % 4)))

-- SMF: the five bytes of a time
unfoldable pub time_bytes : Time → List ℕ
time_bytes t =
    (code_of_rate t.rate * 32 + t.hour) ∷ t.minute ∷ t.second ∷ t.frame ∷ t.subframe ∷ []

-- document 01, refusal 18: the bytes that are written, of a time inside its ranges
unfoldable pub encode_time : Rules → Time → Answer (List ℕ)
encode_time rules t = pick (is_time rules t) (gives (time_bytes t)) (refuses 18)

-- document 01: whole seconds since the day began
unfoldable pub seconds : Time → ℕ
seconds t = 3600 * t.hour + 60 * t.minute + t.second

-- document 01: frames since the day began
unfoldable pub frames : Time → ℕ
frames t = seconds t * t.rate + t.frame

-- document 01: subframes since the day began
unfoldable pub subframes : Time → ℕ
subframes t = frames t * 100 + t.subframe

-- document 01: the position of a time, in subframes; 13 outside its ranges
unfoldable pub position : Rules → Time → Answer ℕ
position rules t = pick (is_time rules t) (gives (subframes t)) (refuses 13)
