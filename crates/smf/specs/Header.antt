-- Header fields. SMF 1.0, the header chunk: format and division, two bytes each, the high byte first.
-- Document 01, "Bytes of an event" and "Refusal numbers": what is refused, and by which number.
use Rattle.std.specs.Prelude.{Bool, ◌&&◌, List, [], ◌∷◌, ℕ, ◌+◌, ◌-◌, ◌*◌, ◌/◌, ◌%◌, ltb, leb}
use Rattle.smf.specs.Answer.{pick, Answer, gives, refuses, and_then}
use Rattle.smf.specs.Smpte.{is_rate, to_rate}

-- document 01: a field is the first two bytes given, more are ignored; 17 under two bytes
unfoldable pub read_field : {A : Type 0} → (ℕ → ℕ → Answer A) → List ℕ → Answer A
read_field of [] = refuses 17
read_field of (high ∷ []) = refuses 17
read_field of (high ∷ low ∷ more) = of high low

-- SMF: the number of two bytes, the high one first
abbrev pub word : ℕ → ℕ → ℕ
word high low = high * 256 + low

-- SMF: the two bytes of a number
abbrev pub two_bytes_of : ℕ → List ℕ
two_bytes_of x = (x / 256) ∷ (x % 256) ∷ []

-- SMF: a format is 0, 1 or 2
unfoldable pub is_format : ℕ → Bool
is_format format = leb format 2

-- document 01: 15 above 2
unfoldable pub to_format : ℕ → Answer ℕ
to_format format = pick (is_format format) (gives format) (refuses 15)

-- the format that the bytes begin with
unfoldable pub read_format : List ℕ → Answer ℕ
read_format bytes = read_field (λ high low. to_format (word high low)) bytes

-- SMF: the two bytes of a format
unfoldable pub format_bytes : ℕ → List ℕ
format_bytes format = two_bytes_of format

-- SMF: ticks in a quarter-note; or frames in a second and ticks in a frame
pub data Timing : Type 0 where
  metrical : (ticks : ℕ) → Timing
  timecode : (rate subframe : ℕ) → Timing

-- document 01: ticks 0..32,767; a rate and a byte
unfoldable pub is_timing : Timing → Bool
is_timing (metrical ticks) = ltb ticks 32768
is_timing (timecode rate subframe) = is_rate rate && ltb subframe 256

-- SMF: bit 15 clear, ticks; set, the high byte is minus the rate, and minus a number is 256 less the number in a byte
unfoldable pub timing_from : ℕ → ℕ → Answer Timing
timing_from high low =
    pick (ltb high 128) (gives (metrical (word high low)))
    (and_then (to_rate (256 - high)) (λ rate. gives (timecode rate low)))

-- the timing that the bytes begin with
unfoldable pub read_timing : List ℕ → Answer Timing
read_timing bytes = read_field timing_from bytes

-- SMF: the two bytes of a timing
unfoldable pub timing_bytes : Timing → List ℕ
timing_bytes (metrical ticks) = two_bytes_of ticks
timing_bytes (timecode rate subframe) = (256 - rate) ∷ subframe ∷ []

-- document 01, refusal 18: the bytes that are written, of a timing whose ticks are not above their width
unfoldable pub encode_timing : Timing → Answer (List ℕ)
encode_timing t = pick (is_timing t) (gives (timing_bytes t)) (refuses 18)
