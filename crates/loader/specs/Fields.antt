-- Header fields as an entry's caller gives them and is left with them: plain numbers.
use Rattle.std.specs.Prelude.{List, ℕ, eqb}
use Rattle.smf.specs.Answer.{pick, Answer, gives, and_then}
use Rattle.smf.specs.Header.{Timing, metrical, timecode, to_format, format_bytes}
use Rattle.smf.specs.Smpte.{to_rate}

-- the two bytes of a format; 15 above 2
abbrev pub encode_format : ℕ → Answer (List ℕ)
encode_format format = and_then (to_format format) (λ (f : ℕ). gives (format_bytes f))

-- a timing of three numbers: at rate 0, ticks in a beat; at any other, that rate and ticks in a frame; 16 where there is no such rate
abbrev pub timing_given : ℕ → ℕ → ℕ → Answer Timing
timing_given ticks rate subframe =
    pick (eqb rate 0) (gives (metrical ticks)) (and_then (to_rate rate) (λ (r : ℕ). gives (timecode r subframe)))

-- the ticks in a beat of a timing; 0 where it counts frames
abbrev pub ticks_of : Timing → ℕ
ticks_of (metrical ticks) = ticks
ticks_of (timecode rate subframe) = 0

-- the frames in a second of a timing; 0 where it counts beats
abbrev pub timing_rate : Timing → ℕ
timing_rate (metrical ticks) = 0
timing_rate (timecode rate subframe) = rate

-- the ticks in a frame of a timing; 0 where it counts beats
abbrev pub subframe_of : Timing → ℕ
subframe_of (metrical ticks) = 0
subframe_of (timecode rate subframe) = subframe
