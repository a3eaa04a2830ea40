-- Laws of header fields: what is written of a format or a timing is read back, what is read is written back, and it is legal.
use mathlib.Core.Path.{◌≡◌, refl, sym, ap, subst, ◌∙◌}
use mathlib.Core.Bool.{true}
use mathlib.Core.List.{List, [], ◌∷◌, ◌++◌}
use Prim.Native.Nat.{ℕ, ◌+◌, ◌-◌, ◌*◌, ◌/◌, ◌%◌, ◌<◌, ◌≤◌}
use native.Mathlib.Omega.{arith}
use lib.Dec.{ltb}
use lib.ListN.{length, get_or}
use borrow.Author.Tests.{ltb-true, lt-ltb, le-ltb}
use Rattle.smf.specs.Answer.{Answer, gives, refuses, and_then}
use Rattle.smf.specs.Smpte.{is_rate, to_rate}
use Rattle.smf.specs.Header.{read_field, word, two_bytes_of, is_format, to_format, read_format, format_bytes, Timing, metrical, timecode, is_timing, timing_from, read_timing, timing_bytes, encode_timing}
use Rattle.smf.proofs.Answer.{by_test, by_lt, both, given}
use Rattle.smf.proofs.Smpte.{rate_small}

-- a field by its bytes' places
pub field_short : {A : Type 0} (of : ℕ → ℕ → Answer A) (bytes : List ℕ) → length bytes < 2 → read_field of bytes ≡ refuses 17
unfolding read_field
field_short of [] h = refl
field_short of (high ∷ []) h = refl
field_short of (high ∷ low ∷ more) h = absurd (omega arith)

pub field_whole :
    {A : Type 0} (of : ℕ → ℕ → Answer A) (bytes : List ℕ) →
    2 ≤ length bytes →
    read_field of bytes ≡ of (get_or bytes 0 0) (get_or bytes 1 0)
unfolding read_field
field_whole of [] h = absurd (omega arith)
field_whole of (high ∷ []) h = absurd (omega arith)
field_whole of (high ∷ low ∷ more) h = refl

-- a format by its number
pub format_whole :
    (bytes : List ℕ) {x : ℕ} →
    2 ≤ length bytes →
    x ≡ word (get_or bytes 0 0) (get_or bytes 1 0) →
    read_format bytes ≡ to_format x
unfolding read_format
format_whole bytes h e = field_whole _ bytes h ∙ ap to_format (sym e)

-- a timing by its high byte
pub timing_ticks : (high low : ℕ) → high < 128 → timing_from high low ≡ gives (metrical (word high low))
unfolding timing_from
timing_ticks high low h = rw (lt-ltb high 128 h)

pub timing_rate_lem : (high low : ℕ) → 128 ≤ high → timing_from high low ≡ and_then (to_rate (256 - high)) (λ rate. gives (timecode rate low))
unfolding timing_from
timing_rate_lem high low h = rw (le-ltb high 128 h)

-- the number of a number's two bytes; and two bytes of their number
word_back : (x : ℕ) → word (x / 256) (x % 256) ≡ x
word_back x = omega arith

bytes_back : (high low : ℕ) → low < 256 → two_bytes_of (word high low) ≡ high ∷ low ∷ []
bytes_back high low h =
    let first : (high * 256 + low) / 256 ≡ high = omega arith in
    let second : (high * 256 + low) % 256 ≡ low = omega arith in
    rw (first, second)

-- what is written of a format is read back, whatever follows
pub format_reads_back : (format : ℕ) (more : List ℕ) → is_format format ≡ true → read_format (format_bytes format ++ more) ≡ gives format
unfolding read_field read_format to_format format_bytes
format_reads_back format more is = rw (word_back format, is)

-- what is read as a format is one, and its bytes are those that were read
pub record FormatRead (high low format : ℕ) : Type 0 where
  pub legal : is_format format ≡ true
  pub bytes : format_bytes format ≡ high ∷ low ∷ []

pub format_read :
    (high low : ℕ) (more : List ℕ) {format : ℕ} →
    low < 256 →
    read_format (high ∷ low ∷ more) ≡ gives format →
    FormatRead high low format
unfolding read_field read_format to_format format_bytes
format_read high low more h e =
    let g = given (is_format (word high low)) (word high low) 15 e in
    subst (FormatRead high low) g.1 (record { legal = g.0; bytes = bytes_back high low h })

-- what is written of a timing, and what is refused
pub ticks_written : (ticks : ℕ) → ticks < 32768 → encode_timing (metrical ticks) ≡ gives (two_bytes_of ticks)
unfolding encode_timing is_timing timing_bytes
ticks_written ticks h = rw (lt-ltb ticks 32768 h)

pub ticks_above : (ticks : ℕ) → 32768 ≤ ticks → encode_timing (metrical ticks) ≡ refuses 18
unfolding encode_timing is_timing
ticks_above ticks h = rw (le-ltb ticks 32768 h)

pub timecode_written :
    (rate subframe : ℕ) →
    is_rate rate ≡ true →
    subframe < 256 →
    encode_timing (timecode rate subframe) ≡ gives ((256 - rate) ∷ subframe ∷ [])
unfolding encode_timing is_timing timing_bytes
timecode_written rate subframe is h = rw (is, lt-ltb subframe 256 h)

-- what is written of a legal timing is read back, whatever follows
pub timing_reads_back : (t : Timing) (more : List ℕ) → is_timing t ≡ true → read_timing (timing_bytes t ++ more) ≡ gives t
unfolding read_field read_timing timing_from timing_bytes is_timing to_rate
timing_reads_back (metrical ticks) more is =
    let small : ticks / 256 < 128 = omega (arith, ltb-true ticks 32768 is) in
    rw (lt-ltb (ticks / 256) 128 small, word_back ticks)
timing_reads_back (timecode rate subframe) more is =
    let rated = (both (is_rate rate) (ltb subframe 256) is).0 in
    let small = rate_small rate rated in
    let back : 256 - (256 - rate) ≡ rate = omega arith in
    rw (le-ltb (256 - rate) 128 (omega arith), back, rated)

-- what is read as a timing is legal, and its bytes are those that were read
pub record TimingRead (high low : ℕ) (t : Timing) : Type 0 where
  pub legal : is_timing t ≡ true
  pub bytes : timing_bytes t ≡ high ∷ low ∷ []

module _ (high low : ℕ) (hh : high < 256) (hl : low < 256) where
  metrical_read : high < 128 → TimingRead high low (metrical (word high low))
  unfolding is_timing timing_bytes
  metrical_read h = record { legal = lt-ltb (word high low) 32768 (omega arith); bytes = bytes_back high low hl }

  timecode_read : 128 ≤ high → is_rate (256 - high) ≡ true → TimingRead high low (timecode (256 - high) low)
  unfolding is_timing timing_bytes
  timecode_read h is =
      let back : 256 - (256 - high) ≡ high = omega arith in
      record { legal = rw (is, lt-ltb low 256 hl); bytes = rw back }

  pub timing_read_lem : (more : List ℕ) {t : Timing} → read_timing (high ∷ low ∷ more) ≡ gives t → TimingRead high low t
  unfolding read_field read_timing timing_from to_rate
  timing_read_lem more {t} e =
      by_lt high 128
      (λ h. let told : gives (metrical (word high low)) ≡ gives t = rw (lt-ltb high 128 h) at e in
      subst (TimingRead high low) (cc) (metrical_read h))
      (λ h. let told = rw (le-ltb high 128 h) at e in
      by_test (is_rate (256 - high))
      (λ is. let same : gives (timecode (256 - high) low) ≡ gives t = rw is at told in subst (TimingRead high low) (cc) (timecode_read h is))
      (λ not. let z : ◌≡◌ {A = ℕ} 0 1 = cc in absurd (omega arith)))
