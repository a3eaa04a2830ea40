-- Laws of SMPTE times: rates and their codes, the five bytes, and the position.
use mathlib.Core.Path.{◌≡◌, refl, sym, ap, subst, ◌∙◌}
use mathlib.Core.Bool.{Bool, true, false}
use mathlib.Core.Logic.{◌↔◌}
use mathlib.Core.List.{List, [], ◌∷◌}
use Prim.Native.Nat.{ℕ, ◌+◌, ◌*◌, ◌/◌, ◌%◌, ◌<◌, ◌≤◌}
use native.Mathlib.Nat.{mul-le-mul_right, mod-eq_of_lt}
use native.Mathlib.Omega.{arith}
use lib.Dec.{ltb, eqb}
use lib.ListN.{length, get_or}
use borrow.Author.Tests.{ltb-true, ltb-false, lt-ltb, le-ltb, eqb-true, eqb-false, eq-eqb, ne_eqb}
use Rattle.smf.specs.Answer.{pick, Answer, gives, Rules}
use Rattle.smf.specs.Smpte.{is_rate, rate_of_code, code_of_rate, Time, time, is_time, to_time, time_of, time_bytes, seconds, frames, subframes, position}
use Rattle.smf.proofs.Answer.{by_test, by_lt, pick_test, both, given}

-- what holds of the four rates holds of every rate
pub by_rate {ℓ} : (P : ℕ → Type ℓ) → P 24 → P 25 → P 29 → P 30 → (rate : ℕ) → is_rate rate ≡ true → P rate
unfolding is_rate
by_rate P p24 p25 p29 p30 rate is =
    by_test (eqb rate 24) (λ e. subst P (sym (eqb-true rate 24 e)) p24)
    (λ n24. by_test (eqb rate 25) (λ e. subst P (sym (eqb-true rate 25 e)) p25)
    (λ n25. by_test (eqb rate 29) (λ e. subst P (sym (eqb-true rate 29 e)) p29)
    (λ n29. subst P (sym (eqb-true rate 30 (rw (n24, n25, n29) at is))) p30)))

-- a rate's number is small
pub rate_small : (rate : ℕ) → is_rate rate ≡ true → rate ≤ 30
rate_small = by_rate (λ (rate : ℕ). rate ≤ 30) (omega arith) (omega arith) (omega arith) (omega arith)

-- every code has a rate
pub code_rated : (code : ℕ) → is_rate (rate_of_code code) ≡ true
unfolding is_rate rate_of_code
code_rated code =
    pick_test (λ (rate : ℕ). is_rate rate ≡ true) (eqb code 0) (λ e. refl)
    (λ e. pick_test (λ (rate : ℕ). is_rate rate ≡ true) (eqb code 1) (λ e. refl)
    (λ e. pick_test (λ (rate : ℕ). is_rate rate ≡ true) (eqb code 2) (λ e. refl) (λ e. refl)))

-- the code of a rate is of two bits, and gives the rate back
pub record Coded (rate : ℕ) : Type 0 where
  pub small : code_of_rate rate < 4
  pub back : rate_of_code (code_of_rate rate) ≡ rate

pub rate_coded : (rate : ℕ) → is_rate rate ≡ true → Coded rate
unfolding rate_of_code code_of_rate
rate_coded =
    by_rate Coded (record { small = omega arith; back = refl }) (record { small = omega arith; back = refl })
    (record { small = omega arith; back = refl })
    (record { small = omega arith; back = refl })

-- the code of a code's rate is the code
pub code_back : (code : ℕ) → code < 4 → code_of_rate (rate_of_code code) ≡ code
unfolding rate_of_code code_of_rate
code_back code h =
    by_test (eqb code 0) (λ e. rw e (sym (eqb-true code 0 e)))
    (λ n0. by_test (eqb code 1) (λ e. rw (n0, e) (sym (eqb-true code 1 e)))
    (λ n1. by_test (eqb code 2) (λ e. rw (n0, n1, e) (sym (eqb-true code 2 e)))
    (λ n2. rw (n0, n1, n2) (omega (arith, eqb-false code 0 n0, eqb-false code 1 n1, eqb-false code 2 n2)))))

-- the ranges of a time, one by one
pub record InRange (rules : Rules) (t : Time) : Type 0 where
  pub rated : is_rate t.rate ≡ true
  pub hour-below : t.hour < 24
  pub minute-below : t.minute < 60
  pub second_below : t.second < 60
  pub frame_below : t.frame < t.rate
  pub subframe-below : t.subframe < 100

-- a legal time is in its ranges, and a time in its ranges is legal
pub in_range : (rules : Rules) (t : Time) → is_time rules t ≡ true → InRange rules t
unfolding is_time
in_range rules t e0 =
    let e1 = both _ _ e0 in
    let e2 = both _ _ e1.0 in
    let e3 = both _ _ e2.0 in
    let e4 = both _ _ e3.0 in
    let e5 = both _ _ e4.0 in
    record {
      rated = e5.0;
      hour-below = ltb-true _ _ e5.1;
      minute-below = ltb-true _ _ e4.1;
      second_below = ltb-true _ _ e3.1;
      frame_below = ltb-true _ _ e2.1;
      subframe-below = ltb-true _ _ e1.1;
    }

pub is_time_lem : (rules : Rules) (t : Time) → InRange rules t → is_time rules t ≡ true
unfolding is_time
is_time_lem rules t r =
    rw (
      r.rated,
      lt-ltb _ _ r.hour-below,
      lt-ltb _ _ r.minute-below,
      lt-ltb _ _ r.second_below,
      lt-ltb _ _ r.frame_below,
      lt-ltb _ _ r.subframe-below,
    )

pub out_of_range : (rules : Rules) (t : Time) → (InRange rules t → ⊥) → is_time rules t ≡ false
out_of_range rules t not = by_test (is_time rules t) (λ is. absurd (not (in_range rules t is))) (λ is. is)

pub time_length : (t : Time) → length (time_bytes t) ≡ 5
unfolding time_bytes
time_length t = refl

-- the time that five bytes of a list say
abbrev pub time_in : Rules → List ℕ → Answer Time
time_in rules bytes = time_of rules (get_or bytes 0 0) (get_or bytes 1 0) (get_or bytes 2 0) (get_or bytes 3 0) (get_or bytes 4 0)

-- what is written of a legal time is read back
pub time_reads_back : (rules : Rules) (t : Time) → is_time rules t ≡ true → time_in rules (time_bytes t) ≡ gives t
unfolding time_of to_time time_bytes
time_reads_back rules t is =
    let r = in_range rules t is in
    let c = rate_coded t.rate r.rated in
    let hour : (code_of_rate t.rate * 32 + t.hour) % 32 ≡ t.hour = omega (arith, r.hour-below) in
    let code : (code_of_rate t.rate * 32 + t.hour) / 32 ≡ code_of_rate t.rate = omega (arith, r.hour-below) in
    rw (hour, code, mod-eq_of_lt c.small, c.back, is)

-- what is read is legal, and its bytes are those that were read, but for bit 7 of the first
pub record TimeRead (rules : Rules) (first minute second frame subframe : ℕ) (t : Time) : Type 0 where
  pub legal : is_time rules t ≡ true
  pub bytes : time_bytes t ≡ (first % 128) ∷ minute ∷ second ∷ frame ∷ subframe ∷ []

pub time_read :
    (rules : Rules) (first minute second frame subframe : ℕ) {t : Time} →
    time_of rules first minute second frame subframe ≡ gives t →
    TimeRead rules first minute second frame subframe t
unfolding time_of to_time time_bytes
time_read rules first minute second frame subframe {t} e =
    let s = time (first % 32) minute second frame subframe (rate_of_code (first / 32 % 4)) in
    let g = given (is_time rules s) s 13 e in
    let head : code_of_rate (rate_of_code (first / 32 % 4)) * 32 + first % 32 ≡ first % 128 =
    rw (code_back (first / 32 % 4) (omega arith)) (omega arith) in
    subst (TimeRead rules first minute second frame subframe) g.1
    (record { legal = g.0; bytes = rw head })

-- a higher number, whatever stands behind it
higher : (n : ℕ) (a b x y : ℕ) → a < b → x < n → a * n + x < b * n + y
higher n a b x y ab xn = omega (arith, mul-le-mul_right n ab)

-- how large a legal time's counts are
pub seconds_below : {rules : Rules} (t : Time) → InRange rules t → seconds t < 86400
unfolding seconds
seconds_below t r = omega (arith, r)

pub frames_below : {rules : Rules} (t : Time) → InRange rules t → frames t < 2592000
unfolding frames
frames_below t r =
    let small = rate_small t.rate r.rated in
    omega (arith, higher t.rate (seconds t) 86400 t.frame 0 (seconds_below t r) r.frame_below)

-- a legal time in an earlier second or frame has a lower position than any time of its rate in a later one
module _ {rules : Rules} (s t : Time) (is : InRange rules s) (one : s.rate ≡ t.rate) where
  by_frames : frames s < frames t → subframes s < subframes t
  unfolding subframes
  by_frames h = omega (arith, is.subframe-below)

  by_seconds : seconds s < seconds t → subframes s < subframes t
  unfolding frames
  by_seconds h =
      by_frames
      (subst (λ (n : ℕ). frames s < seconds t * n + t.frame) one
      (higher s.rate (seconds s) (seconds t) s.frame t.frame h is.frame_below))

-- a number decides the order of two positions where it differs, and leaves it to the rest where it does not
decides :
    (a b : ℕ) {p q : ℕ} {rest : Bool} →
    (a < b → p < q) →
    (b < a → q < p) →
    (a ≡ b → ltb p q ≡ rest) →
    ltb p q ≡ pick (eqb a b) rest (ltb a b)
decides a b {p} {q} less more same =
    by_test (eqb a b) (λ e. rw e (same (eqb-true a b e)))
    (λ n. by_test (ltb a b) (λ e. rw (n, e) (lt-ltb p q (less (ltb-true a b e))))
    (λ e. rw (n, e) (le-ltb p q (omega (arith, more (omega (arith, ltb-false a b e, eqb-false a b n)))))))

-- the order of times, field by field, hour first: the first field in which they differ decides
unfoldable pub earlier : Time → Time → Bool
earlier s t =
    pick (eqb s.hour t.hour)
    (pick (eqb s.minute t.minute)
    (pick (eqb s.second t.second)
    (pick (eqb s.frame t.frame) (ltb s.subframe t.subframe) (ltb s.frame t.frame))
    (ltb s.second t.second))
    (ltb s.minute t.minute))
    (ltb s.hour t.hour)

-- positions of legal times of one rate are ordered as the times are
pub positions_ordered :
    (rules : Rules) (s t : Time) →
    is_time rules s ≡ true →
    is_time rules t ≡ true →
    s.rate ≡ t.rate →
    ltb (subframes s) (subframes t) ≡ earlier s t
unfolding earlier seconds frames subframes
positions_ordered rules s t es et one =
    let is = in_range rules s es in
    let it = in_range rules t et in
    let sooner = by_seconds s t is one in
    let later = by_seconds t s it (sym one) in
    decides s.hour t.hour (λ h. sooner (omega arith)) (λ h. later (omega arith))
    (λ hour. decides s.minute t.minute (λ h. sooner (omega arith)) (λ h. later (omega arith))
    (λ minute. decides s.second t.second (λ h. sooner (omega arith)) (λ h. later (omega arith))
    (λ second.
    let same : seconds s * s.rate ≡ seconds t * t.rate = cc in
    decides s.frame t.frame (λ h. by_frames s t is one (omega arith)) (λ h. by_frames t s it (sym one) (omega arith))
    (λ frame.
    by_lt s.subframe t.subframe (λ h. lt-ltb (subframes s) (subframes t) (omega arith) ∙ sym (lt-ltb _ _ h))
    (λ h. le-ltb (subframes s) (subframes t) (omega arith) ∙ sym (le-ltb _ _ h))))))

-- where a field and what follows it decide neither way, the field is the same and what follows decides neither way
undecided :
    (a b : ℕ) (x y : Bool) →
    pick (eqb a b) x (ltb a b) ≡ false →
    pick (eqb b a) y (ltb b a) ≡ false →
    (a ≡ b) × (x ≡ false) × (y ≡ false)
undecided a b x y p q =
    by_test (eqb a b)
    (λ e. let same = eqb-true a b e in (same, rw e at p, rw (eq-eqb b a (sym same)) at q))
    (λ n. let ba = ltb-false a b (rw n at p) in
    let ab = ltb-false b a (rw (ne_eqb b a (λ (e : b ≡ a). eqb-false a b n (sym e))) at q) in
    absurd (omega (arith, eqb-false a b n)))

-- of two times of one rate one is the earlier, or they are the same
pub neither_earlier : (s t : Time) → s.rate ≡ t.rate → earlier s t ≡ false → earlier t s ≡ false → s ≡ t
unfolding earlier
neither_earlier s t one p q =
    let hours = undecided s.hour t.hour _ _ p q in
    let minutes = undecided s.minute t.minute _ _ hours.1 hours.2 in
    let seconds = undecided s.second t.second _ _ minutes.1 minutes.2 in
    let frames = undecided s.frame t.frame _ _ seconds.1 seconds.2 in
    let subframe : s.subframe ≡ t.subframe =
    omega (arith, ltb-false s.subframe t.subframe frames.1, ltb-false t.subframe s.subframe frames.2) in
    rw (hours.0, minutes.0, seconds.0, frames.0, subframe, one)

-- a legal time has a position
pub position_legal : (rules : Rules) (t : Time) → is_time rules t ≡ true → position rules t ≡ gives (subframes t)
unfolding position
position_legal rules t is = rw is

-- legal times of one rate have the same position exactly when they are the same
pub same_position :
    (rules : Rules) (s t : Time) →
    is_time rules s ≡ true →
    is_time rules t ≡ true →
    s.rate ≡ t.rate →
    (position rules s ≡ position rules t) ↔ (s ≡ t)
same_position rules s t es et one = (
  λ e.
      let ps = position_legal rules s es in
      let pt = position_legal rules t et in
      let same : subframes s ≡ subframes t = cc in
      neither_earlier s t one (sym (positions_ordered rules s t es et one) ∙ le-ltb (subframes s) (subframes t) (omega arith))
      (sym (positions_ordered rules t s et es (sym one)) ∙ le-ltb (subframes t) (subframes s) (omega arith)),
  λ e. ap (position rules) e,
)
