-- What stands behind the delta of a row, by the row's own numbers alone.
use mathlib.Core.Path.{◌≡◌, refl, sym, ◌∙◌}
use mathlib.Core.Bool.{Bool, true, false, true≢false, ◌&&◌}
use mathlib.Core.List.{List}
use Prim.Native.Nat.{ℕ, ◌+◌, ◌*◌, ◌-◌, ◌/◌, ◌%◌, ◌^◌, ◌≤◌, ◌<◌}
use native.Mathlib.Omega.{arith}
use lib.Dec.{ltb}
use lib.ListN.{length}
use lib.Signed.{mag}
use borrow.Author.Tests.{lt-ltb, le-ltb, ltb-true, le-leb, lt-leb, ne_eqb}
use Rattle.smf.specs.Answer.{pick, Answer, gives, refuses, and_then, Rules}
use Rattle.smf.specs.Place.{Span}
use Rattle.smf.specs.Signed.{signed_byte}
use Rattle.smf.specs.Smpte.{is_rate, to_rate}
use Rattle.smf.specs.Wire as wire
use Rattle.smf.specs.Wire.{raw_event}
use Rattle.smf.specs.Kind as kind
use Rattle.smf.specs.Kind.{is_text}
use Rattle.smf.specs.Event.{message_fits, legal}
use Rattle.smf.proofs.Answer.{by_test, by_lt, both, given}
use Rattle.smf.proofs.Signed.{signed_low, signed_high}
use Rattle.rows.specs.Rows.{width}
use Rattle.rows.specs.RowEvent.{are_bytes, fields_fit, cell, is_row, row_message, row_meta, row_kind, row_span, called_row, event_of_row, row_judged}
use Rattle.write.specs.Raw.{raw_judged, raw_kind, data_of}
use Rattle.write.proofs.Forms.{behind_delta, midi_made, bend_fits}

-- a test that another one implies need not be made before it
pub narrower : {A : Type 0} (s t : Bool) (x y : A) → (t ≡ true → s ≡ true) → pick s (pick t x y) y ≡ pick t x y
narrower true t x y h = refl
narrower false true x y h = absurd (true≢false (sym (h refl)))
narrower false false x y h = refl

pub small : (x k m : ℕ) → k ≤ m → ltb x k ≡ true → ltb x m ≡ true
small x k m h e = lt-ltb x m (omega (arith, ltb-true x k e))

pub and-true : (t : Bool) → (t && true) ≡ t
and-true true = refl
and-true false = refl

pub and_false : (t : Bool) → (t && false) ≡ false
and_false true = refl
and_false false = refl

-- five bytes
pub bytes_below : (a b c d e : ℕ) → are_bytes a b c d e ≡ true → (a < 256) × (b < 256) × (c < 256) × (d < 256) × (e < 256)
unfolding are_bytes
bytes_below a b c d e h =
    let p = both (ltb a 256) (ltb b 256 && (ltb c 256 && (ltb d 256 && ltb e 256))) h in
    let q = both (ltb b 256) (ltb c 256 && (ltb d 256 && ltb e 256)) p.1 in
    let r = both (ltb c 256) (ltb d 256 && ltb e 256) q.1 in
    let s = both (ltb d 256) (ltb e 256) r.1 in
    (ltb-true a 256 p.0, ltb-true b 256 q.0, ltb-true c 256 r.0, ltb-true d 256 s.0, ltb-true e 256 s.1)

-- a channel and two data bytes are bytes
data_bytes_lem : (a b c : ℕ) → (ltb a 16 && (ltb b 128 && ltb c 128)) ≡ true → are_bytes a b c 0 0 ≡ true
unfolding are_bytes
data_bytes_lem a b c h =
    let p = both (ltb a 16) (ltb b 128 && ltb c 128) h in
    let q = both (ltb b 128) (ltb c 128) p.1 in
    rw (small a 16 256 (omega arith) p.0, small b 128 256 (omega arith) q.0, small c 128 256 (omega arith) q.1)

-- a channel message's number is one of seven
by_number : {G : Type 0} (n : ℕ) → 8 ≤ n → n < 15 → (n ≡ 8 → G) → (n ≡ 9 → G) → (n ≡ 10 → G) → (n ≡ 11 → G) → (n ≡ 12 → G) → (n ≡ 13 → G) → (n ≡ 14 → G) → G
by_number n low high a b c d e f g =
    by_lt n 9 (λ p. a (omega arith))
    (λ p. by_lt n 10 (λ q. b (omega arith))
    (λ q. by_lt n 11 (λ s. c (omega arith))
    (λ s. by_lt n 12 (λ t. d (omega arith))
    (λ t. by_lt n 13 (λ u. e (omega arith)) (λ u. by_lt n 14 (λ v. f (omega arith)) (λ v. g (omega arith)))))))

-- below it no number is a kind's
pub no_kind : (n a b c d e f : ℕ) → n < 8 → fields_fit n a b c d e f ≡ false
unfolding fields_fit is_text
no_kind n a b c d e f h =
    by_lt n 1 (λ p. let z : n ≡ 0 = omega arith in rw z)
    (λ p. by_lt n 2 (λ q. let z : n ≡ 1 = omega arith in rw z)
    (λ q. by_lt n 3 (λ s. let z : n ≡ 2 = omega arith in rw z)
    (λ s. by_lt n 4 (λ t. let z : n ≡ 3 = omega arith in rw z)
    (λ t. by_lt n 5 (λ u. let z : n ≡ 4 = omega arith in rw z)
    (λ u. by_lt n 6 (λ v. let z : n ≡ 5 = omega arith in rw z)
    (λ v. by_lt n 7 (λ w. let z : n ≡ 6 = omega arith in rw z) (λ w. let z : n ≡ 7 = omega arith in rw z)))))))

module _ (rules : Rules) (bytes : List ℕ) (a b c d e f : ℕ) where
  abbrev Row : ℕ → Answer wire.Raw
  Row n = pick (fields_fit n a b c d e f) (raw_kind rules bytes (kind.midi a (row_message n b c))) (refuses 18)

  abbrev Data : ℕ → Answer wire.Raw
  Data n =
      pick (ltb a 16 && (ltb (data_of n b c).a 128 && ltb (data_of n b c).b 128))
      (gives (pick (data_of n b c).pair (wire.two (n * 16 + a) (data_of n b c).a (data_of n b c).b) (wire.one (n * 16 + a) (data_of n b c).a)))
      (refuses 18)

  two : (m : kind.Message) (x : wire.Raw) → raw_kind rules bytes (kind.midi a m) ≡ pick (ltb a 16 && (ltb b 128 && ltb c 128)) (gives x) (refuses 18)
      → pick (ltb a 16 && (ltb b 128 && ltb c 128)) (gives x) (refuses 18) ≡ pick (are_bytes a b c 0 0) (raw_kind rules bytes (kind.midi a m)) (refuses 18)
  two m x h = rw h (sym (narrower (are_bytes a b c 0 0) (ltb a 16 && (ltb b 128 && ltb c 128)) (gives x) (refuses 18) (data_bytes_lem a b c)))

  one : (m : kind.Message) (x : wire.Raw) → raw_kind rules bytes (kind.midi a m) ≡ pick (ltb a 16 && ltb b 128) (gives x) (refuses 18)
      → pick (ltb a 16 && (ltb b 128 && true)) (gives x) (refuses 18) ≡ pick (are_bytes a b 0 0 0) (raw_kind rules bytes (kind.midi a m)) (refuses 18)
  one m x h =
      rw (h, and-true (ltb b 128))
      (sym (narrower (are_bytes a b 0 0 0) (ltb a 16 && ltb b 128) (gives x) (refuses 18) (λ t. data_bytes_lem a b 0 (rw (and-true (ltb b 128)) t))))

  bend_bytes : (ltb a 16 && ltb b 16384) ≡ true → (ltb b 65536 && ltb a 256) ≡ true
  bend_bytes h =
      let p = both (ltb a 16) (ltb b 16384) h in
      rw (small b 16384 65536 (omega arith) p.1, small a 16 256 (omega arith) p.0)

  -- a channel message's row, by its data bytes
  pub message_row : (n : ℕ) → 8 ≤ n → n < 15 → Data n ≡ Row n
  unfolding data_of fields_fit row_message message_fits kind.raw_message
  message_row n low high =
      by_number n low high
      (λ h. rw h (two (kind.note_off b c) (wire.two (0x80 + a) b c) (midi_made rules bytes a (kind.note_off b c))))
      (λ h. rw h (two (kind.note_on b c) (wire.two (0x90 + a) b c) (midi_made rules bytes a (kind.note_on b c))))
      (λ h. rw h (two (kind.aftertouch b c) (wire.two (0xA0 + a) b c) (midi_made rules bytes a (kind.aftertouch b c))))
      (λ h. rw h (two (kind.controller b c) (wire.two (0xB0 + a) b c) (midi_made rules bytes a (kind.controller b c))))
      (λ h. rw h (one (kind.program_change b) (wire.one (0xC0 + a) b) (midi_made rules bytes a (kind.program_change b))))
      (λ h. rw h (one (kind.channel_aftertouch b) (wire.one (0xD0 + a) b) (midi_made rules bytes a (kind.channel_aftertouch b))))
      (λ h.
      rw (h, bend_fits b, midi_made rules bytes a (kind.pitch_bend b))
      (sym (narrower (ltb b 65536 && ltb a 256) (ltb a 16 && ltb b 16384) (gives (wire.two (0xE0 + a) (b % 128) (b / 128))) (refuses 18) bend_bytes)))

  -- a number that is no other kind's is a text's, or none
  module _ (n : ℕ) (low : 15 ≤ n) (f0 : n ≡ 0xF0 → ⊥) (f7 : n ≡ 0xF7 → ⊥)
      (h0 : n ≡ 0x100 → ⊥) (h1 : n ≡ 0x120 → ⊥) (h2 : n ≡ 0x121 → ⊥) (h3 : n ≡ 0x12F → ⊥) (h4 : n ≡ 0x151 → ⊥) (h5 : n ≡ 0x154 → ⊥) (h6 : n ≡ 0x158 → ⊥) (h7 : n ≡ 0x159 → ⊥) (h8 : n ≡ 0x17F → ⊥) (h9 : n ≡ 0x200 → ⊥) where
    pub text_fits : fields_fit n a b c d e f ≡ is_text (n - 0x100)
    unfolding fields_fit
    text_fits =
        rw
        (ne_eqb n 8 (λ (x : n ≡ 8). omega arith), ne_eqb n 9 (λ (x : n ≡ 9). omega arith), ne_eqb n 10 (λ (x : n ≡ 10). omega arith), ne_eqb n 11 (λ (x : n ≡ 11). omega arith), ne_eqb n 12 (λ (x : n ≡ 12). omega arith), ne_eqb n 13 (λ (x : n ≡ 13). omega arith), ne_eqb n 14 (λ (x : n ≡ 14). omega arith), ne_eqb n 0xF0 f0, ne_eqb n 0xF7 f7, ne_eqb n 0x100 h0, ne_eqb n 0x120 h1, ne_eqb n 0x121 h2, ne_eqb n 0x12F h3, ne_eqb n 0x151 h4, ne_eqb n 0x154 h5, ne_eqb n 0x158 h6, ne_eqb n 0x159 h7, ne_eqb n 0x17F h8, ne_eqb n 0x200 h9)

    pub text_meta : (span : Span) → row_meta n a b c d e f span ≡ kind.text (n - 0x100) span
    unfolding row_meta
    text_meta span =
        rw (ne_eqb n 0x100 h0, ne_eqb n 0x120 h1, ne_eqb n 0x121 h2, ne_eqb n 0x12F h3, ne_eqb n 0x151 h4, ne_eqb n 0x154 h5, ne_eqb n 0x158 h6, ne_eqb n 0x159 h7, ne_eqb n 0x17F h8, ne_eqb n 0x200 h9)

-- a text type, and one that is none
pub text_low : (n : ℕ) → n < 0x101 → is_text (n - 0x100) ≡ false
unfolding is_text
text_low n h = rw (lt-leb 1 (n - 0x100) (omega arith))

pub text_high : (n : ℕ) → 0x10A ≤ n → is_text (n - 0x100) ≡ false
unfolding is_text
text_high n h = rw (le-leb 1 (n - 0x100) (omega arith), lt-leb (n - 0x100) 9 (omega arith))

pub text_is : (n : ℕ) → 0x101 ≤ n → n < 0x10A → is_text (n - 0x100) ≡ true
unfolding is_text
text_is n low high = rw (le-leb 1 (n - 0x100) (omega arith), le-leb (n - 0x100) 9 (omega arith))

-- the signed number of a byte is within its width
pub signed_below : (b : ℕ) → b < 256 → mag (signed_byte b) < 128
signed_below b h =
    by_lt b 128 (λ low. rw (signed_low b low) low) (λ high. rw (signed_high b high h) (omega arith))

-- a rate, by what `from_int` answers
pub rate_wide : (rate : ℕ) → 256 ≤ rate → is_rate rate ≡ false
unfolding is_rate
rate_wide rate h =
    rw (ne_eqb rate 24 (λ (x : rate ≡ 24). omega arith), ne_eqb rate 25 (λ (x : rate ≡ 25). omega arith), ne_eqb rate 29 (λ (x : rate ≡ 29). omega arith), ne_eqb rate 30 (λ (x : rate ≡ 30). omega arith))

pub rate_refused : (rate n : ℕ) → refuses n ≡ to_rate rate → is_rate rate ≡ false
unfolding to_rate
rate_refused rate n h =
    by_test (is_rate rate) (λ (t : is_rate rate ≡ true). let z : refuses n ≡ gives rate = rw t at h in let w : ◌≡◌ {A = ℕ} 0 1 = cc in absurd (omega arith)) (λ t. t)

pub rate_given : (rate r : ℕ) → gives r ≡ to_rate rate → (is_rate rate ≡ true) × (rate ≡ r)
unfolding to_rate
rate_given rate r h = given (is_rate rate) rate 16 (sym h)

-- what writers make of a row
module _ (rules : Rules) (bytes : List ℕ) (r : List ℕ) where
  row_called : is_row r ≡ true → raw_judged (row_judged rules bytes r) ≡ raw_judged (legal rules bytes (called_row r))
  unfolding row_judged event_of_row
  row_called t = rw t

  row_none : is_row r ≡ false → raw_judged (row_judged rules bytes r) ≡ refuses 18
  unfolding row_judged event_of_row raw_judged
  row_none t = rw t

  pub row_wide : 2 ^ 28 ≤ cell r 0 → refuses 18 ≡ raw_judged (row_judged rules bytes r)
  unfolding called_row
  row_wide h =
      by_test (is_row r)
      (λ t. rw (row_called t, behind_delta rules bytes (cell r 0), le-ltb (cell r 0) (2 ^ 28) h))
      (λ t. sym (row_none t))

  abbrev fields : Bool
  fields = fields_fit (cell r 1) (cell r 2) (cell r 3) (cell r 4) (cell r 5) (cell r 6) (cell r 7)

  abbrev made : Answer wire.Raw
  made =
      pick (fields_fit (cell r 1) (cell r 2) (cell r 3) (cell r 4) (cell r 5) (cell r 6) (cell r 7))
      (raw_kind rules bytes (row_kind (cell r 1) (cell r 2) (cell r 3) (cell r 4) (cell r 5) (cell r 6) (cell r 7) (row_span r))) (refuses 18)

  is_fields : width ≤ length r → cell r 0 < 2 ^ 32 → is_row r ≡ fields
  unfolding is_row
  is_fields long wide = rw (le-leb width (length r) long, lt-ltb (cell r 0) (2 ^ 32) wide)

  pub row_narrow : width ≤ length r → cell r 0 < 2 ^ 28
      → raw_judged (row_judged rules bytes r) ≡ pick (ltb (cell r 0) (2 ^ 28)) (and_then made (λ raw. gives (raw_event (cell r 0) raw))) (refuses 18)
  unfolding called_row
  row_narrow long h =
      let wide : cell r 0 < 2 ^ 32 = omega (arith, h) in
      let all = is_fields long wide in
      by_test fields
      (λ t. rw (row_called (all ∙ t), t) (behind_delta rules bytes (cell r 0) (row_kind (cell r 1) (cell r 2) (cell r 3) (cell r 4) (cell r 5) (cell r 6) (cell r 7) (row_span r))))
      (λ t. rw (row_none (all ∙ t), t, lt-ltb (cell r 0) (2 ^ 28) h))
