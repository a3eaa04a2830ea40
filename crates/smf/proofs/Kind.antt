-- The laws of written kinds: a legal kind is called itself by its raw event, which is sound.
use mathlib.Core.Path.{◌≡◌, refl, sym, ap, ◌∙◌}
use mathlib.Core.Bool.{Bool, true, false, true≢false, ◌&&◌, not}
use mathlib.Core.List.{List, []}
use mathlib.Core.Logic.{inl, inr}
use Prim.Native.Nat.{ℕ, ◌+◌, ◌-◌, ◌*◌, ◌/◌, ◌%◌, ◌^◌, ◌≤◌, ◌<◌}
use native.Mathlib.Nat.{mod-eq_of_lt}
use native.Mathlib.Omega.{arith}
use lib.Dec.{ltb, leb, eqb}
use lib.IntN.{ℤ, pos, negsuc}
use lib.Signed.{mag}
use lib.ListN.{length}
use borrow.Author.Tests.{lt-ltb, ltb-true, le-leb, leb-true, leb-false, ne_eqb, eqb-true, eqb-false}
use Rattle.smf.specs.Answer.{pick, Answer, gives, and_then, Rules}
use Rattle.smf.specs.Signed.{signed_byte, byte_of_signed}
use Rattle.smf.specs.Smpte.{Time, is_time, time_bytes, code_of_rate}
use Rattle.smf.specs.Wire.{one, two, data_length}
use Rattle.smf.specs.Kind.{Message, note_off, note_on, aftertouch, controller, program_change, channel_aftertouch, pitch_bend}
use Rattle.smf.specs.Kind.{Meta, track_number, no_track_number, text, midi_channel, midi_port, end_of_track, tempo, smpte_offset, time_signature, key_signature, sequencer_specific, unknown}
use Rattle.smf.specs.Kind.{Kind, midi, sys_ex, escape, meta, message_one, message_two, is_text, track_number_of, from, narrow, time_in, called_meta, called, raw_message, raw_meta, raw_of}
use Rattle.smf.specs.Event.{message_fits, meta_fits, kind_fits, load_or, meta_carries, carries, kind_load, is_named, misnamed, kind_misnamed}
use Rattle.smf.proofs.Answer.{pick_test, both}
use Rattle.smf.proofs.Signed.{signed_back}
use Rattle.smf.proofs.Smpte.{in_range, rate_small, rate_coded, time_length, time_reads_back}
use Rattle.smf.proofs.Running.{Channel}
use Rattle.smf.proofs.Wire.{Sound, takes_one}

-- what is legal of a kind
pub record LegalKind (rules : Rules) (k : Kind (List ℕ)) : Type 0 where
  pub fits : kind_fits rules k ≡ true
  pub small : length (kind_load [] k) < 2 ^ 28
  pub own : kind_misnamed rules length k ≡ false

-- Channel messages

-- a status of an upper half and a channel
record Halves (upper channel : ℕ) : Type 0 where
  low : (upper * 16 + channel) % 16 ≡ channel
  high : (upper * 16 + channel) / 16 ≡ upper

halves : (upper channel : ℕ) → channel < 16 → Halves upper channel
halves upper channel h = record { low = omega arith; high = omega arith }

module _ (channel : ℕ) (c : channel < 16) where
  -- with one data byte, and with two
  one_called : (rules : Rules) (upper a : ℕ) → called rules (one (upper * 16 + channel) a) ≡ gives (midi channel (message_one upper a))
  unfolding called
  one_called rules upper a = let h = halves upper channel c in rw (h.low, h.high)

  two_called : (rules : Rules) (upper a b : ℕ) → called rules (two (upper * 16 + channel) a b) ≡ gives (midi channel (message_two upper a b))
  unfolding called
  two_called rules upper a b = let h = halves upper channel c in rw (h.low, h.high)

  message_called : (rules : Rules) (m : Message) → called rules (raw_message channel m) ≡ gives (midi channel m)
  unfolding raw_message message_one message_two
  message_called rules (note_off key vel) = two_called rules 0x8 key vel
  message_called rules (note_on key vel) = two_called rules 0x9 key vel
  message_called rules (aftertouch key vel) = two_called rules 0xA key vel
  message_called rules (controller number value) = two_called rules 0xB number value
  message_called rules (program_change program) = one_called rules 0xC program
  message_called rules (channel_aftertouch vel) = one_called rules 0xD vel
  message_called rules (pitch_bend raw) = two_called rules 0xE (raw % 128) (raw / 128) ∙ ap (λ (n : ℕ). gives (midi channel (pitch_bend n))) (omega arith)

  -- whose raw events are sound
  upper_takes : (upper : ℕ) → takes_one (upper * 16 + channel) ≡ takes_one (upper * 16)
  unfolding data_length
  upper_takes upper =
      let e : upper * 16 / 16 ≡ upper = omega arith in
      rw ((halves upper channel c).high, e)

  status_channel : (upper : ℕ) → 8 ≤ upper → upper < 15 → Channel (upper * 16 + channel)
  status_channel upper low high = record { low = omega arith; high = omega arith }

  one_sound : (upper a : ℕ) → 8 ≤ upper → upper < 15 → takes_one (upper * 16) ≡ true → a < 0x80 → Sound (one (upper * 16 + channel) a)
  one_sound upper a low high o f = (status_channel upper low high, upper_takes upper ∙ o, f)

  two_sound : (upper a b : ℕ) → 8 ≤ upper → upper < 15 → takes_one (upper * 16) ≡ false → (a < 0x80) × (b < 0x80) → Sound (two (upper * 16 + channel) a b)
  two_sound upper a b low high o f = (status_channel upper low high, upper_takes upper ∙ o, f.0, f.1)

  below : (a b : ℕ) → (ltb a 128 && ltb b 128) ≡ true → (a < 0x80) × (b < 0x80)
  below a b f = let g = both _ _ f in (ltb-true a 128 g.0, ltb-true b 128 g.1)

  message_sound : (rules : Rules) (m : Message) → message_fits rules m ≡ true → Sound (raw_message channel m)
  unfolding raw_message message_fits data_length
  message_sound rules (note_off key vel) f = two_sound 0x8 key vel (omega arith) (omega arith) refl (below key vel f)
  message_sound rules (note_on key vel) f = two_sound 0x9 key vel (omega arith) (omega arith) refl (below key vel f)
  message_sound rules (aftertouch key vel) f = two_sound 0xA key vel (omega arith) (omega arith) refl (below key vel f)
  message_sound rules (controller number value) f = two_sound 0xB number value (omega arith) (omega arith) refl (below number value f)
  message_sound rules (program_change program) f = one_sound 0xC program (omega arith) (omega arith) refl (ltb-true program 128 f)
  message_sound rules (channel_aftertouch vel) f = one_sound 0xD vel (omega arith) (omega arith) refl (ltb-true vel 128 f)
  message_sound rules (pitch_bend raw) f = let g = ltb-true raw 16384 f in two_sound 0xE (raw % 128) (raw / 128) (omega arith) (omega arith) refl (omega arith)

-- Meta messages

pub is_text_lem : (t : ℕ) → is_text t ≡ true → (0x01 ≤ t) × (t ≤ 0x09)
unfolding is_text
is_text_lem t =
    pick_test (λ (b : Bool). b ≡ true → (0x01 ≤ t) × (t ≤ 0x09)) (leb 0x01 t) (λ l h. (leb-true 0x01 t l, leb-true t 0x09 h))
    (λ _ h. absurd (true≢false (sym h)))

pub past_text : (t : ℕ) → is_text t ≡ false → eqb t 0x00 ≡ false → 0x09 < t
unfolding is_text
past_text t h z =
    pick_test (λ (b : Bool). b ≡ false → 0x09 < t) (leb 0x01 t) (λ l g. leb-false t 0x09 g)
    (λ l _. absurd (eqb-false t 0x00 z (omega (arith, leb-false 0x01 t l))))
    h

-- an `Unknown` that is not misnamed is called itself
module _ (rules : Rules) (t : ℕ) (p : List ℕ) (unnamed : is_named rules t (length p) ≡ false) where
  no_other : (n : ℕ) → t ≡ n → is_named rules n (length p) ≡ true → ⊥
  no_other n e h = true≢false (sym h ∙ ap (λ (m : ℕ). is_named rules m (length p)) (sym e) ∙ unnamed)

  abbrev Itself : Answer (Meta (List ℕ)) → Type 0
  Itself a = a ≡ gives (unknown t p)

  -- at a type that is named from so many bytes up
  short_itself : (u n : ℕ) (named : Answer (Meta (List ℕ))) → t ≡ u → (leb n (length p) ≡ true → is_named rules u (length p) ≡ true) → Itself (from n t p named)
  short_itself u n named e h = pick_test Itself (leb n (length p)) (λ l. absurd (no_other u e (h l))) (λ l. refl)

  pub unnamed_itself : called_meta rules t p ≡ gives (unknown t p)
  unfolding called_meta is_named
  unnamed_itself =
      pick_test Itself (eqb t 0x00) (λ e. absurd (no_other 0x00 (eqb-true t 0x00 e) refl))
      (λ _. pick_test Itself (is_text t) (λ e. absurd (no_other t refl (rw (le-leb t 0x09 (is_text_lem t e).1))))
      (λ _. pick_test Itself (eqb t 0x20) (λ e. short_itself 0x20 1 _ (eqb-true t 0x20 e) (λ l. rw l))
      (λ _. pick_test Itself (eqb t 0x21) (λ e. short_itself 0x21 1 _ (eqb-true t 0x21 e) (λ l. rw l))
      (λ _. pick_test Itself (eqb t 0x2F) (λ e. absurd (no_other 0x2F (eqb-true t 0x2F e) refl))
      (λ _. pick_test Itself (eqb t 0x51) (λ e. short_itself 0x51 3 _ (eqb-true t 0x51 e) (λ l. rw l))
      (λ _. pick_test Itself (eqb t 0x54) (λ e. short_itself 0x54 5 _ (eqb-true t 0x54 e) (λ l. rw l))
      (λ _. pick_test Itself (eqb t 0x58) (λ e. short_itself 0x58 4 _ (eqb-true t 0x58 e) (λ l. rw l))
      (λ _. pick_test Itself (eqb t 0x59) (λ e. absurd (no_other 0x59 (eqb-true t 0x59 e) refl))
      (λ _. pick_test Itself (eqb t 0x7F) (λ e. absurd (no_other 0x7F (eqb-true t 0x7F e) refl)) (λ _. refl))))))))))

-- the fields of a legal meta message come back from their bytes
byte_own : (a : ℕ) → ltb a 256 ≡ true → a % 256 ≡ a
byte_own a f = mod-eq_of_lt (ltb-true a 256 f)

time_own : (rules : Rules) (time : Time) → is_time rules time ≡ true → time_in rules (time_bytes time) ≡ gives time
unfolding time_bytes
time_own rules time is =
    let r = in_range rules time is in
    let c = rate_coded time.rate r.rated in
    let first : (code_of_rate time.rate * 32 + time.hour) % 256 ≡ code_of_rate time.rate * 32 + time.hour = mod-eq_of_lt (omega (arith, c.small)) in
    let minute : time.minute % 256 ≡ time.minute = mod-eq_of_lt (omega (arith, r.minute-below)) in
    let second : time.second % 256 ≡ time.second = mod-eq_of_lt (omega (arith, r.second_below)) in
    let frame : time.frame % 256 ≡ time.frame = mod-eq_of_lt (omega (arith, r.frame_below, rate_small time.rate r.rated)) in
    let subframe : time.subframe % 256 ≡ time.subframe = mod-eq_of_lt (omega (arith, r.subframe-below)) in
    rw (first, minute, second, frame, subframe) (time_reads_back rules time is)

sharps_own : (z : ℤ) → mag z < 128 → signed_byte (byte_of_signed z % 256) ≡ z
unfolding byte_of_signed
sharps_own (pos n) h = let e : n % 256 ≡ n = mod-eq_of_lt (omega arith) in rw e (signed_back (pos n) h)
sharps_own (negsuc n) h = let e : (255 - n) % 256 ≡ 255 - n = mod-eq_of_lt (omega arith) in rw e (signed_back (negsuc n) h)

minor_own : (minor : Bool) → not (eqb (pick minor 1 0 % 256) 0) ≡ minor
minor_own true = refl
minor_own false = refl

narrow_own : (rules : Rules) (limit c : ℕ) (of : ℕ → Meta (List ℕ)) → c < limit → limit ≤ 256
    → and_then (and_then (narrow rules limit (c % 256)) (λ n. gives (of n))) (λ m. gives (meta m)) ≡ gives (meta (of c))
unfolding narrow
narrow_own rules limit c of h l = let e : c % 256 ≡ c = mod-eq_of_lt (omega arith) in rw (e, lt-ltb c limit h)

-- a legal meta message is called itself by its raw event
meta_called : (rules : Rules) (m : Meta (List ℕ)) → meta_fits rules m ≡ true → misnamed rules length (meta_carries m) ≡ false → called rules (raw_meta m) ≡ gives (meta m)
unfolding called called_meta raw_meta meta_fits meta_carries is_text track_number_of
meta_called rules (track_number n) f o = let g = ltb-true n 65536 f in ap (λ (k : ℕ). gives (meta (track_number k))) (omega arith)
meta_called rules no_track_number f o = refl
meta_called rules (text t p) f o = rw (ne_eqb t 0x00 (omega (arith, (is_text_lem t f).0)), f)
meta_called rules (midi_channel c) f o = narrow_own rules 16 c midi_channel (ltb-true c 16 f) (omega arith)
meta_called rules (midi_port c) f o = narrow_own rules 128 c midi_port (ltb-true c 128 f) (omega arith)
meta_called rules end_of_track f o = refl
meta_called rules (tempo v) f o = let g = ltb-true v 16777216 f in ap (λ (k : ℕ). gives (meta (tempo k))) (omega arith)
meta_called rules (smpte_offset time) f o = rw (time_length time, time_own rules time f)
meta_called rules (time_signature a b c d) f o =
    let f1 = both _ _ f in
    let f2 = both _ _ f1.0 in
    let f3 = both _ _ f2.0 in
    rw (byte_own a f3.0, byte_own b f3.1, byte_own c f2.1, byte_own d f1.1)
meta_called rules (key_signature sharps minor) f o = rw (sharps_own sharps (ltb-true (mag sharps) 128 f), minor_own minor)
meta_called rules (sequencer_specific p) f o = refl
meta_called rules (unknown t p) f o = rw (unnamed_itself rules t p o)

-- a legal kind is called itself by its raw event, which is sound
pub kind_called : (rules : Rules) (k : Kind (List ℕ)) → LegalKind rules k → called rules (raw_of k) ≡ gives k
unfolding raw_of kind_fits carries called
kind_called rules (midi channel m) l = let f = both _ _ l.fits in message_called channel (ltb-true channel 16 f.0) rules m
kind_called rules (sys_ex p) l = refl
kind_called rules (escape p) l = refl
kind_called rules (meta m) l = meta_called rules m l.fits l.own

meta_sound : (m : Meta (List ℕ)) → length (load_or [] (meta_carries m)) < 2 ^ 28 → Sound (raw_meta m)
unfolding raw_meta meta_carries
meta_sound (track_number n) h = omega arith
meta_sound no_track_number h = omega arith
meta_sound (text t p) h = h
meta_sound (midi_channel c) h = omega arith
meta_sound (midi_port c) h = omega arith
meta_sound end_of_track h = omega arith
meta_sound (tempo v) h = omega arith
meta_sound (smpte_offset time) h = omega (arith, time_length time)
meta_sound (time_signature a b c d) h = omega arith
meta_sound (key_signature sharps minor) h = omega arith
meta_sound (sequencer_specific p) h = h
meta_sound (unknown t p) h = h

pub kind_sound : (rules : Rules) (k : Kind (List ℕ)) → LegalKind rules k → Sound (raw_of k)
unfolding raw_of kind_fits carries
kind_sound rules (midi channel m) l = let f = both _ _ l.fits in message_sound channel (ltb-true channel 16 f.0) rules m f.1
kind_sound rules (sys_ex p) l = (inl refl, l.small)
kind_sound rules (escape p) l = (inr refl, l.small)
kind_sound rules (meta m) l = meta_sound m l.small
