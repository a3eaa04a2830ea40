-- What a payload of the bytes lent is called, by its type, its length and its bytes.
use mathlib.Core.Path.{◌≡◌, refl, sym, ap, ◌∙◌}
use mathlib.Core.Bool.{true, false, not}
use mathlib.Core.List.{List}
use Prim.Native.Nat.{ℕ, ◌+◌, ◌*◌, ◌%◌, ◌≤◌, ◌<◌}
use native.Mathlib.Nat.{add-zero, mod-eq_of_lt}
use native.Mathlib.Omega.{arith}
use lib.Dec.{leb, eqb}
use lib.ListN.{length, drop, get_or, length-drop}
use lib.Seq.{length-take-le, get_or-take, get_or-drop}
use borrow.Author.Tests.{lt-ltb, le-ltb, le-leb, lt-leb, ne_eqb}
use Rattle.smf.specs.Answer.{pick, Answer, gives, refuses, and_then, Rules}
use Rattle.smf.specs.Place.{Span, PayloadAt, bytes_of}
use Rattle.smf.specs.Signed.{signed_byte}
use Rattle.smf.specs.Smpte.{Time, time_of}
use Rattle.smf.specs.Header.{word}
use Rattle.smf.specs.Kind.{Meta, track_number, no_track_number, text, tempo, time_signature, key_signature, midi_channel, midi_port, end_of_track, smpte_offset, sequencer_specific, unknown}
use Rattle.smf.specs.Kind.{byte, is_text, track_number_of, from, narrow, tempo_of, time_in, signature_of, key_of, called_meta}
use Rattle.smf.specs.Event.{map_meta}
use Rattle.smf.specs.MetaAt.{MetaAt}
use Rattle.smf.proofs.MetaAt.{called_at}

-- the form of each type

module _ (rules : Rules) (p : List ℕ) where
  pub form_number : called_meta rules 0x00 p ≡ gives (track_number_of p)
  unfolding called_meta
  form_number = refl

  pub form_text : (t : ℕ) → 1 ≤ t → t ≤ 9 → called_meta rules t p ≡ gives (text t p)
  unfolding called_meta is_text
  form_text t h g = rw (ne_eqb t 0x00 (λ e. omega arith), le-leb 1 t h, le-leb t 9 g)

  pub form_channel : called_meta rules 0x20 p ≡ from 1 0x20 p (and_then (narrow rules 16 (byte p 0)) (λ c. gives (midi_channel c)))
  unfolding called_meta is_text
  form_channel = refl

  pub form_port : called_meta rules 0x21 p ≡ from 1 0x21 p (and_then (narrow rules 128 (byte p 0)) (λ c. gives (midi_port c)))
  unfolding called_meta is_text
  form_port = refl

  pub form_end : called_meta rules 0x2F p ≡ gives end_of_track
  unfolding called_meta is_text
  form_end = refl

  pub form_tempo : called_meta rules 0x51 p ≡ from 3 0x51 p (gives (tempo_of p))
  unfolding called_meta is_text
  form_tempo = refl

  pub form_smpte : called_meta rules 0x54 p ≡ from 5 0x54 p (and_then (time_in rules p) (λ time. gives (smpte_offset time)))
  unfolding called_meta is_text
  form_smpte = refl

  pub form_signature : called_meta rules 0x58 p ≡ from 4 0x58 p (gives (signature_of p))
  unfolding called_meta is_text
  form_signature = refl

  pub form_key : called_meta rules 0x59 p ≡ pick (leb 2 (length p)) (gives (key_of p)) (refuses 14)
  unfolding called_meta is_text
  form_key = refl

  pub form_sequencer : called_meta rules 0x7F p ≡ gives (sequencer_specific p)
  unfolding called_meta is_text
  form_sequencer = refl

  -- every other type
  pub form_unknown : (t : ℕ) → 10 ≤ t → (t ≡ 0x20 → ⊥) → (t ≡ 0x21 → ⊥) → (t ≡ 0x2F → ⊥) → (t ≡ 0x51 → ⊥) → (t ≡ 0x54 → ⊥)
      → (t ≡ 0x58 → ⊥) → (t ≡ 0x59 → ⊥) → (t ≡ 0x7F → ⊥) → called_meta rules t p ≡ gives (unknown t p)
  unfolding called_meta is_text
  form_unknown t h a b c d e f g i =
      let n : eqb t 0x00 ≡ false = ne_eqb t 0x00 (λ q. omega arith) in
      let one : leb 1 t ≡ true = le-leb 1 t (omega arith) in
      let nine : leb t 9 ≡ false = lt-leb t 9 (omega arith) in
      rw (n, one, nine, ne_eqb t 0x20 a, ne_eqb t 0x21 b, ne_eqb t 0x2F c, ne_eqb t 0x51 d, ne_eqb t 0x54 e, ne_eqb t 0x58 f, ne_eqb t 0x59 g, ne_eqb t 0x7F i)

-- a narrow field
module _ (rules : Rules) (limit b : ℕ) where
  narrow_low : b < limit → narrow rules limit b ≡ gives b
  unfolding narrow
  narrow_low h = rw (lt-ltb b limit h)

  narrow_strict : limit ≤ b → rules.strict ≡ true → narrow rules limit b ≡ refuses 12
  unfolding narrow
  narrow_strict h t = rw (le-ltb b limit h, t)

  narrow_lenient : limit ≤ b → rules.strict ≡ false → narrow rules limit b ≡ gives (b % limit)
  unfolding narrow
  narrow_lenient h t = rw (le-ltb b limit h, t)

-- of bytes that are bytes, and a range inside them
module _ (rules : Rules) (s : List ℕ) (small : (i : ℕ) → get_or s i 0 < 256) (load : PayloadAt) (inside : load.span.start + load.span.length ≤ length s) where
  abbrev span : Span
  span = load.span

  pub part_length : length (bytes_of s span) ≡ span.length
  unfolding bytes_of
  part_length = length-take-le span.length (drop span.start s) (omega (arith, length-drop span.start s))

  pub part_byte : (i : ℕ) → i < span.length → byte (bytes_of s span) i ≡ get_or s (span.start + i) 0
  unfolding bytes_of
  part_byte i h = rw (get_or-take span.length (drop span.start s) i 0 h, get_or-drop span.start s i 0) (mod-eq_of_lt (small (span.start + i)))

  pub part_first : 0 < span.length → byte (bytes_of s span) 0 ≡ get_or s span.start 0
  part_first h = rw add-zero at (part_byte 0 h)

  -- a message of that payload
  abbrev pub told : Meta Span → Answer MetaAt
  told m = gives (record { message = m; next = span.start + span.length; padding = load.padding })

  pub called_is : (t : ℕ) (m : Meta (List ℕ)) → called_meta rules t (bytes_of s span) ≡ gives m → told (map_meta (λ q. span) m) ≡ called_at rules s t load
  unfolding called_at
  called_is t m e = rw e

  pub called_text : (t : ℕ) → 1 ≤ t → t ≤ 9 → told (text t span) ≡ called_at rules s t load
  unfolding map_meta
  called_text t h g = called_is t (text t (bytes_of s span)) (form_text rules (bytes_of s span) t h g)

  -- a type that is named from n bytes up
  module _ (t n : ℕ) (kind : Answer (Meta (List ℕ))) (form : called_meta rules t (bytes_of s span) ≡ from n t (bytes_of s span) kind) where
    pub short : span.length < n → told (unknown t span) ≡ called_at rules s t load
    unfolding map_meta
    short h = called_is t (unknown t (bytes_of s span)) (form ∙ rw (part_length, lt-leb n span.length h))

    long : n ≤ span.length → called_meta rules t (bytes_of s span) ≡ kind
    long h = form ∙ rw (part_length, le-leb n span.length h)

    pub enough : n ≤ span.length → (m : Meta (List ℕ)) → kind ≡ gives m → told (map_meta (λ q. span) m) ≡ called_at rules s t load
    enough h m e = called_is t m (long h ∙ e)

    pub enough_refused : n ≤ span.length → (k : ℕ) → kind ≡ refuses k → refuses k ≡ called_at rules s t load
    unfolding called_at
    enough_refused h k e = rw (long h, e)

  -- a type whose first byte is narrow
  module _ (t limit : ℕ) (of : ℕ → Meta (List ℕ))
      (form : called_meta rules t (bytes_of s span) ≡ from 1 t (bytes_of s span) (and_then (narrow rules limit (byte (bytes_of s span) 0)) (λ c. gives (of c))))
      (some : 1 ≤ span.length) where
    first : byte (bytes_of s span) 0 ≡ get_or s span.start 0
    first = part_first (omega arith)

    pub fits_low : get_or s span.start 0 < limit → told (map_meta (λ q. span) (of (get_or s span.start 0))) ≡ called_at rules s t load
    fits_low h = enough t 1 _ form some (of (get_or s span.start 0)) (rw (first, narrow_low rules limit (get_or s span.start 0) h))

    pub fits_lenient : limit ≤ get_or s span.start 0 → rules.strict ≡ false → told (map_meta (λ q. span) (of (get_or s span.start 0 % limit))) ≡ called_at rules s t load
    fits_lenient h l = enough t 1 _ form some (of (get_or s span.start 0 % limit)) (rw (first, narrow_lenient rules limit (get_or s span.start 0) h l))

    pub fits_strict : limit ≤ get_or s span.start 0 → rules.strict ≡ true → refuses 12 ≡ called_at rules s t load
    fits_strict h l = enough_refused t 1 _ form some 12 (rw (first, narrow_strict rules limit (get_or s span.start 0) h l))

  -- the kinds that look at several bytes

  abbrev at : ℕ → ℕ
  at i = get_or s (span.start + i) 0

  pub called_number : 2 ≤ span.length → track_number (word (get_or s span.start 0) (at 1)) ≡ map_meta (λ q. span) (track_number_of (bytes_of s span))
  unfolding map_meta track_number_of
  called_number h = rw (part_length, le-leb 2 span.length h, part_first (omega arith), part_byte 1 (omega arith))

  pub called_no_number : span.length < 2 → no_track_number ≡ map_meta (λ q. span) (track_number_of (bytes_of s span))
  unfolding map_meta track_number_of
  called_no_number h = rw (part_length, lt-leb 2 span.length h)

  pub called_tempo : 3 ≤ span.length → told (tempo (get_or s span.start 0 * 65536 + word (at 1) (at 2))) ≡ called_at rules s 0x51 load
  unfolding map_meta
  called_tempo h =
      ap (λ (v : ℕ). told (tempo v)) (omega (arith, part_first (omega arith), part_byte 1 (omega arith), part_byte 2 (omega arith)))
      ∙ enough 0x51 3 (gives (tempo_of (bytes_of s span))) (form_tempo rules (bytes_of s span)) h (tempo_of (bytes_of s span)) refl

  pub called_signature : 4 ≤ span.length → told (time_signature (get_or s span.start 0) (at 1) (at 2) (at 3)) ≡ called_at rules s 0x58 load
  unfolding map_meta
  called_signature h =
      rw (← part_first (omega arith), ← part_byte 1 (omega arith), ← part_byte 2 (omega arith), ← part_byte 3 (omega arith))
      (enough 0x58 4 (gives (signature_of (bytes_of s span))) (form_signature rules (bytes_of s span)) h (signature_of (bytes_of s span)) refl)

  pub called_key : 2 ≤ span.length → told (key_signature (signed_byte (get_or s span.start 0)) (not (eqb (at 1) 0))) ≡ called_at rules s 0x59 load
  unfolding map_meta
  called_key h =
      rw (← part_first (omega arith), ← part_byte 1 (omega arith))
      (called_is 0x59 (key_of (bytes_of s span)) (form_key rules (bytes_of s span) ∙ rw (part_length, le-leb 2 span.length h)))

  pub called_short_key : span.length < 2 → refuses 14 ≡ called_at rules s 0x59 load
  unfolding called_at
  called_short_key h = rw (form_key rules (bytes_of s span), part_length, lt-leb 2 span.length h)

  -- a time, as it was answered
  module _ (h : 5 ≤ span.length) {a : Answer Time} (e : a ≡ time_of rules (get_or s span.start 0) (at 1) (at 2) (at 3) (at 4)) where
    answered : time_in rules (bytes_of s span) ≡ a
    answered = rw (part_first (omega arith), part_byte 1 (omega arith), part_byte 2 (omega arith), part_byte 3 (omega arith), part_byte 4 (omega arith)) (sym e)

    pub called_time : {t : Time} → a ≡ gives t → told (smpte_offset t) ≡ called_at rules s 0x54 load
    unfolding map_meta
    called_time {t} q = enough 0x54 5 _ (form_smpte rules (bytes_of s span)) h (smpte_offset t) (rw (answered, q))

    pub called_no_time : {n : ℕ} → a ≡ refuses n → refuses n ≡ called_at rules s 0x54 load
    called_no_time {n} q = enough_refused 0x54 5 _ (form_smpte rules (bytes_of s span)) h n (rw (answered, q))
