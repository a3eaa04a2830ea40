-- What stands behind the delta of each kind, by its own tests alone.
use Rattle.std.specs.Prelude.{Err, Ok, Result}
use mathlib.Core.Path.{◌≡◌, refl, sym, ap, ◌∙◌}
use mathlib.Core.Bool.{Bool, true, false, ◌&&◌, not}
use mathlib.Core.List.{List, [], ◌∷◌}
use Prim.Native.Nat.{ℕ, ◌/◌, ◌%◌, ◌^◌, ◌<◌}
use native.Mathlib.Omega.{arith}
use lib.Dec.{ltb}
use lib.IntN.{ℤ}
use lib.ListN.{length, take}
use lib.Signed.{mag}
use borrow.Author.Tests.{le-leb, lt-ltb, le-ltb}
use Rattle.smf.specs.Answer.{pick, Answer, gives, refuses, unless, and_then, Rules}
use Rattle.smf.specs.Place.{Span, inside, bytes_of}
use Rattle.smf.specs.Signed.{byte_of_signed}
use Rattle.smf.specs.Smpte.{Time, is_time, time_bytes, encode_time}
use Rattle.smf.specs.Wire as wire
use Rattle.smf.specs.Wire.{raw_event}
use Rattle.smf.specs.Kind.{Message, Meta, track_number, no_track_number, text, midi_channel, midi_port, end_of_track, tempo, smpte_offset, time_signature, key_signature, sequencer_specific, unknown}
use Rattle.smf.specs.Kind.{Kind, midi, sys_ex, escape, meta, is_text, raw_message, raw_meta, raw_of}
use Rattle.smf.specs.Event.{Event, event, message_fits, meta_fits, kind_fits, load_or, meta_carries, carries, kind_load, misnamed, kind_misnamed, is_named, no_span, span_length, map_meta, map_kind, map_event, legal}
use Rattle.smf.proofs.Answer.{by_test, by_lt, given}
use Rattle.base.specs.declared.Refusal.{Refusal}
use Rattle.header.specs.Smpte.{encoded_smpte_time}
use Rattle.write.specs.Raw.{raw_judged, raw_kind, lent}

-- the tests of legality in their order, over whatever they are made on
abbrev judged : {A : Type 0} → Bool → Bool → Bool → Bool → A → Answer A
judged fits within short misnamed x =
    unless fits 18 (unless within 19 (unless short 22 (unless (not misnamed) 23 (gives x))))

-- what is made of what they give
made : {A B : Type 0} (f : A → B) (x : A) (fits within short misnamed : Bool)
    → and_then (judged fits within short misnamed x) (λ a. gives (f a)) ≡ judged fits within short misnamed (f x)
made f x true true true true = refl
made f x true true true false = refl
made f x true true false misnamed = refl
made f x true false short misnamed = refl
made f x false within short misnamed = refl

module _ (rules : Rules) (bytes : List ℕ) where
  abbrev own : Kind Span → wire.Raw
  own k = raw_of (map_kind (bytes_of bytes) k)

  kind_judged : (k : Kind Span)
      → raw_kind rules bytes k
      ≡ judged (kind_fits rules k) (inside bytes (kind_load no_span k)) (ltb (span_length (kind_load no_span k)) (2 ^ 28)) (kind_misnamed rules span_length k) (own k)
  unfolding raw_kind legal map_event
  kind_judged k =
      made (λ (l : Event (List ℕ)). raw_of l.kind) (map_event (bytes_of bytes) (event 0 k)) (kind_fits rules k) (inside bytes (kind_load no_span k))
      (ltb (span_length (kind_load no_span k)) (2 ^ 28)) (kind_misnamed rules span_length k)

  -- a delta in front of it
  pub behind_delta : (delta : ℕ) (k : Kind Span)
      → raw_judged (legal rules bytes (event delta k)) ≡ pick (ltb delta (2 ^ 28)) (and_then (raw_kind rules bytes k) (λ raw. gives (raw_event delta raw))) (refuses 18)
  unfolding raw_judged legal map_event
  behind_delta delta k =
      made (λ (l : Event (List ℕ)). raw_event l.delta (raw_of l.kind)) (map_event (bytes_of bytes) (event delta k)) (ltb delta (2 ^ 28) && kind_fits rules k) (inside bytes (kind_load no_span k))
      (ltb (span_length (kind_load no_span k)) (2 ^ 28)) (kind_misnamed rules span_length k)
      ∙ by (ltb delta (2 ^ 28)) (kind_fits rules k) (inside bytes (kind_load no_span k)) (ltb (span_length (kind_load no_span k)) (2 ^ 28)) (kind_misnamed rules span_length k)
      ∙ ap (λ (a : Answer wire.Raw). pick (ltb delta (2 ^ 28)) (and_then a (λ raw. gives (raw_event delta raw))) (refuses 18)) (sym (kind_judged k)) where
        by : (d fits within short misnamed : Bool)
            → judged (d && fits) within short misnamed (raw_event delta (own k))
            ≡ pick d (and_then (judged fits within short misnamed (own k)) (λ raw. gives (raw_event delta raw))) (refuses 18)
        by true true true true true = refl
        by true true true true false = refl
        by true true true false misnamed = refl
        by true true false short misnamed = refl
        by true false within short misnamed = refl
        by false fits within short misnamed = refl

  -- of a kind that carries no payload
  empty : inside bytes no_span ≡ true
  unfolding inside
  empty = le-leb 0 (length bytes) (omega arith)

  pub midi_made : (channel : ℕ) (m : Message) → raw_kind rules bytes (midi channel m) ≡ pick (ltb channel 16 && message_fits rules m) (gives (raw_message channel m)) (refuses 18)
  unfolding kind_fits carries map_kind raw_of
  midi_made channel m = kind_judged (midi channel m) ∙ rw empty

  -- F0 and F7
  pub sys_ex_made : (p : Span) → raw_kind rules bytes (sys_ex p) ≡ lent bytes p (wire.system 0xF0 (bytes_of bytes p))
  unfolding kind_fits carries map_kind raw_of lent
  sys_ex_made p = kind_judged (sys_ex p)

  pub escape_made : (p : Span) → raw_kind rules bytes (escape p) ≡ lent bytes p (wire.system 0xF7 (bytes_of bytes p))
  unfolding kind_fits carries map_kind raw_of lent
  escape_made p = kind_judged (escape p)

  -- metas with a payload
  pub text_made : (t : ℕ) (p : Span) → is_text t ≡ true → raw_kind rules bytes (meta (text t p)) ≡ lent bytes p (wire.typed t (bytes_of bytes p))
  unfolding kind_fits meta_fits carries meta_carries map_kind map_meta raw_of raw_meta lent
  text_made t p f = kind_judged (meta (text t p)) ∙ rw f

  pub sequencer_made : (p : Span) → raw_kind rules bytes (meta (sequencer_specific p)) ≡ lent bytes p (wire.typed 0x7F (bytes_of bytes p))
  unfolding kind_fits meta_fits carries meta_carries map_kind map_meta raw_of raw_meta lent
  sequencer_made p = kind_judged (meta (sequencer_specific p))

  pub unknown_made : (t : ℕ) (p : Span)
      → raw_kind rules bytes (meta (unknown t p)) ≡ and_then (lent bytes p (wire.typed t (bytes_of bytes p))) (λ raw. unless (not (is_named rules t p.length)) 23 (gives raw))
  unfolding kind_fits meta_fits carries meta_carries map_kind map_meta raw_of raw_meta lent
  unknown_made t p =
      kind_judged (meta (unknown t p)) ∙ by (inside bytes p) (ltb p.length (2 ^ 28)) where
        by : (within short : Bool)
            → judged true within short (is_named rules t p.length) (wire.typed t (bytes_of bytes p))
            ≡ and_then (pick within (pick short (gives (wire.typed t (bytes_of bytes p))) (refuses 22)) (refuses 19)) (λ raw. unless (not (is_named rules t p.length)) 23 (gives raw))
        by true true = refl
        by true false = refl
        by false short = refl

  -- metas with none
  own_made : (m : Meta Span) → load_or no_span (meta_carries m) ≡ no_span → misnamed rules span_length (meta_carries m) ≡ false
      → raw_kind rules bytes (meta m) ≡ pick (meta_fits rules m) (gives (raw_meta (map_meta (bytes_of bytes) m))) (refuses 18)
  unfolding kind_fits carries map_kind raw_of
  own_made m l n = kind_judged (meta m) ∙ rw (l, n, empty)

  pub number_made : (n : ℕ) → raw_kind rules bytes (meta (track_number n)) ≡ pick (ltb n 65536) (gives (wire.typed 0x00 (n / 256 ∷ n % 256 ∷ []))) (refuses 18)
  unfolding meta_carries meta_fits map_meta raw_meta
  number_made n = own_made (track_number n) refl refl

  pub none_made : raw_kind rules bytes (meta no_track_number) ≡ gives (wire.typed 0x00 [])
  unfolding meta_carries meta_fits map_meta raw_meta
  none_made = own_made no_track_number refl refl

  pub channel_made : (c : ℕ) → raw_kind rules bytes (meta (midi_channel c)) ≡ pick (ltb c 16) (gives (wire.typed 0x20 (c ∷ []))) (refuses 18)
  unfolding meta_carries meta_fits map_meta raw_meta
  channel_made c = own_made (midi_channel c) refl refl

  pub port_made : (c : ℕ) → raw_kind rules bytes (meta (midi_port c)) ≡ pick (ltb c 128) (gives (wire.typed 0x21 (c ∷ []))) (refuses 18)
  unfolding meta_carries meta_fits map_meta raw_meta
  port_made c = own_made (midi_port c) refl refl

  pub end_made : raw_kind rules bytes (meta end_of_track) ≡ gives (wire.typed 0x2F [])
  unfolding meta_carries meta_fits map_meta raw_meta
  end_made = own_made end_of_track refl refl

  pub tempo_made : (v : ℕ) → raw_kind rules bytes (meta (tempo v)) ≡ pick (ltb v 16777216) (gives (wire.typed 0x51 (v / 256 / 256 ∷ v / 256 % 256 ∷ v % 256 ∷ []))) (refuses 18)
  unfolding meta_carries meta_fits map_meta raw_meta
  tempo_made v = own_made (tempo v) refl refl

  pub time_made : (t : Time) → raw_kind rules bytes (meta (smpte_offset t)) ≡ pick (is_time rules t) (gives (wire.typed 0x54 (time_bytes t))) (refuses 18)
  unfolding meta_carries meta_fits map_meta raw_meta
  time_made t = own_made (smpte_offset t) refl refl

  pub signature_made : (a b c d : ℕ) → raw_kind rules bytes (meta (time_signature a b c d)) ≡ pick (ltb a 256 && ltb b 256 && ltb c 256 && ltb d 256) (gives (wire.typed 0x58 (a ∷ b ∷ c ∷ d ∷ []))) (refuses 18)
  unfolding meta_carries meta_fits map_meta raw_meta
  signature_made a b c d = own_made (time_signature a b c d) refl refl

  pub key_made : (sharps : ℤ) (minor : Bool) → raw_kind rules bytes (meta (key_signature sharps minor)) ≡ pick (ltb (mag sharps) 128) (gives (wire.typed 0x59 (byte_of_signed sharps ∷ pick minor 1 0 ∷ []))) (refuses 18)
  unfolding meta_carries meta_fits map_meta raw_meta
  key_made sharps minor = own_made (key_signature sharps minor) refl refl

  -- fields that have a whole byte are within it
  pub signature_fits : {a b c d : ℕ} → a < 256 → b < 256 → c < 256 → d < 256 → raw_kind rules bytes (meta (time_signature a b c d)) ≡ gives (wire.typed 0x58 (a ∷ b ∷ c ∷ d ∷ []))
  signature_fits {a} {b} {c} {d} ha hb hc hd = signature_made a b c d ∙ rw (lt-ltb a 256 ha, lt-ltb b 256 hb, lt-ltb c 256 hc, lt-ltb d 256 hd)

  pub key_fits : (sharps : ℤ) (minor : Bool) → mag sharps < 128 → raw_kind rules bytes (meta (key_signature sharps minor)) ≡ gives (wire.typed 0x59 (byte_of_signed sharps ∷ pick minor 1 0 ∷ []))
  key_fits sharps minor h = key_made sharps minor ∙ rw (lt-ltb (mag sharps) 128 h)

  -- an SMPTE time, by what its encoding answers
  module _ (t : Time) where
    pub time_given_lem : (r : Result (List ℕ) Refusal) (b : List ℕ) → encoded_smpte_time r ≡ encode_time rules t → r ≡ Ok b
        → gives (wire.typed 0x54 (take 5 b)) ≡ raw_kind rules bytes (meta (smpte_offset t))
    unfolding encode_time time_bytes
    time_given_lem r b says is =
        let g = given (is_time rules t) (time_bytes t) 18 (sym (ap encoded_smpte_time (sym is) ∙ says)) in
        rw (time_made t, g.0) (ap (λ (l : List ℕ). gives (wire.typed 0x54 (take 5 l))) (sym g.1))

    pub time_refused : (r : Result (List ℕ) Refusal) (n : Refusal) → encoded_smpte_time r ≡ encode_time rules t → r ≡ Err n
        → refuses 18 ≡ raw_kind rules bytes (meta (smpte_offset t))
    unfolding encode_time
    time_refused r n says is =
        rw (time_made t)
        (by_test (is_time rules t)
        (λ (e : is_time rules t ≡ true). let z : ◌≡◌ {A = ℕ} 0 1 = cc in absurd (omega arith))
        (λ e. rw e))

-- seven bits and seven are fourteen
pub bend_fits : (b : ℕ) → (ltb (b % 128) 128 && ltb (b / 128) 128) ≡ ltb b 16384
bend_fits b =
    by_lt b 16384
    (λ h. rw (lt-ltb (b % 128) 128 (omega arith), lt-ltb (b / 128) 128 (omega arith), lt-ltb b 16384 h))
    (λ h. rw (lt-ltb (b % 128) 128 (omega arith), le-ltb (b / 128) 128 (omega arith), le-ltb b 16384 h))
