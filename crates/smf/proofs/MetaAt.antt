-- Payloads and meta messages at a place: what was read there, and where it stands.
use mathlib.Core.Path.{◌≡◌, refl, sym, ap, ◌∙◌}
use mathlib.Core.List.{List}
use Prim.Native.Nat.{ℕ, ◌+◌, ◌-◌, ◌^◌, ◌≤◌, ◌<◌}
use native.Mathlib.Numerals.{add-one}
use native.Mathlib.Omega.{arith}
use lib.Dec.{leb, eqb}
use lib.ListN.{length, take, drop, get_or, length-drop, drop_of_length-le}
use lib.Seq.{drop-drop, drop-cons}
use Rattle.smf.specs.Answer.{Answer, gives, refuses, and_then, Rules}
use Rattle.smf.specs.Payload.{Payload, payload, read_payload}
use Rattle.smf.specs.Place.{place_of, Span, span_placed, PayloadAt, payload_placed, payload_at, bytes_of}
use Rattle.smf.specs.Kind.{Meta, midi_channel, midi_port, smpte_offset, byte, is_text, track_number_of, narrow, time_in, called_meta}
use Rattle.smf.specs.Event.{map_meta, span_before}
use Rattle.smf.specs.MetaAt.{MetaTaken, meta_named, read_meta_message, MetaAt, meta_placed, meta_at}
use Rattle.smf.proofs.Answer.{pick_both, said_of, said_refused}
use Rattle.smf.proofs.Payload.{Loaded, PayloadLoaded, payload_loaded}

-- what a payload of the bytes lent is called under a type
unfoldable pub called_at : Rules → List ℕ → ℕ → PayloadAt → Answer MetaAt
called_at rules s t p =
    and_then (called_meta rules t (bytes_of s p.span))
    (λ m. gives (record { message = map_meta (λ q. p.span) m; next = p.span.start + p.span.length; padding = p.padding }))

abbrev pub end_of : Span → ℕ
end_of span = span.start + span.length

-- what is known of a payload that was read at a place within the bytes
pub record LoadedAt (rules : Rules) (s : List ℕ) (at : ℕ) (p : PayloadAt) : Type 0 where
  pub read : read_payload rules (drop at s) ≡ gives (payload (bytes_of s p.span) (drop (end_of p.span) s) p.padding)
  pub long : length (bytes_of s p.span) ≡ p.span.length
  pub inside : end_of p.span ≤ length s
  pub past : at + p.padding ≤ p.span.start
  pub small : p.span.length < 2 ^ 28

abbrev pub PayloadReached : Rules → List ℕ → ℕ → Answer PayloadAt → Type 0
PayloadReached rules s at (gives p) = LoadedAt rules s at p
PayloadReached rules s at (refuses n) = read_payload rules (drop at s) ≡ refuses n

pub payload_reached : (rules : Rules) (s : List ℕ) (at : ℕ) → at ≤ length s → PayloadReached rules s at (payload_at rules s at)
unfolding payload_at bytes_of
payload_reached rules s at h = by (read_payload rules (drop at s)) refl (payload_loaded rules (drop at s)) where
  loaded : (p : Payload) → read_payload rules (drop at s) ≡ gives p → Loaded rules (drop at s) p → LoadedAt rules s at (payload_placed s at p)
  loaded p e l =
      let d = length-drop at s in
      let w = l.within in
      let q : at + (length (drop at s) - length p.rest - length p.bytes) ≡ (span_placed s at p).start = omega arith in
      let r : at + (length (drop at s) - length p.rest) ≡ end_of (span_placed s at p) = omega arith in
      let b : p.bytes ≡ bytes_of s (span_placed s at p) =
      l.place ∙ ap (take (length p.bytes)) (drop-drop _ at s ∙ ap (λ (n : ℕ). drop n s) q)
      in
      let t : p.rest ≡ drop (end_of (span_placed s at p)) s = l.tail ∙ drop-drop _ at s ∙ ap (λ (n : ℕ). drop n s) r in
      record {
        read = e ∙ rw (← b, ← t);
        long = ap length (sym b);
        inside = omega arith;
        past = omega (arith, l.padded);
        small = l.small;
      }

  by : (a : Answer Payload) → read_payload rules (drop at s) ≡ a → PayloadLoaded rules (drop at s) a
      → PayloadReached rules s at (and_then a (λ (p : Payload). gives (payload_placed s at p)))
  by (gives p) e l = loaded p e l
  by (refuses n) e l = e

-- whatever a payload is called, it is that payload that the message carries
abbrev Carries : List ℕ → Answer (Meta (List ℕ)) → Type 0
Carries p (gives m) = (f : List ℕ → Span) → map_meta f m ≡ map_meta (λ q. f p) m
Carries p (refuses n) = Unit {0}

then_carries : {A : Type 0} (p : List ℕ) (a : Answer A) (k : A → Answer (Meta (List ℕ))) → ((x : A) → Carries p (k x)) → Carries p (and_then a k)
then_carries p (gives x) k h = h x
then_carries p (refuses n) k h = tt

called_carries : (rules : Rules) (t : ℕ) (p : List ℕ) → Carries p (called_meta rules t p)
unfolding called_meta map_meta track_number_of
called_carries rules t p =
    pick_both (Carries p) (eqb t 0x00) (pick_both (λ (m : Meta (List ℕ)). Carries p (gives m)) (leb 2 (length p)) (λ f. refl) (λ f. refl))
    (pick_both (Carries p) (is_text t) (λ f. refl)
    (pick_both (Carries p) (eqb t 0x20) (pick_both (Carries p) (leb 1 (length p)) (then_carries p (narrow rules 16 (byte p 0)) (λ c. gives (midi_channel c)) (λ x f. refl)) (λ f. refl))
    (pick_both (Carries p) (eqb t 0x21) (pick_both (Carries p) (leb 1 (length p)) (then_carries p (narrow rules 128 (byte p 0)) (λ c. gives (midi_port c)) (λ x f. refl)) (λ f. refl))
    (pick_both (Carries p) (eqb t 0x2F) (λ f. refl)
    (pick_both (Carries p) (eqb t 0x51) (pick_both (Carries p) (leb 3 (length p)) (λ f. refl) (λ f. refl))
    (pick_both (Carries p) (eqb t 0x54) (pick_both (Carries p) (leb 5 (length p)) (then_carries p (time_in rules p) (λ time. gives (smpte_offset time)) (λ x f. refl)) (λ f. refl))
    (pick_both (Carries p) (eqb t 0x58) (pick_both (Carries p) (leb 4 (length p)) (λ f. refl) (λ f. refl))
    (pick_both (Carries p) (eqb t 0x59) (pick_both (Carries p) (leb 2 (length p)) (λ f. refl) tt)
    (pick_both (Carries p) (eqb t 0x7F) (λ f. refl) (λ f. refl))))))))))

-- what a meta message at a place is, by its type byte and its payload

module _ (rules : Rules) (s : List ℕ) (at : ℕ) where
  pub meta_missing : length s ≤ at → meta_at rules s at ≡ refuses 10
  unfolding meta_at read_meta_message
  meta_missing h = rw (drop_of_length-le s h)

  -- from the type byte on
  typed_at : at < length s → read_meta_message rules (drop at s) ≡ and_then (read_payload rules (drop (at + 1) s)) (meta_named rules (get_or s at 0))
  unfolding read_meta_message
  typed_at h = rw (add-one at, drop-cons s at 0 h)

  pub meta_refused : at < length s → {n : ℕ} → payload_at rules s (at + 1) ≡ refuses n → meta_at rules s at ≡ refuses n
  unfolding meta_at
  meta_refused h {n} e =
      let r : read_payload rules (drop (at + 1) s) ≡ refuses n = said_refused (PayloadReached rules s (at + 1)) (payload_reached rules s (at + 1) (omega arith)) e in
      rw (typed_at h, r)

  -- the place and the payload of what was called
  called_placed : (span : Span) (padding : ℕ) (p : List ℕ) → at ≤ span.start → end_of span ≤ length s → length p ≡ span.length
      → (a : Answer (Meta (List ℕ))) → Carries p a
      → and_then (and_then a (λ m. gives (record { message = m; rest = drop (end_of span) s; padding = padding }))) (λ (t : MetaTaken). gives (meta_placed s at t))
      ≡ and_then a (λ m. gives (record { message = map_meta (λ q. span) m; next = end_of span; padding = padding }))
  called_placed span padding p h g len (refuses n) c = refl
  called_placed span padding p h g len (gives m) c =
      let e : place_of s at (drop (end_of span) s) ≡ end_of span = omega (arith, length-drop at s, length-drop (end_of span) s) in
      let b : end_of span - span.length ≡ span.start = omega arith in
      let f : span_before (end_of span) p ≡ span = rw (len, b) in
      rw (e, c (span_before (end_of span)), f)

  pub meta_called : at < length s → {p : PayloadAt} → payload_at rules s (at + 1) ≡ gives p → meta_at rules s at ≡ called_at rules s (get_or s at 0) p
  unfolding meta_at called_at
  meta_called h {p} e =
      let l : LoadedAt rules s (at + 1) p = said_of (PayloadReached rules s (at + 1)) (payload_reached rules s (at + 1) (omega arith)) e in
      let bytes = bytes_of s p.span in
      rw (typed_at h, l.read)
      (called_placed p.span p.padding bytes (omega (arith, l.past)) l.inside l.long (called_meta rules (get_or s at 0) bytes) (called_carries rules (get_or s at 0) bytes))
