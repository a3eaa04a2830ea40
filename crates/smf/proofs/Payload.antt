-- The laws of payloads: what is written is read back, where it stands, and nothing shorter is read as it.
use mathlib.Core.Path.{◌≡◌, refl, ap, ◌∙◌}
use mathlib.Core.Bool.{true, false}
use mathlib.Core.List.{List, [], ◌++◌, append_assoc}
use mathlib.Core.Logic.{◌⊎◌, inl, inr, ⊎_elim}
use Prim.Native.Nat.{ℕ, ◌+◌, ◌-◌, ◌^◌, ◌≤◌, ◌<◌}
use native.Mathlib.Omega.{arith}
use lib.Dec.{leb}
use lib.ListN.{length, take, drop, length-append, length-drop}
use lib.Seq.{take-append_seam, drop-append_seam, drop-drop, length-take-le, take-length, drop-length}
use borrow.Author.Tests.{le-leb, leb-true, leb-false}
use Rattle.smf.specs.Answer.{Answer, gives, refuses, and_then, Rules, leniently}
use Rattle.smf.specs.Number.{encode_number, Numeral, read_number, padding_of}
use Rattle.smf.specs.Payload.{Payload, payload, payload_after, read_payload, encode_payload}
use Rattle.smf.proofs.Answer.{pick_test, said_of, Alike, pick_alike, strictly_alike, then_alike}
use Rattle.smf.proofs.Number.{reads_back, encode_unpadded, Took, NumberTook, read_took, shortest, number_alike, encode_monotone}

pub encode_payload_length : (p : List ℕ) → length (encode_payload p) ≡ length (encode_number (length p)) + length p
unfolding encode_payload
encode_payload_length p = length-append (encode_number (length p)) p

-- a payload written is read back, in both modes, whatever follows, and its number has no padding
pub payload_reads_back : (rules : Rules) (p rest : List ℕ) → length p < 2 ^ 28 → read_payload rules (encode_payload p ++ rest) ≡ gives (payload p rest 0)
unfolding read_payload encode_payload payload_after
payload_reads_back rules p rest h =
    simp (append_assoc, reads_back rules (length p) (p ++ rest) h, encode_unpadded (length p) (p ++ rest), le-leb (length p) (length (p ++ rest)) (omega (arith, length-append p rest)), take-append_seam, drop-append_seam)

-- What is read: below 2^28 bytes, which end where the reading ends; and its shortest form takes no more bytes, unless there are none
pub record Loaded (rules : Rules) (s : List ℕ) (p : Payload) : Type 0 where
  pub small : length p.bytes < 2 ^ 28
  pub within : length p.bytes + length p.rest ≤ length s
  pub tail : p.rest ≡ drop (length s - length p.rest) s
  pub place : p.bytes ≡ take (length p.bytes) (drop (length s - length p.rest - length p.bytes) s)
  pub fewest : (s ≡ []) ⊎ (length (encode_payload p.bytes) + length p.rest ≤ length s)
  pub shortest : rules.strict ≡ true → length (encode_payload p.bytes) + length p.rest ≤ length s
  pub padded : p.padding + length p.bytes + length p.rest ≤ length s

abbrev pub PayloadLoaded : Rules → List ℕ → Answer Payload → Type 0
PayloadLoaded rules s (gives p) = Loaded rules s p
PayloadLoaded rules s (refuses m) = rules.strict ≡ true

module _ (rules : Rules) (s : List ℕ) (n : Numeral) (read : read_number rules s ≡ gives n) where
  took : Took rules s n
  took = said_of (NumberTook rules s) (read_took rules s) read

  -- whatever part of what follows the number is taken, no longer than the number says
  loaded : (c : ℕ) → c ≤ n.value → c ≤ length n.rest → Loaded rules s (payload (take c n.rest) (drop c n.rest) (padding_of s n))
  loaded c h g =
      let t = took in
      let l : length (take c n.rest) ≡ c = length-take-le c n.rest g in
      let d : length (drop c n.rest) ≡ length n.rest - c = length-drop c n.rest in
      let m : length (encode_number (length (take c n.rest))) ≤ length (encode_number n.value) = encode_monotone (omega arith) in
      let e = encode_payload_length (take c n.rest) in
      let after : length s - length n.rest + c ≡ length s - length (drop c n.rest) = omega (arith, t.within) in
      let start : length s - length n.rest ≡ length s - (length n.rest - c) - c = omega (arith, t.within) in
      record {
        small = omega (arith, t.small);
        within = omega (arith, t.within);
        tail = ap (drop c) t.tail ∙ drop-drop c (length s - length n.rest) s ∙ ap (λ (x : ℕ). drop x s) after;
        place = rw (l, d) (ap (take c) (t.tail ∙ ap (λ (x : ℕ). drop x s) start));
        fewest = ⊎_elim (λ z. inl z) (λ f. inr (omega arith)) t.fewest;
        shortest = λ strict. omega (arith, shortest rules strict s n read);
        padded = omega (arith, t.within);
      }

  after_loaded : PayloadLoaded rules s (payload_after rules s n)
  unfolding payload_after
  after_loaded =
      pick_test (PayloadLoaded rules s) (leb n.value (length n.rest))
      (λ t. loaded n.value (omega arith) (leb-true _ _ t))
      (λ t. pick_test (PayloadLoaded rules s) rules.strict (λ q. q)
      (λ q. simp (take-length, drop-length) at (loaded (length n.rest) (omega (arith, leb-false n.value (length n.rest) t)) (omega arith))))

pub payload_loaded : (rules : Rules) (s : List ℕ) → PayloadLoaded rules s (read_payload rules s)
unfolding read_payload
payload_loaded rules s = by (read_number rules s) refl (read_took rules s) where
  by : (a : Answer Numeral) → read_number rules s ≡ a → NumberTook rules s a → PayloadLoaded rules s (and_then a (payload_after rules s))
  by (gives n) e t = after_loaded rules s n e
  by (refuses m) e t = t

-- lenient reading never refuses
pub lenient_loads : (rules : Rules) → rules.strict ≡ false → (s : List ℕ) → (p : Payload) × (read_payload rules s ≡ gives p)
lenient_loads rules lenient s = by (read_payload rules s) (payload_loaded rules s) refl where
  by : (a : Answer Payload) → PayloadLoaded rules s a → read_payload rules s ≡ a → (p : Payload) × (read_payload rules s ≡ gives p)
  by (gives p) g e = (p, e)
  by (refuses m) g e = let z : ◌≡◌ {A = ℕ} 0 1 = cc in absurd (omega arith)

-- what strict reading accepts, lenient reads alike
after_alike : (rules : Rules) (s : List ℕ) (n : Numeral) → Alike (payload_after rules s n) (payload_after (leniently rules) s n)
unfolding payload_after
after_alike rules s n = pick_alike Alike (leb n.value (length n.rest)) refl (strictly_alike rules 11 (payload n.rest [] (padding_of s n)))

pub payload_alike : (rules : Rules) (s : List ℕ) → Alike (read_payload rules s) (read_payload (leniently rules) s)
unfolding read_payload
payload_alike rules s = then_alike (payload_after rules s) (payload_after (leniently rules) s) (read_number rules s) (read_number (leniently rules) s) (number_alike rules s) (after_alike rules s)
