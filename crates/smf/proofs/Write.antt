-- The laws of writing: where there is room and where there is none; two writes in a row are one.
use mathlib.Core.Path.{◌≡◌, sym, ap, ◌∙◌}
use mathlib.Core.Bool.{true, false}
use mathlib.Core.List.{List, ◌++◌, append_assoc}
use Prim.Native.Nat.{ℕ, ◌+◌, ◌^◌, ◌≤◌, ◌<◌}
use native.Mathlib.Omega.{arith}
use lib.ListN.{length, take, drop, length-append, length-take, length-drop}
use lib.Seq.{take_at, drop-drop, drop-append-add, length-take-le}
use borrow.Author.Tests.{leb-true, leb-false, le-leb, lt-leb, lt-ltb, le-ltb}
use Rattle.smf.specs.Answer.{Answer, gives, refuses}
use Rattle.smf.specs.Width.{try_width}
use Rattle.smf.specs.Number.{encode_number}
use Rattle.smf.specs.Payload.{encode_payload}
use Rattle.smf.specs.Place.{Span, inside, bytes_of}
use Rattle.smf.specs.Write.{Written, over, left, put, write, number_bytes, part, load_bytes, payload_bytes}

module _ (bs s : List ℕ) (at : ℕ) where
  pub put_fits : at + length bs ≤ length s → record { buffer = over bs s at; answer = gives (at + length bs) } ≡ put bs s at
  unfolding put
  put_fits h = rw (le-leb _ _ h)

  pub put_full : length s < at + length bs → left s 20 ≡ put bs s at
  unfolding put
  put_full h = rw (lt-leb _ _ h)

  pub length_over : at + length bs ≤ length s → length (over bs s at) ≡ length s
  length_over h = simp (length-append, length-take, length-drop) (omega arith)

-- two writes, one behind the other, are one write
pub over_over : (a b s : List ℕ) (at : ℕ) → at ≤ length s → over b (over a s at) (at + length a) ≡ over (a ++ b) s at
over_over a b s at h =
    let l : length (take at s ++ a) ≡ at + length a = rw (length-append, length-take-le at s h) in
    let t : take (at + length a) (over a s at) ≡ take at s ++ a = ap (take (at + length a)) (sym (append_assoc (take at s) a _)) ∙ take_at (take at s ++ a) _ _ l in
    let n : at + length a + length b ≡ at + length (a ++ b) = omega (arith, length-append a b) in
    let d : drop (at + length a + length b) (over a s at) ≡ drop (at + length (a ++ b)) s =
    ap (drop (at + length a + length b)) (sym (append_assoc (take at s) a _))
    ∙ ap (λ (n : ℕ). drop (n + length b) ((take at s ++ a) ++ drop (at + length a) s)) (sym l)
    ∙ drop-append-add (take at s ++ a) (drop (at + length a) s) (length b)
    ∙ drop-drop (length b) (at + length a) s
    ∙ ap (λ (m : ℕ). drop m s) n
    in
    rw (t, d) (simp append_assoc)

pub number_bytes_wide : (v : ℕ) → 2 ^ 28 ≤ v → number_bytes v ≡ refuses 18
unfolding number_bytes try_width
number_bytes_wide v h = rw (le-ltb v (2 ^ 28) h)

pub number_bytes_lem : (v : ℕ) → v < 2 ^ 28 → number_bytes v ≡ gives (encode_number v)
unfolding number_bytes try_width
number_bytes_lem v h = rw (lt-ltb v (2 ^ 28) h)

-- what it is for a range to be inside the bytes, or not
pub inside_within : (bytes : List ℕ) (span : Span) → inside bytes span ≡ true → span.start + span.length ≤ length bytes
unfolding inside
inside_within bytes span e = leb-true _ _ e

pub inside_beyond : (bytes : List ℕ) (span : Span) → inside bytes span ≡ false → length bytes < span.start + span.length
unfolding inside
inside_beyond bytes span e = leb-false _ _ e

-- a range that is inside has its length
pub part_length : (bytes : List ℕ) (span : Span) → span.start + span.length ≤ length bytes → length (bytes_of bytes span) ≡ span.length
unfolding bytes_of
part_length bytes span h = length-take-le span.length (drop span.start bytes) (omega (arith, length-drop span.start bytes))

-- a range's bytes, written as they stand
module _ (bytes : List ℕ) (span : Span) (s : List ℕ) (at : ℕ) where
  pub slice_outside : inside bytes span ≡ false → left s 19 ≡ write (part bytes span) s at
  unfolding part
  slice_outside e = rw e

  module _ (is : inside bytes span ≡ true) where
    pub slice_long : length (bytes_of bytes span) ≡ span.length
    slice_long = part_length bytes span (inside_within bytes span is)

    pub slice_full : length s < at + span.length → left s 20 ≡ write (part bytes span) s at
    unfolding part
    slice_full h = rw is (put_full (bytes_of bytes span) s at (omega (arith, slice_long)))

    pub slice_fits : at + span.length ≤ length s → (end : List ℕ) → end ≡ over (bytes_of bytes span) s at
        → record { buffer = end; answer = gives (at + span.length) } ≡ write (part bytes span) s at
    unfolding part
    slice_fits h end e =
        rw (is, e) (ap (λ (n : ℕ). record { buffer = over (bytes_of bytes span) s at; answer = gives (at + n) }) (sym slice_long)
        ∙ put_fits (bytes_of bytes span) s at (omega (arith, slice_long)))

module _ (bytes : List ℕ) (start n : ℕ) where
  pub part_outside : length bytes < start + n → payload_bytes bytes start n ≡ refuses 19
  unfolding payload_bytes part inside
  part_outside h = rw (lt-leb _ _ h)

  pub part_long : start + n ≤ length bytes → 2 ^ 28 ≤ n → payload_bytes bytes start n ≡ refuses 22
  unfolding payload_bytes part load_bytes inside bytes_of
  part_long h g = let l : length (take n (drop start bytes)) ≡ n = length-take-le n (drop start bytes) (omega (arith, length-drop start bytes)) in
      rw (le-leb _ _ h, l, le-ltb _ _ g)

  pub part_bytes : start + n ≤ length bytes → n < 2 ^ 28 → payload_bytes bytes start n ≡ gives (encode_payload (take n (drop start bytes)))
  unfolding payload_bytes part load_bytes inside bytes_of
  part_bytes h g = let l : length (take n (drop start bytes)) ≡ n = length-take-le n (drop start bytes) (omega (arith, length-drop start bytes)) in
      rw (le-leb _ _ h, lt-ltb (length (take n (drop start bytes))) (2 ^ 28) (omega arith))

-- a number that was written where it fits
pub number_put : (v : ℕ) (s : List ℕ) (at : ℕ) (w : Written) → v < 2 ^ 28 → at + length (encode_number v) ≤ length s
    → w ≡ write (number_bytes v) s at → w.buffer ≡ over (encode_number v) s at
number_put v s at w f h e =
    ap (λ (x : Written). x.buffer) (e ∙ ap (λ (a : Answer (List ℕ)). write a s at) (number_bytes_lem v f) ∙ sym (put_fits (encode_number v) s at h))

-- a payload's bytes: its number's, and behind them its own
module _ (p s : List ℕ) (at n : ℕ) (len : length p ≡ n) where
  pub payload_size : length (encode_payload p) ≡ length (encode_number n) + n
  unfolding encode_payload
  payload_size = length-append (encode_number (length p)) p ∙ rw len

  pub payload_put : (l m : List ℕ) (q : ℕ) → at ≤ length s → l ≡ over (encode_number n) s at → m ≡ over p l q → q ≡ at + length (encode_number n) → m ≡ over (encode_payload p) s at
  unfolding encode_payload
  payload_put l m q h e f place =
      f ∙ rw place (ap (λ (x : List ℕ). over p x (at + length (encode_number n))) e ∙ over_over (encode_number n) p s at h ∙ rw len)
