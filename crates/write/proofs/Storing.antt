-- Stores one behind the other are one write of what they store.
use Rattle.std.specs.Prelude.{Result, Ok, Err}
use Rattle.base.specs.declared.Refusal.{Refusal}
use Rattle.number.specs.Varlen.{write_left}
use Rattle.smf.specs.Write.{number_bytes}
use Rattle.smf.proofs.Write.{number_bytes_lem}
use mathlib.Core.Path.{◌≡◌, sym, ap, ◌∙◌}
use mathlib.Core.List.{List, [], ◌∷◌, ◌++◌}
use Prim.Native.Nat.{ℕ, ◌+◌, ◌/◌, ◌≤◌, ◌<◌, ◌^◌}
use native.Mathlib.Nat.{add-zero, mod-eq_of_lt}
use native.Mathlib.Numerals.{add-one}
use native.Mathlib.Omega.{arith}
use lib.Dec.{eqb}
use lib.ListN.{length, take, drop, set, length-append, take-append-drop}
use lib.Seq.{set_split, take-set-le, drop-set-lt}
use Rattle.smf.specs.Answer.{Answer, gives}
use Rattle.smf.specs.Place.{Span, bytes_of}
use Rattle.smf.specs.Number.{encode_number}
use Rattle.smf.specs.Payload.{encode_payload}
use Rattle.smf.specs.Write.{Written, over, put, write, payload_bytes}
use Rattle.smf.proofs.Answer.{by_test}
use Rattle.smf.proofs.Number.{ahead_none}
use Rattle.smf.proofs.Write.{over_over, length_over, put_fits, part_bytes, part_length, payload_size}
use Rattle.write.specs.declared.raw.Channel.{Channel}
use Rattle.write.specs.Raw.{status_bytes, data_bytes}
use Rattle.write.specs.Raw.{load_length, Inside}
use Rattle.write.specs.Store.{Stored}

pub over_none : (s : List ℕ) (at : ℕ) → s ≡ over [] s at
over_none s at = sym (rw (add-zero at) (take-append-drop at s))

pub over_one : (s : List ℕ) (at b : ℕ) → at < length s → set s at b ≡ over (b ∷ []) s at
over_one s at b h = set_split s at b h ∙ rw (add-one at)

-- a byte, and then more behind it
pub over_cons : (s : List ℕ) (at b : ℕ) (bs : List ℕ) → at < length s → over bs (set s at b) (at + 1) ≡ over (b ∷ bs) s at
over_cons s at b bs h = ap (λ (l : List ℕ). over bs l (at + 1)) (over_one s at b h) ∙ over_over (b ∷ []) bs s at (omega arith)

-- a byte that more stands over
over_hidden : (s : List ℕ) (at b : ℕ) (bs : List ℕ) → at < length s → 0 < length bs → over bs (over (b ∷ []) s at) at ≡ over bs s at
over_hidden s at b bs h some =
    rw (← over_one s at b h, take-set-le at s at b (omega arith), drop-set-lt (at + length bs) s at b (omega arith))

-- a status, left out where it is the running status, and more behind it
pub over_status : (running status : ℕ) (bs s : List ℕ) (at : ℕ) → at < length s → 0 < length bs
    → over bs (over (status ∷ []) s at) (at + length (status_bytes running status)) ≡ over (status_bytes running status ++ bs) s at
over_status running status bs s at h some =
    by_test (eqb running status)
    (λ t. rw (t, add-zero at) (over_hidden s at status bs h some))
    (λ t. rw t (over_over (status ∷ []) bs s at (omega arith)))

-- a message has some data
pub data_some : (c : Channel) → 0 < length (data_bytes c)
data_some c = by_test c.pair (λ t. rw t (omega arith)) (λ t. rw t (omega arith))

-- bytes, and then more behind them
pub over_both : {s after : List ℕ} {at next : ℕ} {a : List ℕ} (b : List ℕ) → Stored s at a next after → at ≤ length s → over b after next ≡ over (a ++ b) s at
over_both {s} {after} {at} {next} {a} b d h = rw (d.place, d.buffer) (over_over a b s at h)

pub stored_length : {s after : List ℕ} {at next : ℕ} {a : List ℕ} → Stored s at a next after → at + length a ≤ length s → length after ≡ length s
stored_length {s} {after} {at} {next} {a} d h = ap length d.buffer ∙ length_over a s at h

-- a number below 80 is one byte
pub small_number : (v : ℕ) → v < 128 → encode_number v ≡ v ∷ []
unfolding encode_number
small_number v h = rw (ahead_none 3 (v / 128) (omega arith), mod-eq_of_lt h)

-- what is written where it fits says the place behind it
there : (r : Result ℕ Refusal) (end : List ℕ) (n : ℕ) → (write_left r end).answer ≡ gives n → r ≡ Ok n
there (Ok m) end n e = let w : m ≡ n = cc in ap Ok w
there (Err m) end n e = let z : ◌≡◌ {A = ℕ} 0 1 = cc in absurd (omega arith)

pub number_there : (v : ℕ) (s : List ℕ) (at : ℕ) (r : Result ℕ Refusal) (end : List ℕ) → v < 2 ^ 28 → at + length (encode_number v) ≤ length s
    → write_left r end ≡ write (number_bytes v) s at → r ≡ Ok (at + length (encode_number v))
number_there v s at r end f h e =
    there r end (at + length (encode_number v))
    (ap (λ (x : Written). x.answer) (e ∙ ap (λ (a : Answer (List ℕ)). write a s at) (number_bytes_lem v f) ∙ sym (put_fits (encode_number v) s at h)))

-- a payload that was written where it fits
pub payload_written : (bytes : List ℕ) (span : Span) (s : List ℕ) (at : ℕ) (w : Written) → Inside bytes span → at + load_length span.length ≤ length s
    → w ≡ write (payload_bytes bytes span.start span.length) s at → w.buffer ≡ over (encode_payload (bytes_of bytes span)) s at
unfolding bytes_of
payload_written bytes span s at w i h e =
    let p = take span.length (drop span.start bytes) in
    let l = payload_size p s at span.length (part_length bytes span i.within) in
    ap (λ (x : Written). x.buffer)
    (e ∙ ap (λ (a : Answer (List ℕ)). write a s at) (part_bytes bytes span.start span.length i.within i.short) ∙ sym (put_fits (encode_payload p) s at (omega arith)))

pub payload_there : (bytes : List ℕ) (span : Span) (s : List ℕ) (at : ℕ) (r : Result ℕ Refusal) (end : List ℕ) → Inside bytes span → at + load_length span.length ≤ length s
    → write_left r end ≡ write (payload_bytes bytes span.start span.length) s at → r ≡ Ok (at + load_length span.length)
unfolding bytes_of
payload_there bytes span s at r end i h e =
    let p = take span.length (drop span.start bytes) in
    let l = payload_size p s at span.length (part_length bytes span i.within) in
    there r end (at + load_length span.length)
    (ap (λ (x : Written). x.answer) (e ∙ ap (λ (a : Answer (List ℕ)). write a s at) (part_bytes bytes span.start span.length i.within i.short) ∙ sym (put_fits (encode_payload p) s at (omega arith))) ∙ ap (λ (n : ℕ). gives (at + n)) l)

-- two parts of what is to be written, where there is room for both
module _ (a b s : List ℕ) (at : ℕ) where
  pub first_room : at + length (a ++ b) ≤ length s → at + length a ≤ length s
  first_room h = omega (arith, length-append a b)

  module _ {next : ℕ} {after : List ℕ} (d : Stored s at a next after) (h : at + length (a ++ b) ≤ length s) where
    pub second_room : next + length b ≤ length after
    second_room = omega (arith, length-append a b, d.place, stored_length d (first_room h))

    pub both_put : (end : List ℕ) → end ≡ over b after next → put (a ++ b) s at ≡ record { buffer = end; answer = gives (at + length (a ++ b)) }
    both_put end e =
        sym (put_fits (a ++ b) s at h)
        ∙ ap (λ (l : List ℕ). record { buffer = l; answer = gives (at + length (a ++ b)) }) (sym (e ∙ over_both b d (omega arith)))
