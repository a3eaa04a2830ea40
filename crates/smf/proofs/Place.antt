-- From a place to what is left there, and back.
use mathlib.Core.Path.{◌≡◌, refl, sym, ap, ◌∙◌, subst}
use mathlib.Core.Bool.{true, false}
use mathlib.Core.List.{List, []}
use Prim.Native.Nat.{ℕ, ◌+◌, ◌-◌, ◌^◌, ◌≤◌, ◌<◌}
use native.Mathlib.Omega.{arith}
use lib.ListN.{length, take, drop, length-drop}
use lib.Seq.{drop-drop, length-take-le}
use borrow.Author.Tests.{le-leb, lt-leb}
use Rattle.smf.specs.Answer.{Answer, gives, refuses, and_then, Rules, strictly}
use Rattle.smf.specs.Number.{encode_number, Numeral, numeral, read_number, padding_of}
use Rattle.smf.specs.Payload.{payload, payload_after, read_payload}
use Rattle.smf.specs.Place.{place_of, NumberAt, number_placed, number_at, payload_at}
use Rattle.smf.proofs.Answer.{said_of}
use Rattle.smf.proofs.Number.{NumberTook, read_took}

-- p is the place of what is left from p on: at, or one that was reached from there within the bytes
abbrev pub Sited : List ℕ → ℕ → ℕ → Type 0
Sited s at p = place_of s at (drop p s) ≡ p

pub site_begun : (s : List ℕ) (at : ℕ) → Sited s at at
site_begun s at = omega arith

pub site_next : (s : List ℕ) (at p : ℕ) → p < length s → Sited s at p → Sited s at (p + 1)
site_next s at p h e = omega (arith, length-drop at s, length-drop p s, length-drop (p + 1) s)

-- where a place is sited
pub site_bounds : (s : List ℕ) (at p : ℕ) → Sited s at p → at ≤ p
site_bounds s at p e = omega arith

-- what the reading of a number says at a place

module _ (rules : Rules) (s : List ℕ) (at : ℕ) where
  pub number_placed_lem : {v p : ℕ} → read_number rules (drop at s) ≡ gives (numeral v (drop p s)) → Sited s at p
      → number_at rules s at ≡ gives (record { value = v; next = p; padding = p - at - length (encode_number v) })
  unfolding number_at
  number_placed_lem {v} {p} e site =
      let used : length (drop at s) - length (drop p s) ≡ p - at = omega arith in
      let there : at + (p - at) ≡ p = omega arith in
      rw (e, used, there)

  pub number_refused : {n : ℕ} → read_number rules (drop at s) ≡ refuses n → number_at rules s at ≡ refuses n
  unfolding number_at
  number_refused e = rw e

-- and what is known of a number that was read at a place
pub record Reached (rules : Rules) (s : List ℕ) (at : ℕ) (n : NumberAt) : Type 0 where
  pub read : read_number rules (drop at s) ≡ gives (numeral n.value (drop n.next s))
  pub site : Sited s at n.next
  pub small : n.value < 2 ^ 28
  pub most : n.next ≤ at + 4
  pub padded : n.padding ≡ padding_of (drop at s) (numeral n.value (drop n.next s))

abbrev pub NumberReached : Rules → List ℕ → ℕ → Answer NumberAt → Type 0
NumberReached rules s at (gives n) = Reached rules s at n
NumberReached rules s at (refuses m) = read_number rules (drop at s) ≡ refuses m

pub number_reached : (rules : Rules) (s : List ℕ) (at : ℕ) → NumberReached rules s at (number_at rules s at)
unfolding number_at
number_reached rules s at = by (read_number rules (drop at s)) refl (read_took rules (drop at s)) where
  by : (a : Answer Numeral) → read_number rules (drop at s) ≡ a → NumberTook rules (drop at s) a
      → NumberReached rules s at (and_then a (λ (n : Numeral). gives (number_placed s at n)))
  by (refuses m) e t = e
  by (gives n) e t =
      let r : n.rest ≡ drop (place_of s at n.rest) s = t.tail ∙ drop-drop (length (drop at s) - length n.rest) at s in
      record {
        read = e ∙ ap (λ (l : List ℕ). gives (numeral n.value l)) r;
        site = ap (place_of s at) (sym r);
        small = t.small;
        most = omega (arith, t.most);
        padded = ap (λ (l : List ℕ). padding_of (drop at s) (numeral n.value l)) r;
      }

-- what the reading of a payload says at a place, by the number that it begins with

pub payload_refused : (rules : Rules) (s : List ℕ) (at : ℕ) {m : ℕ} → number_at rules s at ≡ refuses m → payload_at rules s at ≡ refuses m
unfolding payload_at read_payload
payload_refused rules s at {m} e =
    let r : read_number rules (drop at s) ≡ refuses m = subst (NumberReached rules s at) e (number_reached rules s at) in
    rw r

module _ (rules : Rules) (s : List ℕ) (at : ℕ) (n : NumberAt) (e : number_at rules s at ≡ gives n) where
  reached : Reached rules s at n
  reached = said_of (NumberReached rules s at) (number_reached rules s at) e

  pub payload_whole : n.value ≤ length s - n.next → payload_at rules s at ≡ gives (record { span = record { start = n.next; length = n.value }; padding = n.padding })
  unfolding payload_at read_payload payload_after
  payload_whole h =
      let r = reached in
      let d = length-drop n.next s in
      let l : length (take n.value (drop n.next s)) ≡ n.value = length-take-le n.value (drop n.next s) (omega arith) in
      let p : place_of s at (drop n.value (drop n.next s)) - n.value ≡ n.next =
      omega (arith, r.site, length-drop at s, length-drop n.value (drop n.next s))
      in
      rw (r.read, le-leb n.value (length (drop n.next s)) (omega arith), l, ← r.padded) (ap (λ (q : ℕ). gives (record { span = record { start = q; length = n.value }; padding = n.padding })) p)

  cut : length s - n.next < n.value → read_payload rules (drop at s) ≡ strictly rules 11 (payload (drop n.next s) [] n.padding)
  unfolding read_payload payload_after
  cut h = let d = length-drop n.next s in rw (reached.read, lt-leb n.value (length (drop n.next s)) (omega arith), ← reached.padded)

  pub payload_cut_strict : length s - n.next < n.value → rules.strict ≡ true → payload_at rules s at ≡ refuses 11
  unfolding payload_at
  payload_cut_strict h t = rw (cut h, t)

  pub payload_cut_lenient : length s - n.next < n.value → rules.strict ≡ false
      → payload_at rules s at ≡ gives (record { span = record { start = n.next; length = length s - n.next }; padding = n.padding })
  unfolding payload_at
  payload_cut_lenient h t =
      let r = reached in
      let p : place_of s at [] - (length s - n.next) ≡ n.next = omega (arith, r.site, length-drop at s, length-drop n.next s) in
      rw (cut h, t, length-drop n.next s) (ap (λ (q : ℕ). gives (record { span = record { start = q; length = length s - n.next }; padding = n.padding })) p)
