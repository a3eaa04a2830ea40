-- Payloads that are there: how long they are with their number.
use Rattle.std.specs.Prelude.{Err, Ok, Result, ⊤}
use mathlib.Core.Path.{◌≡◌, refl, sym, ap, ◌∙◌}
use mathlib.Core.Bool.{Bool, true, false, ◌&&◌}
use mathlib.Core.List.{List, []}
use Prim.Native.Nat.{ℕ, ◌+◌, ◌^◌, ◌≤◌, ◌<◌}
use native.Mathlib.Omega.{arith}
use lib.Dec.{leb, ltb}
use lib.ListN.{length}
use lib.Seq.{length-take-le}
use borrow.Author.Tests.{leb-true, ltb-true, le-leb, lt-leb, lt-ltb, le-ltb}
use Rattle.smf.specs.Answer.{pick, gives, refuses}
use Rattle.smf.specs.Place.{Span, inside, bytes_of}
use Rattle.smf.specs.Payload.{encode_payload}
use Rattle.smf.proofs.Answer.{both}
use Rattle.smf.proofs.Write.{payload_size, part_length}
use Rattle.base.specs.Refusal.{number_of}
use Rattle.base.specs.declared.Refusal.{Refusal}
use Rattle.write.specs.Raw.{lent, is_lent, own_list, own_bytes, load_length, looked_said, Inside}
use Rattle.write.specs.declared.raw.Own.{Own}

module _ (bytes : List ℕ) (span : Span) where
  pub lent_inside : is_lent bytes span ≡ true → Inside bytes span
  unfolding is_lent inside
  lent_inside e =
      let p = both (leb (span.start + span.length) (length bytes)) (ltb span.length (2 ^ 28)) e in
      record { within = leb-true _ _ p.0; short = ltb-true _ _ p.1 }

  pub load_length_lem : Inside bytes span → length (encode_payload (bytes_of bytes span)) ≡ load_length span.length
  load_length_lem h = payload_size (bytes_of bytes span) [] 0 span.length (part_length bytes span h.within)

  -- by the three tests
  pub lent_outside : {A : Type 0} (x : A) → length bytes < span.start + span.length → lent bytes span x ≡ refuses 19
  unfolding lent inside
  lent_outside x h = rw (lt-leb _ _ h)

  pub lent_long : {A : Type 0} (x : A) → span.start + span.length ≤ length bytes → 2 ^ 28 ≤ span.length → lent bytes span x ≡ refuses 22
  unfolding lent inside
  lent_long x h g = rw (le-leb _ _ h, le-ltb _ _ g)

  pub lent_there : {A : Type 0} (x : A) → span.start + span.length ≤ length bytes → span.length < 2 ^ 28 → lent bytes span x ≡ gives x
  unfolding lent inside
  lent_there x h g = rw (le-leb _ _ h, lt-ltb _ _ g)

  -- what was looked at, says the same of whatever has the payload
  module _ (r : Result ⊤ Refusal) (says : looked_said r ≡ lent bytes span tt) where
    pub looked_refused : {A : Type 0} (x : A) (n : Refusal) → r ≡ Err n → lent bytes span x ≡ refuses (number_of n)
    unfolding lent
    looked_refused x n e = by (inside bytes span) (ltb span.length (2 ^ 28)) (sym (ap looked_said e) ∙ says) where
      by : (s t : Bool) → refuses (number_of n) ≡ pick s (pick t (gives (tt {0})) (refuses 22)) (refuses 19) → pick s (pick t (gives x) (refuses 22)) (refuses 19) ≡ refuses (number_of n)
      by true true k = cc
      by true false k = sym (cc)
      by false t k = sym (cc)

    pub looked_there : {A : Type 0} (x : A) → r ≡ (Ok _) → (lent bytes span x ≡ gives x) × (is_lent bytes span ≡ true)
    unfolding lent is_lent
    looked_there x e = by (inside bytes span) (ltb span.length (2 ^ 28)) (sym (ap looked_said e) ∙ says) where
      by : (s t : Bool) → gives (tt {0}) ≡ pick s (pick t (gives (tt {0})) (refuses 22)) (refuses 19) → (pick s (pick t (gives x) (refuses 22)) (refuses 19) ≡ gives x) × ((s && t) ≡ true)
      by true true k = (refl, refl)
      by true false k = let z : ◌≡◌ {A = ℕ} 0 1 = cc in absurd (omega arith)
      by false t k = let z : ◌≡◌ {A = ℕ} 0 1 = cc in absurd (omega arith)

-- no more than the bytes of its own that there are
pub own_length : (own : Own) → own.n ≤ length own.bytes → length (encode_payload (own_bytes own)) ≡ load_length own.n
own_length own h = payload_size (own_bytes own) [] 0 own.n (length-take-le own.n (own_list own) h)
