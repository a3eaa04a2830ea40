-- How many entries sound, counted one by one.
use mathlib.Core.Path.{◌≡◌, sym, ap, ◌∙◌}
use mathlib.Core.Bool.{true, false, not}
use mathlib.Core.List.{List, ◌∷◌}
use Prim.Native.Nat.{ℕ, ◌+◌, ◌≤◌, ◌<◌}
use native.Mathlib.Numerals.{add-one}
use native.Mathlib.Omega.{arith}
use borrow.Author.Tests.{eq-eqb, ne_eqb, eqb-true, eqb-false, not-true, not-false}
use lib.Dec.{eqb}
use lib.ListN.{length, get_or, drop, drop_of_length-le}
use lib.Seq.{drop-cons}
use Rattle.smf.specs.Answer.{pick}
use Rattle.player.specs.Sounding.{sounding_count}

-- what the test of an entry tells
pub is_sounding : (v : ℕ) → not (eqb v 0) ≡ true → v ≡ 0 → ⊥
is_sounding v h = eqb-false v 0 (not-true (eqb v 0) h)

pub is_silent : (v : ℕ) → not (eqb v 0) ≡ false → v ≡ 0
is_silent v h = eqb-true v 0 (not-false (eqb v 0) h)

module _ (vs : List ℕ) where
  -- of the entries from a key on some were counted in front of it
  pub record Counted (n key : ℕ) : Type 0 where
    pub within : key ≤ length vs
    pub few : n ≤ key
    pub left : n + sounding_count (drop key vs) ≡ sounding_count vs

  module _ {n key : ℕ} (c : Counted n key) where
    pub counted_all : length vs ≤ key → n ≡ sounding_count vs
    unfolding sounding_count
    counted_all last = omega (arith, c.left, ap sounding_count (drop_of_length-le vs {i = key} last))

    module _ (more : key < length vs) where
      ahead : sounding_count (drop key vs) ≡ pick (eqb (get_or vs key 0) 0) 0 1 + sounding_count (drop (key + 1) vs)
      unfolding sounding_count
      ahead = ap sounding_count (drop-cons vs key 0 more ∙ ap (λ (k : ℕ). get_or vs key 0 ∷ drop k vs) (sym (add-one key)))

      pub counted_silent : get_or vs key 0 ≡ 0 → Counted n (key + 1)
      counted_silent silent =
          record { within = omega arith; few = omega (arith, c.few); left = omega (arith, c.left, rw (eq-eqb (get_or vs key 0) 0 silent) at ahead) }

      pub counted_sounding : (get_or vs key 0 ≡ 0 → ⊥) → Counted (n + 1) (key + 1)
      counted_sounding sounds =
          record { within = omega arith; few = omega (arith, c.few); left = omega (arith, c.left, rw (ne_eqb (get_or vs key 0) 0 sounds) at ahead) }
