-- How many keys sound: the counts of the channels in all are as many as the places that sound; and behind any of these the places that sound are those
-- that are left of them, so that silencing lists in turn name each of them once.
use mathlib.Core.Path.{◌≡◌, refl, sym, ap, ◌∙◌}
use mathlib.Core.List.{List, [], ◌∷◌, ◌++◌, map, sum, map-append}
use Prim.Native.Nat.{ℕ, zero, suc, ◌+◌, ◌*◌, ◌-◌, ◌≤◌, ◌<◌}
use native.Mathlib.Omega.{arith}
use native.Mathlib.Nat.{add-zero, zero-add, add-suc, suc-add}
use lib.Dec.{eqb}
use lib.ListN.{length, drop, get_or, length-map, length-take, length-drop, drop_of_length-le}
use lib.Seq.{ext_get_or, drop-cons, get_or-take}
use Rattle.smf.specs.Answer.{pick}
use Rattle.smf.proofs.Answer.{pick_test}
use Rattle.player.specs.Table.{channels, keys, Table, numbers_from, places, velocity_at}
use Rattle.player.specs.Sounding.{sounding_count, counts, sounding_of, sounding_from}
use Rattle.player.proofs.Tables.{Shaped, mapped, length_numbers}
use Rattle.player.proofs.Places.{velocity_at_lem}
use Rattle.player.proofs.Silencing.{silenced}

-- Behind a place that sounds

module _ (t : Table) (end : ℕ) where
  -- of places up to an end: what sounds behind each of them is what is left of them there
  abbrev Behind : List ℕ → Type 0
  Behind ps = (j : ℕ) → j < length ps → drop (suc j) ps ≡ sounding_of t (numbers_from (suc (get_or ps j 0)) (end - suc (get_or ps j 0)))

  behind_first : (i : ℕ) (ps : List ℕ) → ps ≡ sounding_of t (numbers_from (suc i) (end - suc i)) → Behind ps → Behind (i ∷ ps)
  behind_first i ps e more zero h = e
  behind_first i ps e more (suc j) h = more j (omega arith)

  behind_of : (i n : ℕ) → i + n ≡ end → Behind (sounding_of t (numbers_from i n))
  unfolding sounding_of numbers_from
  behind_of i zero e = λ j h. absurd (omega arith)
  behind_of i (suc n) e =
      let more : Behind (sounding_of t (numbers_from (suc i) n)) = behind_of (suc i) n (omega arith) in
      let left : n ≡ end - suc i = omega arith in
      pick_test Behind (eqb (velocity_at t i) 0) (λ z. more)
      (λ z. behind_first i (sounding_of t (numbers_from (suc i) n)) (ap (λ (m : ℕ). sounding_of t (numbers_from (suc i) m)) left) more)

-- what sounds behind the place of a given index is what is left of the places that sound
pub behind : (t : Table) (place j : ℕ) → place ≤ places → j < length (sounding_from t place)
    → drop (suc j) (sounding_from t place) ≡ sounding_from t (suc (get_or (sounding_from t place) j 0))
unfolding sounding_from
behind t place j h = behind_of t places place (places - place) (omega arith) j

-- Lists in turn

-- a list that names nothing: nothing sounds from there on
pub none_left : (most : ℕ) (t : Table) (place : ℕ) → 0 < most → length (silenced most t place) ≡ 0 → length (sounding_from t place) ≡ 0
none_left most t place some none = omega (arith, length-take most (sounding_from t place))

-- a list that names something, and what sounds behind the last place that it names
pub in_turn : (most : ℕ) (t : Table) (place last : ℕ) → place ≤ places → length (silenced most t place) ≡ suc last
    → length (sounding_from t place) ≡ suc last + length (sounding_from t (suc (get_or (silenced most t place) last 0)))
in_turn most t place last h e =
    let all = sounding_from t place in
    let many = length-take most all in
    let there : last < length all = omega arith in
    let own : last < most = omega arith in
    rw (get_or-take most all last 0 own, ← behind t place last h there, length-drop (suc last) all) (omega arith)

-- The counts

-- of some places that sound as many as entries there that do
sounding_length : (t : Table) (ps : List ℕ) → length (sounding_of t ps) ≡ sounding_count (map (velocity_at t) ps)
unfolding sounding_of sounding_count
sounding_length t [] = refl
sounding_length t (p ∷ ps) =
    pick_test (λ (qs : List ℕ). length qs ≡ pick (eqb (velocity_at t p) 0) 0 1 + sounding_count (map (velocity_at t) ps)) (eqb (velocity_at t p) 0)
    (λ z. rw (z, zero-add) (sounding_length t ps))
    (λ z. rw z (omega (arith, sounding_length t ps)))

count_append : (xs ys : List ℕ) → sounding_count (xs ++ ys) ≡ sounding_count xs + sounding_count ys
unfolding sounding_count
count_append [] ys = sym (zero-add (sounding_count ys))
count_append (x ∷ xs) ys = omega (arith, count_append xs ys)

numbers_append : (i m n : ℕ) → numbers_from i (m + n) ≡ numbers_from i m ++ numbers_from (i + m) n
unfolding numbers_from
numbers_append i zero n = rw (zero-add, add-zero)
numbers_append i (suc m) n = rw (suc-add, add-suc, ← suc-add) (ap (λ (l : List ℕ). i ∷ l) (numbers_append (suc i) m n))

no_numbers : (i : ℕ) → numbers_from i 0 ≡ []
unfolding numbers_from
no_numbers i = refl

module _ {t : Table} (h : Shaped t) where
  -- the entries at the places of a channel are its row
  row_velocities : (c : ℕ) → c < channels → map (velocity_at t) (numbers_from (c * keys) keys) ≡ get_or t c []
  row_velocities c hc =
      let own = map (velocity_at t) (numbers_from (c * keys) keys) in
      let long : length own ≡ keys = length-map (numbers_from (c * keys) keys) (velocity_at t) ∙ length_numbers (c * keys) keys in
      ext_get_or 0 own (get_or t c []) (long ∙ sym (h.row c hc))
      (λ k hk.
      let key : k < keys = rw long at hk in
      mapped (velocity_at t) (c * keys) keys k 0 key ∙ velocity_at_lem t c k key)

  -- from a channel on
  counts_from : (m c : ℕ) → c + m ≡ channels → sounding_count (map (velocity_at t) (numbers_from (c * keys) (m * keys))) ≡ sum ◌+◌ 0 (map sounding_count (drop c t))
  unfolding sum sounding_count
  counts_from zero c e = rw (no_numbers (c * keys), drop_of_length-le t {i = c} (omega (arith, h.rows)))
  counts_from (suc m) c e =
      let long : suc m * keys ≡ keys + m * keys = omega arith in
      let next : c * keys + keys ≡ suc c * keys = omega arith in
      let split : numbers_from (c * keys) (suc m * keys) ≡ numbers_from (c * keys) keys ++ numbers_from (suc c * keys) (m * keys) = rw long (rw numbers_append (rw next refl)) in
      let there : c < length t = omega (arith, h.rows) in
      rw (split, map-append (velocity_at t) (numbers_from (c * keys) keys), count_append, row_velocities c (omega arith), drop-cons t c [] there)
      (ap (λ (n : ℕ). sounding_count (get_or t c []) + n) (counts_from m (suc c) (omega arith)))

  -- the counts of the channels in all are as many as the places that sound
  pub counts_sum : sum ◌+◌ 0 (counts t) ≡ length (sounding_from t 0)
  unfolding counts sounding_from
  counts_sum = sym (sounding_length t (numbers_from 0 places) ∙ counts_from channels 0 refl)
