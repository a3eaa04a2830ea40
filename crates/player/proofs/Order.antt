-- The places that sound, one by one: they sound, they rise from the first place asked for, none is left out, and the first so many of them are those
-- before the others.
use mathlib.Core.Path.{◌≡◌, refl, ap}
use mathlib.Core.List.Memᴰ
use mathlib.Core.List.{List, [], ◌∷◌, Memᴰ}
use mathlib.Core.Logic.{◌⊎◌, inl, inr, ⊎_elim}
use Prim.Native.Nat.{ℕ, zero, suc, ◌-◌, ◌≤◌, ◌<◌}
use native.Mathlib.Omega.{arith}
use borrow.Author.Tests.{eqb-false}
use lib.Dec.{eqb}
use lib.ListN.{length, take}
use Rattle.smf.proofs.Answer.{pick_test}
use Rattle.player.specs.Table.{Table, numbers_from, places, velocity_at}
use Rattle.player.specs.Sounding.{sounding_of, sounding_from}
use Rattle.player.proofs.Silencing.{silenced, sounds_among}

-- places that rise, the first of them not below a given one
abbrev pub Rising : ℕ → List ℕ → Type 0
Rising low [] = Unit {0}
Rising low (p ∷ ps) = (low ≤ p) × Rising (suc p) ps

rising_from : (low low' : ℕ) (ps : List ℕ) → low ≤ low' → Rising low' ps → Rising low ps
rising_from low low' [] h r = tt
rising_from low low' (p ∷ ps) h r = (omega (arith, r.0), r.1)

rising_of : (t : Table) (i n : ℕ) → Rising i (sounding_of t (numbers_from i n))
unfolding sounding_of numbers_from
rising_of t i zero = tt
rising_of t i (suc n) =
    let more = rising_of t (suc i) n in
    pick_test (Rising i) (eqb (velocity_at t i) 0) (λ z. rising_from i (suc i) (sounding_of t (numbers_from (suc i) n)) (omega arith) more) (λ z. (omega arith, more))

rising_take : (low n : ℕ) (ps : List ℕ) → Rising low ps → Rising low (take n ps)
rising_take low zero ps r = tt
rising_take low (suc n) [] r = tt
rising_take low (suc n) (p ∷ ps) r = (r.0, rising_take (suc p) n ps r.1)

pub rising_silenced : (most : ℕ) (t : Table) (place : ℕ) → Rising place (silenced most t place)
unfolding sounding_from
rising_silenced most t place = rising_take place most (sounding_from t place) (rising_of t place (places - place))

pub rising_above : (low : ℕ) (ps : List ℕ) (p : ℕ) → Rising low ps → Memᴰ p ps → low ≤ p
rising_above low [] p r m = absurd (Memᴰ.not-nil m)
rising_above low (q ∷ ps) p r m =
    ⊎_elim (λ (e : p ≡ q). omega (arith, r.0)) (λ (later : Memᴰ p ps). omega (arith, r.0, rising_above (suc q) ps p r.1 later)) (Memᴰ.cases_cons m)

-- each of them sounds
sounds_of : (t : Table) (ps : List ℕ) (p : ℕ) → Memᴰ p (sounding_of t ps) → velocity_at t p ≡ 0 → ⊥
unfolding sounding_of
sounds_of t [] p = λ m. absurd (Memᴰ.not-nil m)
sounds_of t (q ∷ ps) p =
    pick_test (λ (l : List ℕ). Memᴰ p l → velocity_at t p ≡ 0 → ⊥) (eqb (velocity_at t q) 0)
    (λ z. sounds_of t ps p)
    (λ z m. ⊎_elim (λ (e : p ≡ q). rw e (eqb-false (velocity_at t q) 0 z)) (λ (later : Memᴰ p (sounding_of t ps)). sounds_of t ps p later) (Memᴰ.cases_cons m))

mem_take : (n : ℕ) (ps : List ℕ) (p : ℕ) → Memᴰ p (take n ps) → Memᴰ p ps
mem_take zero ps p m = absurd (Memᴰ.not-nil m)
mem_take (suc n) [] p m = m
mem_take (suc n) (q ∷ ps) p m =
    ⊎_elim (λ (e : p ≡ q). Memᴰ.head e) (λ (later : Memᴰ p (take n ps)). Memᴰ.tail (mem_take n ps p later)) (Memᴰ.cases_cons m)

pub silenced_sounds : (most : ℕ) (t : Table) (place p : ℕ) → Memᴰ p (silenced most t place) → velocity_at t p ≡ 0 → ⊥
unfolding sounding_from
silenced_sounds most t place p m = sounds_of t (numbers_from place (places - place)) p (mem_take most (sounding_from t place) p m)

-- the first so many of rising places: any of them is among those, or these are all so many, and before it
abbrev Before : ℕ → List ℕ → ℕ → Type 0
Before n ps p = (length (take n ps) ≡ n) × ((q : ℕ) → Memᴰ q (take n ps) → q < p)

first_of : (low n : ℕ) (ps : List ℕ) (p : ℕ) → Rising low ps → Memᴰ p ps → Memᴰ p (take n ps) ⊎ Before n ps p
first_of low zero ps p r m = inr (refl, λ q none. absurd (Memᴰ.not-nil none))
first_of low (suc n) [] p r m = absurd (Memᴰ.not-nil m)
first_of low (suc n) (x ∷ ps) p r m =
    ⊎_elim
    (λ (e : p ≡ x). inl (Memᴰ.head e))
    (λ (later : Memᴰ p ps).
    ⊎_elim
    (λ (there : Memᴰ p (take n ps)). inl (Memᴰ.tail there))
    (λ (full : Before n ps p).
    inr (
      ap suc full.0,
      λ q named. ⊎_elim (λ (e : q ≡ x). omega (arith, rising_above (suc x) ps p r.1 later)) (λ (l : Memᴰ q (take n ps)). full.1 q l) (Memᴰ.cases_cons named),
    ))
    (first_of (suc x) n ps p r.1 later))
    (Memᴰ.cases_cons m)

pub silenced_first : (most : ℕ) (t : Table) (place p : ℕ) → place ≤ p → p < places → (velocity_at t p ≡ 0 → ⊥)
    → Memᴰ p (silenced most t place) ⊎ ((length (silenced most t place) ≡ most) × ((q : ℕ) → Memᴰ q (silenced most t place) → q < p))
unfolding sounding_from
silenced_first most t place p h h' s =
    first_of place most (sounding_from t place) p (rising_of t place (places - place)) (sounds_among t place (places - place) p h (omega arith) s)
