-- What the loop that compares two lists keeps: the events so far agree.
use mathlib.Core.Path.{◌≡◌, refl, sym, ap, ap₂, ◌∙◌}
use mathlib.Core.List.{List, [], ◌∷◌, map}
use Prim.Native.Nat.{ℕ, zero, suc, ◌+◌, ◌≤◌, ◌<◌}
use native.Mathlib.Omega.{arith}
use native.Mathlib.Numerals.{add-one}
use lib.ListN.{length, take, get_or, length-map, get_or-map}
use lib.Seq.{take_all}
use Rattle.smf.specs.Place.{bytes_of}
use Rattle.smf.specs.Event.{Event, map_event, Same}
use Rattle.smf.specs.Lists.{listed, Counted, SameList}
use Rattle.track.specs.List.{record_of}
use Rattle.track.specs.declared.list.Record.{Record}
use Rattle.track.proofs.Held.{past}

-- the elements at one place of two lists whose first so many agree
module _ {A B : Type 0} (f g : A → B) (d : A) where
  agree_more : (i : ℕ) (xs ys : List A) → i < length xs → i < length ys → map f (take i xs) ≡ map g (take i ys) → f (get_or xs i d) ≡ g (get_or ys i d)
      → map f (take (suc i) xs) ≡ map g (take (suc i) ys)
  agree_more zero [] ys p q h e = absurd (omega arith)
  agree_more zero (x ∷ xs) [] p q h e = absurd (omega arith)
  agree_more zero (x ∷ xs) (y ∷ ys) p q h e = ap (λ (b : B). b ∷ []) e
  agree_more (suc i) [] ys p q h e = absurd (omega arith)
  agree_more (suc i) (x ∷ xs) [] p q h e = absurd (omega arith)
  agree_more (suc i) (x ∷ xs) (y ∷ ys) p q h e =
      let head : f x ≡ g y = cc in
      let tail : map f (take i xs) ≡ map g (take i ys) = cc in
      ap₂ (λ (b : B) (l : List B). b ∷ l) head (agree_more i xs ys (omega arith) (omega arith) tail e)

  agree_there : (m i : ℕ) (xs ys : List A) → i < m → i < length xs → i < length ys → map f (take m xs) ≡ map g (take m ys) → f (get_or xs i d) ≡ g (get_or ys i d)
  agree_there zero i xs ys r p q h = absurd (omega arith)
  agree_there (suc m) zero [] ys r p q h = absurd (omega arith)
  agree_there (suc m) zero (x ∷ xs) [] r p q h = absurd (omega arith)
  agree_there (suc m) zero (x ∷ xs) (y ∷ ys) r p q h = cc
  agree_there (suc m) (suc i) [] ys r p q h = absurd (omega arith)
  agree_there (suc m) (suc i) (x ∷ xs) [] r p q h = absurd (omega arith)
  agree_there (suc m) (suc i) (x ∷ xs) (y ∷ ys) r p q h =
      let tail : map f (take m xs) ≡ map g (take m ys) = cc in agree_there m i xs ys (omega arith) (omega arith) (omega arith) tail

module _ (s : List ℕ) (xs : List Record) (t : List ℕ) (ys : List Record) where
  -- the first so many agree
  abbrev pub Agree : ℕ → Type 0
  Agree i = listed s (map record_of xs) i ≡ listed t (map record_of ys) i

  abbrev SameCounted : ℕ → ℕ → Type 0
  SameCounted m n = SameList s (map record_of xs) m t (map record_of ys) n

  pub agree_first : Agree 0
  agree_first = refl

  pub counts_differ : {m n : ℕ} → (n ≡ m → ⊥) → SameCounted m n → ⊥
  counts_differ differ same = differ (sym (ap (λ (c : Counted). c.count) same))

  pub all_agree : {m n i : ℕ} → n ≡ m → i ≡ m → Agree i → SameCounted m n
  all_agree {m} {n} {i} e f agree = rw (e, ← f) (ap (λ (es : List (Event (List ℕ))). record { count = i; events = es }) agree)

  -- as many as are held, where the count is above that
  pub held_agree : {m n i : ℕ} → n ≡ m → length xs ≤ i → length ys ≤ i → i ≤ m → Agree i → SameCounted m n
  held_agree {m} {n} {i} e p q r agree =
      let es = map record_of xs in
      let fs = map record_of ys in
      let a : take m es ≡ take i es = take_all m es (omega (arith, length-map xs record_of)) ∙ sym (take_all i es (omega (arith, length-map xs record_of))) in
      let b : take m fs ≡ take i fs = take_all m fs (omega (arith, length-map ys record_of)) ∙ sym (take_all i fs (omega (arith, length-map ys record_of))) in
      rw (e, a, b) (ap (λ (l : List (Event (List ℕ))). record { count = m; events = l }) agree)

  module _ (i : ℕ) (p : i < length xs) (q : i < length ys) where
    -- the events there
    there : (l : List Record) → get_or (map record_of l) i (record_of past) ≡ record_of (get_or l i past)
    there l = get_or-map record_of l i past

    pub same_more : Agree i → Same s (record_of (get_or xs i past)) t (record_of (get_or ys i past)) → Agree (i + 1)
    same_more agree same =
        rw (add-one i)
        (agree-more' agree (ap (map_event (bytes_of s)) (there xs) ∙ same ∙ sym (ap (map_event (bytes_of t)) (there ys))))
      where
        agree-more' : Agree i → map_event (bytes_of s) (get_or (map record_of xs) i (record_of past)) ≡ map_event (bytes_of t) (get_or (map record_of ys) i (record_of past)) → Agree (suc i)
        agree-more' h e = agree_more (map_event (bytes_of s)) (map_event (bytes_of t)) (record_of past) i (map record_of xs) (map record_of ys) (omega (arith, length-map xs record_of)) (omega (arith, length-map ys record_of)) h e

    pub not_same : {m n : ℕ} → i < m → n ≡ m → (Same s (record_of (get_or xs i past)) t (record_of (get_or ys i past)) → ⊥) → SameCounted m n → ⊥
    not_same {m} {n} r e differ same =
        let h : listed s (map record_of xs) m ≡ listed t (map record_of ys) m = ap (λ (c : Counted). c.events) same ∙ ap (λ (k : ℕ). listed t (map record_of ys) k) e in
        let z = agree_there (map_event (bytes_of s)) (map_event (bytes_of t)) (record_of past) m i (map record_of xs) (map record_of ys) r (omega (arith, length-map xs record_of)) (omega (arith, length-map ys record_of)) h in
        differ (sym (ap (map_event (bytes_of s)) (there xs)) ∙ z ∙ ap (map_event (bytes_of t)) (there ys))
