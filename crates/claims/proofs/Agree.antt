-- Two calls whose answers, and what they leave, are equal to the same: so they are one.
use mathlib.Core.Path.{◌≡◌, sym, ◌∙◌}
use Rattle.claims.specs.Calls.{◌&◌}

pub joined : {A B : Type 0} {x y : A} {u v : B} → (x ≡ y) × (u ≡ v) → (x & u) ≡ (y & v)
joined p i = (p.0 i, p.1 i)

module _ {A B : Type 0} {x y s : A} {u v t : B} where
  pub agree₂ : (x ≡ s) × (u ≡ t) → (y ≡ s) × (v ≡ t) → (x & u) ≡ (y & v)
  agree₂ p q = joined (p.0 ∙ sym q.0, p.1 ∙ sym q.1)

module _ {A B C : Type 0} {x y s : A} {u v t : B} {l m k : C} where
  pub agree₃ : (x ≡ s) × ((u ≡ t) × (l ≡ k)) → (y ≡ s) × ((v ≡ t) × (m ≡ k)) → (x & u & l) ≡ (y & v & m)
  agree₃ p q = joined (p.0 ∙ sym q.0, agree₂ p.1 q.1)

module _ {A B C D : Type 0} {x y s : A} {u v t : B} {l m k : C} {f g h : D} where
  pub agree₄ : (x ≡ s) × ((u ≡ t) × ((l ≡ k) × (f ≡ h))) → (y ≡ s) × ((v ≡ t) × ((m ≡ k) × (g ≡ h))) → (x & u & l & f) ≡ (y & v & m & g)
  agree₄ p q = joined (p.0 ∙ sym q.0, agree₃ p.1 q.1)

module _ {A B C D E : Type 0} {x y s : A} {u v t : B} {l m k : C} {f g h : D} {b c d : E} where
  pub agree₅ : (x ≡ s) × ((u ≡ t) × ((l ≡ k) × ((f ≡ h) × (b ≡ d)))) → (y ≡ s) × ((v ≡ t) × ((m ≡ k) × ((g ≡ h) × (c ≡ d))))
      → (x & u & l & f & b) ≡ (y & v & m & g & c)
  agree₅ p q = joined (p.0 ∙ sym q.0, agree₄ p.1 q.1)

module _ {A B C D E F : Type 0} {x y s : A} {u v t : B} {l m k : C} {f g h : D} {b c d : E} {i j n : F} where
  pub agree₆ : (x ≡ s) × ((u ≡ t) × ((l ≡ k) × ((f ≡ h) × ((b ≡ d) × (i ≡ n))))) → (y ≡ s) × ((v ≡ t) × ((m ≡ k) × ((g ≡ h) × ((c ≡ d) × (j ≡ n)))))
      → (x & u & l & f & b & i) ≡ (y & v & m & g & c & j)
  agree₆ p q = joined (p.0 ∙ sym q.0, agree₅ p.1 q.1)
