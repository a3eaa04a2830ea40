-- Tests that tell whether a rule holds.
use mathlib.Core.Path.{◌≡◌, refl, ap, ap₂, subst}
use mathlib.Core.Bool.{Bool, true, false}
use mathlib.Core.List.{List}
use Prim.Native.Nat.{ℕ}
use Rattle.smf.specs.Place.{Span, bytes_of}
use Rattle.smf.specs.Event.{Event, event, map_kind, map_event, Same}
use Rattle.same.specs.Same.{Tells}

-- by the test's value
tells : (Rule : Type 0) (r : Bool) → (r ≡ true → Rule) → (r ≡ false → Rule → ⊥) → Tells r Rule
tells Rule true holds fails = holds refl
tells Rule false holds fails = fails refl

-- what tells of a rule tells of another that holds where it does, and nowhere else
pub tells_too : (Rule Other : Type 0) (r : Bool) → Tells r Rule → (Rule → Other) → (Other → Rule) → Tells r Other
tells_too Rule Other true holds to from = to holds
tells_too Rule Other false fails to from = λ other. fails (from other)

-- unequal deltas tell two events apart, and where they agree the kinds tell
module _ (s : List ℕ) (e : Event Span) (t : List ℕ) (f : Event Span) where
  pub deltas_differ : (e.delta ≡ f.delta → ⊥) → Same s e t f → ⊥
  unfolding map_event
  deltas_differ differ same = differ (ap (λ (x : Event (List ℕ)). x.delta) same)

  pub kinds_tell : (b : Bool) → e.delta ≡ f.delta → Tells b (map_kind (bytes_of s) e.kind ≡ map_kind (bytes_of t) f.kind) → Tells b (Same s e t f)
  unfolding map_event
  kinds_tell b d told =
      tells_too (map_kind (bytes_of s) e.kind ≡ map_kind (bytes_of t) f.kind) (Same s e t f) b told (λ k. ap₂ event d k)
      (λ same. ap (λ (x : Event (List ℕ)). x.kind) same)

-- what a test told, by its value
pub told_true : (Rule : Type 0) (r : Bool) → Tells r Rule → r ≡ true → Rule
told_true Rule r told e = subst (λ (b : Bool). Tells b Rule) e told

pub told_false : (Rule : Type 0) (r : Bool) → Tells r Rule → r ≡ false → Rule → ⊥
told_false Rule r told e = subst (λ (b : Bool). Tells b Rule) e told
