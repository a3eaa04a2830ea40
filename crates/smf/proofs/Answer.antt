-- How a definition is walked from top to bottom, by its tests; and when an answer's meaning fixes the answer.
use mathlib.Core.Path.{◌≡◌, refl, sym, ap, ◌∙◌, subst}
use mathlib.Core.Bool.{Bool, true, false, true≢false, ◌&&◌}
use Prim.Native.Nat.{ℕ, ◌<◌, ◌≤◌}
use native.Mathlib.Omega.{arith}
use lib.Dec.{ltb}
use borrow.Author.Tests.{ltb-true, ltb-false}
use Rattle.smf.specs.Answer.{pick, Answer, gives, refuses, unless, and_then, Rules, strictly, leniently}

-- by the value of a test
pub by_test {ℓ} : {G : Type ℓ} (t : Bool) → (t ≡ true → G) → (t ≡ false → G) → G
by_test true f g = f refl
by_test false f g = g refl

-- by what an answer is
pub by_answer {ℓ} : {A : Type 0} {G : Type ℓ} (a : Answer A) → ((x : A) → a ≡ gives x → G) → ((n : ℕ) → a ≡ refuses n → G) → G
by_answer (gives x) f g = f x refl
by_answer (refuses n) f g = g n refl

pub by_lt {ℓ} : {G : Type ℓ} (a b : ℕ) → (a < b → G) → (b ≤ a → G) → G
by_lt a b f g = by_test (ltb a b) (λ e. f (ltb-true a b e)) (λ e. g (ltb-false a b e))

-- what holds of both choices, each knowing its test, holds of the pick
pub pick_test : {A : Type 0} (P : A → Type 0) (t : Bool) {x y : A} → (t ≡ true → P x) → (t ≡ false → P y) → P (pick t x y)
pick_test P true p q = p refl
pick_test P false p q = q refl

pub pick_both : {A : Type 0} (P : A → Type 0) (t : Bool) {x y : A} → P x → P y → P (pick t x y)
pick_both P true p q = p
pick_both P false p q = q

-- both of two tests that hold together
pub both : (a b : Bool) → (a && b) ≡ true → (a ≡ true) × (b ≡ true)
both true b e = (refl, e)
both false b e = absurd (true≢false (sym e))

-- what is given behind a test is given because the test holds
pub held : {A : Type 0} (t : Bool) (n : ℕ) (a : Answer A) {y : A} → unless t n a ≡ gives y → (t ≡ true) × (a ≡ gives y)
held true n a e = (refl, e)
held false n a e = let z : ◌≡◌ {A = ℕ} 0 1 = cc in absurd (omega arith)

-- what a test gave or else refused was given because the test holds
pub given : {A : Type 0} (t : Bool) (x : A) (n : ℕ) {y : A} → unless t n (gives x) ≡ gives y → (t ≡ true) × (x ≡ y)
given t x n e = let h = held t n (gives x) e in (h.0, cc)

-- and was refused because it does not
pub ungiven : {A : Type 0} (t : Bool) (x : A) (n : ℕ) {m : ℕ} → unless t n (gives x) ≡ refuses m → (t ≡ false) × (m ≡ n)
ungiven true x n e = let z : ◌≡◌ {A = ℕ} 0 1 = cc in absurd (omega arith)
ungiven false x n e = (refl, cc)

-- a function with a way back takes no two values to one
pub injective : {A B : Type 0} (f : A → B) (back : B → A) → ((a : A) → back (f a) ≡ a) → {x y : A} → f x ≡ f y → x ≡ y
injective f back same {x} {y} e = sym (same x) ∙ ap back e ∙ same y

-- what the first answers, the second answers too
abbrev pub Alike : {A : Type 0} → Answer A → Answer A → Type 0
Alike (gives a) other = other ≡ gives a
Alike (refuses n) other = Unit {0}

pub alike_self : {A : Type 0} (a : Answer A) → Alike a a
alike_self (gives a) = refl
alike_self (refuses n) = tt

pub pick_alike : {A : Type 0} (R : A → A → Type 0) (t : Bool) {x x' y y' : A} → R x x' → R y y' → R (pick t x y) (pick t x' y')
pick_alike R true p q = p
pick_alike R false p q = q

pub strictly_alike : {A : Type 0} (rules : Rules) (n : ℕ) (a : A) → Alike (strictly rules n a) (strictly (leniently rules) n a)
strictly_alike rules n a = pick_test (λ (x : Answer _). Alike x (gives a)) rules.strict (λ t. tt) (λ t. refl)

pub then_alike : {A B : Type 0} (f f' : A → Answer B) (a a' : Answer A) → Alike a a' → ((x : A) → Alike (f x) (f' x)) → Alike (and_then a f) (and_then a' f')
then_alike f f' (gives x) a' h k = rw h (k x)
then_alike f f' (refuses n) a' h k = tt

-- what is said of an answer holds of the value that it gives
pub said_of : {A : Type 0} (P : Answer A → Type 0) {a : Answer A} {x : A} → P a → a ≡ gives x → P (gives x)
said_of P p e = subst P e p

-- what is asked of the value that an answer gives
abbrev pub Gives : {A : Type 0} → (A → Type 0) → Answer A → Type 0
Gives P (gives a) = P a
Gives P (refuses n) = Unit {0}

pub then_gives : {A B : Type 0} (P : A → Type 0) (Q : B → Type 0) (f : A → Answer B) (a : Answer A) → Gives P a → ((x : A) → P x → Gives Q (f x)) → Gives Q (and_then a f)
then_gives P Q f (gives x) p k = k x p
then_gives P Q f (refuses n) p k = tt

pub said_refused : {A : Type 0} (P : Answer A → Type 0) {a : Answer A} {n : ℕ} → P a → a ≡ refuses n → P (refuses n)
said_refused P p e = subst P e p

-- the way back of an answer: what its value makes, or what its refusal's number makes
abbrev pub answered : {A B : Type 0} → (A → B) → (ℕ → B) → Answer A → B
answered made refused (gives a) = made a
answered made refused (refuses n) = refused n
