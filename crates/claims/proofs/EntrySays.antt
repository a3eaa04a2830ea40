-- An entry's plain numbers, from the answer of the definition that its promise equates them with.
use mathlib.Core.Path.{◌≡◌, refl, sym}
use mathlib.Core.Bool.{true≢false}
use mathlib.Core.List.{List}
use Prim.Native.Nat.{ℕ, zero, suc}
use Rattle.smf.specs.Answer.{Answer, gives, refuses}
use Rattle.loader.specs.Entry.{answered, leaves}
use Rattle.smf.specs.Write.{Written}
use Rattle.smf.specs.Event.{EventWritten}
use Rattle.smf.specs.Lists.{ListAnswer, wrote, refuses_at, ListSize, ListWritten}
use Rattle.loader_track.specs.Lists.{number_answered, length_left, index_left}
use Rattle.claims.specs.Table.{OneOf, By, Keeps}
use Rattle.claims.specs.EntrySays.{Outcome, AnswersBy, said, said_list}

module _ {A : Type 0} (ns : List ℕ) where
  -- what holds of what is given, and what of a refusal
  pub outcome : (x : Answer A) (Accepted Refused : Answer A → Type 0) → By ns x → ((a : A) → Accepted (gives a)) → ((n : ℕ) → Refused (refuses n))
      → Outcome ns (answered x) (Accepted x) (Refused x)
  outcome (gives a) Accepted Refused b f g = f a
  outcome (refuses zero) Accepted Refused b f g = absurd (true≢false (sym b))
  outcome (refuses (suc n)) Accepted Refused b f g = (b, g (suc n))

  pub answers : (x : Answer A) (Left : Answer A → Type 0) → By ns x → ((n : ℕ) → Left (refuses n)) → AnswersBy ns (answered x) (Left x)
  answers x Left b g = outcome x (λ _. Unit {0}) Left b (λ _. tt) g

  -- one, two or three values that are lent
  pub keeps₁ : {B : Type 0} (x : Answer A) (p : A → B) (u : B) {r : ℕ} {u' : B} → By ns x → (r ≡ answered x) × (u' ≡ leaves p x u) → AnswersBy ns r (u' ≡ u)
  keeps₁ x p u b told = rw (told.0, told.1) (answers x (λ y. leaves p y u ≡ u) b (λ n. refl))

  pub keeps₂ : {B C : Type 0} (x : Answer A) (p : A → B) (q : A → C) (u : B) (v : C) {r : ℕ} {u' : B} {v' : C} → By ns x
      → (r ≡ answered x) × ((u' ≡ leaves p x u) × (v' ≡ leaves q x v)) → AnswersBy ns r ((u' ≡ u) × (v' ≡ v))
  keeps₂ x p q u v b told =
      rw (told.0, told.1.0, told.1.1) (answers x (λ y. (leaves p y u ≡ u) × (leaves q y v ≡ v)) b (λ n. (refl, refl)))

  pub keeps₃ : {B C D : Type 0} (x : Answer A) (p : A → B) (q : A → C) (s : A → D) (u : B) (v : C) (w : D) {r : ℕ} {u' : B} {v' : C} {w' : D} → By ns x
      → (r ≡ answered x) × ((u' ≡ leaves p x u) × ((v' ≡ leaves q x v) × (w' ≡ leaves s x w))) → AnswersBy ns r ((u' ≡ u) × (v' ≡ v) × (w' ≡ w))
  keeps₃ x p q s u v w b told =
      rw (told.0, told.1.0, told.1.1.0, told.1.1.1)
      (answers x (λ y. (leaves p y u ≡ u) × (leaves q y v ≡ v) × (leaves s y w ≡ w)) b (λ n. (refl, refl, refl)))

-- a buffer that is written, and the place after what was written
module _ (ns : List ℕ) (out : List ℕ) (next : ℕ) where
  buffer_kept : (x : Answer ℕ) (b : List ℕ) → Keeps ns x out b → AnswersBy ns (answered x) ((b ≡ out) × (leaves (λ (n : ℕ). n) x next ≡ next))
  buffer_kept (gives n) b k = tt
  buffer_kept (refuses zero) b k = absurd (true≢false (sym k.0))
  buffer_kept (refuses (suc n)) b k = (k.0, (k.1, refl))

  pub writes : (w : Written) {r next' : ℕ} {out' : List ℕ} → Keeps ns w.answer out w.buffer
      → (r ≡ answered w.answer) × ((out' ≡ w.buffer) × (next' ≡ leaves (λ (n : ℕ). n) w.answer next)) → AnswersBy ns r ((out' ≡ out) × (next' ≡ next))
  writes w k told = rw (told.0, told.1.0, told.1.1) (buffer_kept w.answer w.buffer k)

-- what is said, is the answer of the definition: a refusal of the table is not 0
module _ (ns : List ℕ) where
  pub said_itself : {A : Type 0} (x : Answer A) (held : A) → By ns x → said (answered x) (leaves (λ (a : A). a) x held) ≡ x
  said_itself (gives a) held b = refl
  said_itself (refuses zero) held b = absurd (true≢false (sym b))
  said_itself (refuses (suc n)) held b = refl

  -- a list's answer
  abbrev pub ListBy : ListAnswer → Type 0
  ListBy (wrote n) = Unit {0}
  ListBy (refuses_at n i) = OneOf ns n

  pub list_itself : (x : ListAnswer) (long index : ℕ) → ListBy x → said_list (number_answered x) (length_left x long) (index_left x index) ≡ x
  list_itself (wrote n) long index b = refl
  list_itself (refuses_at zero i) long index b = absurd (true≢false (sym b))
  list_itself (refuses_at (suc n) i) long index b = refl

  pub list_kept : (x : ListAnswer) (long index : ℕ) → ListBy x → Outcome ns (number_answered x) (index_left x index ≡ index) (length_left x long ≡ long)
  list_kept (wrote n) long index b = refl
  list_kept (refuses_at zero i) long index b = absurd (true≢false (sym b))
  list_kept (refuses_at (suc n) i) long index b = (b, refl)

-- what an entry leaves, is what the definition does
pub event_itself : (ns : List ℕ) (w : EventWritten) (next : ℕ) {r next' after' : ℕ} {out' : List ℕ} → By ns w.written.answer
    → (r ≡ answered w.written.answer) × ((out' ≡ w.written.buffer) × ((next' ≡ leaves (λ (n : ℕ). n) w.written.answer next) × (after' ≡ w.running)))
    → w ≡ record { written = record { buffer = out'; answer = said r next' }; running = after' }
event_itself ns w next b told = rw (told.0, told.1.0, told.1.1.0, told.1.1.1, said_itself ns w.written.answer next b) refl

pub size_itself : (ns : List ℕ) (w : ListSize) (long index : ℕ) {r long' after' index' : ℕ} → ListBy ns w.answer
    → (r ≡ number_answered w.answer) × ((long' ≡ length_left w.answer long) × ((after' ≡ w.running) × (index' ≡ index_left w.answer index)))
    → w ≡ record { answer = said_list r long' index'; running = after' }
size_itself ns w long index b told = rw (told.0, told.1.0, told.1.1.0, told.1.1.1, list_itself ns w.answer long index b) refl

pub list_left_itself : (ns : List ℕ) (w : ListWritten) (long index : ℕ) {r long' after' index' : ℕ} {out' : List ℕ} → ListBy ns w.answer
    → (r ≡ number_answered w.answer) × ((out' ≡ w.buffer) × ((long' ≡ length_left w.answer long) × ((after' ≡ w.running) × (index' ≡ index_left w.answer index))))
    → w ≡ record { buffer = out'; answer = said_list r long' index'; running = after' }
list_left_itself ns w long index b told =
    rw (told.0, told.1.0, told.1.1.0, told.1.1.1.0, told.1.1.1.1, list_itself ns w.answer long index b) refl
