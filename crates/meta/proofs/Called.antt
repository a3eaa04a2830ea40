-- What a payload is called, by its type, its length and its bytes.
use mathlib.Core.Path.{◌≡◌, ◌∙◌}
use mathlib.Core.List.{List}
use Prim.Native.Nat.{ℕ, ◌+◌, ◌-◌, ◌≤◌, ◌<◌}
use native.Mathlib.Nat.{mod-eq_of_lt}
use native.Mathlib.Omega.{arith}
use lib.ListN.{length, take, drop, get_or}
use borrow.Author.Tests.{le-leb, lt-leb}
use Rattle.std.proofs.Common.{Fits, w8}
use Rattle.smf.specs.Answer.{Answer, Rules, gives, refuses, and_then}
use Rattle.smf.specs.Place.{Span, PayloadAt, bytes_of}
use Rattle.smf.specs.Kind.{Meta, byte, from, unknown, called_meta}
use Rattle.smf.specs.Event.{map_meta}
use Rattle.smf.specs.MetaAt.{MetaAt}
use Rattle.smf.proofs.MetaAt.{called_at}
use Rattle.meta.specs.Named.{called}

-- each byte of a list of bytes is the byte that stands there
pub byte_is : (p : List ℕ) → ((i : ℕ) → Fits w8 (get_or p i 0)) → (i : ℕ) → byte p i ≡ get_or p i 0
byte_is p small i = mod-eq_of_lt ((small i).fits)

-- what is made of a value that was made of another
pub then_then : {A B C : Type 0} (f : A → B) (g : B → C) (a : Answer A) {b : Answer B}
    → b ≡ and_then a (λ x. gives (f x)) → and_then b (λ y. gives (g y)) ≡ and_then a (λ x. gives (g (f x)))
then_then f g (gives x) e = rw e
then_then f g (refuses n) e = rw e

-- a message of a payload that was read: it ends where the payload ends
abbrev pub ended : PayloadAt → Meta Span → MetaAt
ended p m = record { message = m; next = p.span.start + p.span.length; padding = p.padding }

-- what a payload that was read is called, with where it ends and its padding
pub placed : (rules : Rules) (s : List ℕ) (t : ℕ) (p : PayloadAt) {b : Answer (Meta Span)}
    → b ≡ called rules t (take (p.span.start + p.span.length - p.span.start) (drop p.span.start s)) p.span
    → and_then b (λ m. gives (ended p m)) ≡ called_at rules s t p
unfolding called_at bytes_of
placed rules s t p e =
    let n : p.span.start + p.span.length - p.span.start ≡ p.span.length = omega arith in
    then_then (map_meta (λ q. p.span)) (ended p) (called_meta rules t (take p.span.length (drop p.span.start s))) (e ∙ rw n)

module _ (rules : Rules) (p : List ℕ) (span : Span) where
  pub called_is : (t : ℕ) (m : Meta (List ℕ)) → called_meta rules t p ≡ gives m → gives (map_meta (λ q. span) m) ≡ called rules t p span
  called_is t m e = rw e

  -- a type that is named from n bytes up
  module _ (t n : ℕ) (kind : Answer (Meta (List ℕ))) (form : called_meta rules t p ≡ from n t p kind) where
    pub short : length p < n → gives (unknown t span) ≡ called rules t p span
    unfolding map_meta
    short h = called_is t (unknown t p) (form ∙ rw (lt-leb n (length p) h))

    long : n ≤ length p → called_meta rules t p ≡ kind
    long h = form ∙ rw (le-leb n (length p) h)

    pub enough : n ≤ length p → (m : Meta (List ℕ)) → kind ≡ gives m → gives (map_meta (λ q. span) m) ≡ called rules t p span
    enough h m e = called_is t m (long h ∙ e)

    pub enough_refused : n ≤ length p → (k : ℕ) → kind ≡ refuses k → refuses k ≡ called rules t p span
    enough_refused h k e = rw (long h, e)
