-- Any two answers that a promise permits are identical: both true, or both false, or the same refusal.
use Rattle.base.specs.declared.Refusal.{Refusal}
use Rattle.std.specs.Prelude.{Err, Ok, Result}
use mathlib.Core.Path.{◌≡◌, refl, sym, ap, ◌∙◌}
use mathlib.Core.Bool.{Bool, true, false}
use Rattle.smf.specs.Answer.{Answer, gives, refuses}
use Rattle.base.proofs.RefusalNumbers.{number_of_injective}
use Rattle.same.specs.Same.{Tells}
use Rattle.same.specs.OfRows.{Says}

pub tells_identical : (Rule : Type 0) (x y : Bool) → Tells x Rule → Tells y Rule → x ≡ y
tells_identical Rule true true holds also = refl
tells_identical Rule true false holds fails = absurd (fails holds)
tells_identical Rule false true fails holds = absurd (fails holds)
tells_identical Rule false false fails also = refl

pub says_identical : (asked : Answer (Unit {0})) (Rule : Type 0) (x y : Result Bool Refusal) → Says x asked Rule → Says y asked Rule → x ≡ y
says_identical (gives u) Rule (Ok s) (Ok t) p q = ap Ok (tells_identical Rule s t p q)
says_identical (gives u) Rule (Ok s) (Err n) p q = absurd q
says_identical (gives u) Rule (Err m) y p q = absurd p
says_identical (refuses k) Rule (Ok s) y p q = absurd p
says_identical (refuses k) Rule (Err m) (Ok t) p q = absurd q
says_identical (refuses k) Rule (Err m) (Err n) p q = ap Err (number_of_injective (p ∙ sym q))
