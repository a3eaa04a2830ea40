-- No two results of one function say the same, where no two of its values do: a promise of what is said permits one alone.
use Rattle.std.specs.Prelude.{Result, Ok, Err}
use mathlib.Core.Path.{◌≡◌, ap}
use Rattle.smf.specs.Answer.{Answer, gives, refuses}
use Rattle.smf.proofs.Answer.{injective}
use Rattle.base.specs.Said.{said}
use Rattle.base.specs.declared.Refusal.{Refusal}
use Rattle.base.proofs.RefusalNumbers.{refusal_of, number_back}

unsaid : {A B : Type 0} → (B → A) → Answer B → Result A Refusal
unsaid back (gives x) = Ok (back x)
unsaid back (refuses n) = Err (refusal_of n)

said_back : {A B : Type 0} (f : A → B) (back : B → A) → ((x : A) → back (f x) ≡ x) → (r : Result A Refusal) → unsaid back (said f r) ≡ r
unfolding unsaid
said_back f back same (Ok x) = ap Ok (same x)
said_back f back same (Err n) = ap Err (number_back n)

pub said_injective : {A B : Type 0} (f : A → B) (back : B → A) → ((x : A) → back (f x) ≡ x) → {x y : Result A Refusal} → said f x ≡ said f y → x ≡ y
said_injective f back same = injective (said f) (unsaid back) (said_back f back same)
