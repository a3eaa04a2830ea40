-- Of any type: nothing is asked, and what is said fixes the answer.
use Rattle.std.specs.Prelude.{◌≡◌, Result, Ok, Err}
use mathlib.Core.Path.{sym, ap, subst, ◌∙◌}
use mathlib.Core.List.{List, [], ◌∷◌, not-mem-nil}
use Prim.Native.Nat.{ℕ}
use native.Mathlib.Omega.{arith}
use contract.BorrowLft.{◌⊑◌}
use Rattle.base.specs.Said.{said}
use Rattle.base.specs.Refusal.{number_of}
use Rattle.base.specs.declared.Refusal.{Refusal}
use Rattle.base.proofs.RefusalNumbers.{refusal_of, number_back}
use Rattle.claims.specs.Table.{By}
use Rattle.claims.specs.OfTypes.{OfTypes}
use Rattle.claims.proofs.Agree.{agree₂}
use Rattle.claims.proofs.Refusals.{width_by}

-- two results that say the same are one, where no two values say the same
said_apart : {A B : Type 0} (f : A → B) → ((x y : A) → f x ≡ f y → x ≡ y) → (r s : Result A Refusal) → said f r ≡ said f s → r ≡ s
said_apart f apart (Ok x) (Ok y) e = ap Ok (apart x y cc)
said_apart f apart (Ok x) (Err n) e = let z : ◌≡◌ {A = ℕ} 0 1 = cc in absurd (omega arith)
said_apart f apart (Err n) (Ok x) e = let z : ◌≡◌ {A = ℕ} 0 1 = cc in absurd (omega arith)
said_apart f apart (Err m) (Err n) e =
    let same : number_of m ≡ number_of n = cc in
    ap Err (sym (number_back m) ∙ ap refusal_of same ∙ number_back n)

-- what lends nothing lives through any call
lent_nothing : {κ xs : List ℕ} → xs ≡ [] → κ ⊑ xs
lent_nothing none = rw none (λ x m. absurd (not-mem-nil m))

pub of_types : OfTypes
of_types =
    record {
      tried_asks = λ T I LT LI restricted d into d' κs a lives. lives;
      told_asks = λ T LT CT clone d κs a lives. lives;
      tried_asks_nothing = λ T I LT LI restricted d into d' none none' κs a. (lent_nothing none, lent_nothing none');
      told_asks_nothing = λ T LT CT clone d none κs a. lent_nothing none;
      tried_one_answer = λ T I LT LI restricted d into d' apart κs a y z m n p q. said_apart restricted.value apart y z (p ∙ sym q);
      told_one_outcome = λ T LT CT clone d κs a y z m n p q. agree₂ p q;
      tried_refuses = λ T I LT LI restricted d into d' κs a z e told. subst (By (18 ∷ [])) (sym told) (width_by _ _);
    }
