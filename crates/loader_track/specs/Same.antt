-- What the entries for sameness answer and hand out, in plain numbers.
use Rattle.std.specs.Prelude.{◌≡◌, Bool, ℕ, Result}
use Rattle.smf.specs.Answer.{pick, Answer, gives, refuses}
use Rattle.base.specs.Said.{said}
use Rattle.base.specs.declared.Refusal.{Refusal}
use Rattle.same.specs.Same.{Tells}
use Rattle.loader.specs.Entry.{answered, leaves}

-- yes 1, no 0
abbrev pub yes : Bool → ℕ
yes told = pick told 1 0

-- what an answer is in plain numbers: 0 where something was told, else the refusal's
abbrev pub sameness_answered : Result Bool Refusal → ℕ
sameness_answered answer = answered (said yes answer)

-- and what it leaves behind the pointer, where this number was before
abbrev pub sameness_left : Result Bool Refusal → ℕ → ℕ
sameness_left answer before = leaves (λ (n : ℕ). n) (said yes answer) before

-- a number tells whether a rule holds: 1 where it does, 0 where it does not
abbrev pub Told : ℕ → Type 0 → Type 0
Told r Rule = (told : Bool) × ((r ≡ yes told) × Tells told Rule)

-- of what can be compared an entry answers 0, and hands out whether the rule holds; of the rest it answers the number, and
-- leaves what was behind the pointer
abbrev pub Handed : ℕ → ℕ → ℕ → Answer (Unit {0}) → Type 0 → Type 0
Handed r before after (gives u) Rule = (r ≡ 0) × Told after Rule
Handed r before after (refuses n) Rule = (r ≡ n) × (after ≡ before)
