-- `data_of` meets its contract, number by number.
use mathlib.Core.Path.{◌≡◌}
use mathlib.Core.Bool.{true, false, ◌||◌}
use Prim.Native.Nat.{ℕ, ◌/◌}
use native.Mathlib.Omega.{arith}
use lib.Dec.{eqb}
use borrow.Author.Tests.{eqb-false, eq-eqb, ne_eqb}
use Rattle.smf.proofs.Answer.{by_test, by_lt}
use Rattle.write.specs.Raw.{data_of}
use Rattle.write.proofs.row_door.data_of.Goals as goal

-- the two numbers whose half is 6
halved : (n : ℕ) → n / 2 ≡ 6 → (eqb n 12 || eqb n 13) ≡ true
halved n h =
    by_test (eqb n 12)
    (λ t. rw t)
    (λ t. rw (t, eq-eqb n 13 (by_lt n 13 (λ p. absurd (eqb-false n 12 t (omega (arith, h)))) (λ p. omega (arith, h)))))

unhalved : (n : ℕ) → (n / 2 ≡ 6 → ⊥) → (eqb n 12 || eqb n 13) ≡ false
unhalved n h =
    rw (ne_eqb n 12 (λ e. h (rw e)), ne_eqb n 13 (λ e. h (rw e)))

pub returns-then-number-eq14 : goal.returns-then-number-eq14
unfolding data_of
returns-then-number-eq14 c = rw c.if-number-eq14.true

pub returns-then-number-eq6 : goal.returns-then-number-eq6
unfolding data_of
returns-then-number-eq6 c = rw (ne_eqb _ 14 c.if-number-eq14.false, halved _ c.if-number-eq6.true)

pub returns : goal.returns
unfolding data_of
returns c = rw (ne_eqb _ 14 c.if-number-eq14.false, unhalved _ c.if-number-eq6.false)
