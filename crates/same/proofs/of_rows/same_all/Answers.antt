-- `same_all` meets its contract: its loop goes on while the events of two rows are the same.
use mathlib.Core.Path.{◌≡◌, subst}
use mathlib.Core.List.{List}
use Prim.Native.Nat.{ℕ, ◌+◌, ◌-◌, ◌*◌}
use native.Mathlib.Omega.{arith}
use Rattle.rows.specs.Rows.{width}
use Rattle.same.proofs.SameTests.{told_true, told_false}
use Rattle.same.proofs.RowsLeft.{Compared, compared_first, compared_more, compared_differ, compared_last}
use Rattle.same.proofs.of_rows.same_all.Goals as goal

pub loop-index-init : goal.loop-index-init
loop-index-init c =
    let p = c.requires in
    let a = c.args in
    let all : a.count ≡ a.count - 0 = omega arith in
    subst (λ (n : ℕ). Compared a.a_bytes.now a.a.now a.b_bytes.now a.b.now a.count 0 n) all (compared_first _ _ _ _ _ p.a_value p.b_value)

pub returns-then-not-same_at : goal.returns-then-not-same_at
returns-then-not-same_at c =
    let e = c.same_at in
    let l = c.loop-index in
    compared_differ _ _ _ _ l.invariant (omega (arith, c.loop-index-test.true)) (told_false _ e.result e.ensures (c.if-not-same_at.true))

-- on to the next index
on : (s a t b : List ℕ) (count i : ℕ) → Compared s a t b count (i * width + width) (count - i - 1) → Compared s a t b count ((i + 1) * width) (count - (i + 1))
on s a t b count i g =
    let place : i * width + width ≡ (i + 1) * width = omega arith in
    let left : count - i - 1 ≡ count - (i + 1) = omega arith in
    subst (λ (p : ℕ). Compared s a t b count p (count - (i + 1))) place (subst (λ (n : ℕ). Compared s a t b count (i * width + width) n) left g)

pub loop-index-preserved : goal.loop-index-preserved
loop-index-preserved c =
    let e = c.same_at in
    let l = c.loop-index in
    let a = c.args in
    on a.a_bytes.now a.a.now a.b_bytes.now a.b.now a.count l.index (compared_more _ _ _ _ l.invariant (omega (arith, c.loop-index-test.true)) (told_true _ e.result e.ensures (c.if-not-same_at.false)))

pub returns : goal.returns
returns c = compared_last _ _ _ _ c.loop-index.invariant (omega (arith, c.loop-index-test.false))
