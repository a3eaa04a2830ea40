-- `are_rows` meets its contract: its loop goes on while rows are events'.
use mathlib.Core.Path.{◌≡◌, sym, subst, ◌∙◌}
use mathlib.Core.Bool.{true}
use mathlib.Core.List.{List}
use Prim.Native.Nat.{ℕ, ◌+◌, ◌-◌, ◌*◌, ◌<◌}
use native.Mathlib.Omega.{arith}
use lib.ListN.{take, drop}
use Rattle.rows.specs.Rows.{width}
use Rattle.rows.specs.RowEvent.{is_row}
use Rattle.rows.proofs.RowsOn.{Looked, looked_first, looked_none, looked_more, looked_last}
use Rattle.same.proofs.Asked.{a_row, no_row}
use Rattle.same.proofs.of_rows.are_rows.Goals as goal

pub loop-index-init : goal.loop-index-init
loop-index-init c =
    let a = c.args in
    let all : a.count ≡ a.count - 0 = omega arith in
    subst (λ (n : ℕ). Looked a.count a.cells.now 0 n) all (looked_first _ _)

-- on to the next index
on : (count : ℕ) (cells : List ℕ) (i : ℕ) → i < count → Looked count cells (i * width) (count - i) → is_row (take width (drop (i * width) cells)) ≡ true → Looked count cells ((i + 1) * width) (count - (i + 1))
on count cells i h g told =
    let place : i * width + width ≡ (i + 1) * width = omega arith in
    let left : count - i - 1 ≡ count - (i + 1) = omega arith in
    subst (λ (p : ℕ). Looked count cells p (count - (i + 1))) place (subst (λ (n : ℕ). Looked count cells (i * width + width) n) left (looked_more g (omega arith) told))

pub loop-index-preserved : goal.loop-index-preserved
loop-index-preserved c =
    on c.args.count c.args.cells.now c.loop-index.index c.loop-index-test.true c.loop-index.invariant
    (a_row _ _ c.row_event_at.ensures (sym c.is_err.ensures.value ∙ c.if-is_err.false))

pub returns-then-is_err : goal.returns-then-is_err
returns-then-is_err c =
    looked_none c.loop-index.invariant (omega (arith, c.loop-index-test.true)) (no_row _ _ c.row_event_at.ensures (sym c.is_err.ensures.value ∙ c.if-is_err.true))

pub returns : goal.returns
returns c = looked_last c.loop-index.invariant (omega (arith, c.loop-index-test.false))
