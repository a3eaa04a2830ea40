-- `same_event` meets its contract: where the deltas agree, the kinds tell.
use native.Mathlib.Omega.{arith}
use borrow.Author.Tests.{ne_eqb}
use Rattle.same.proofs.SameTests.{deltas_differ, kinds_tell}
use Rattle.same.proofs.same_event.Goals as goal

pub returns-else-a-b : goal.returns-else-a-b
returns-else-a-b c = rw (ne_eqb _ _ c.if-a-b.false) (deltas_differ _ _ _ _ c.if-a-b.false)

pub returns-then-a-b : goal.returns-then-a-b
returns-then-a-b c = kinds_tell _ _ _ _ c.same_kind.result (omega arith) c.same_kind.ensures
