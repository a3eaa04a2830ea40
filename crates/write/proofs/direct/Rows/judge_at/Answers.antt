-- `judge_at` meets its contract: a row that is not all there is no event's.
use mathlib.Core.Path.{sym, ◌∙◌}
use borrow.Author.Tests.{leb-true, leb-false}
use Rattle.base.specs.Rules.{rules_of}
use Rattle.write.proofs.Judging.{row_short}
use Rattle.write.proofs.direct.Rows.judge_at.Goals as goal

pub returns-then-not-is_there : goal.returns-then-not-is_there
returns-then-not-is_there c =
    let a = c.args in
    let t = c.is_there in
    row_short (rules_of a.self.now.rules) a.self.now.bytes.now a.self.now.cells.now a.at (leb-false _ _ (sym t.ensures ∙ c.if-not-is_there.true))

pub cells_at-requires : goal.cells_at-requires
cells_at-requires c = let t = c.is_there in leb-true _ _ (sym t.ensures ∙ c.if-not-is_there.false)

pub returns : goal.returns
returns c = rw (← c.cells_at.ensures) c.row_raw.ensures
