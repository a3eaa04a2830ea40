-- `row_at` meets its contract. The invariant: the cells so far are copied.
use Rattle.rows.proofs.Copying.{copied_first, copied_more, copied_all}
use Rattle.rows.proofs.back.row_at.Goals as goal

pub loop-i-init : goal.loop-i-init
loop-i-init c = copied_first _ _

pub loop-i-preserved : goal.loop-i-preserved
loop-i-preserved c = copied_more _ _ c.requires c.loop-i.invariant c.loop-i-test.true

pub returns : goal.returns
returns c = copied_all _ _ c.requires c.loop-i.invariant c.loop-i-test.false
