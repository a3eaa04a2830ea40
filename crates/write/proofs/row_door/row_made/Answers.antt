-- `row_made` meets its contract: channel messages, F0, F7, metas.
use mathlib.Core.Path.{sym, ◌∙◌}
use borrow.Author.Tests.{lt-ltb, le-ltb, ne_eqb}
use Rattle.rows.specs.RowEvent.{fields_fit, row_kind}
use Rattle.write.proofs.Forms.{sys_ex_made, escape_made}
use Rattle.write.proofs.row_door.row_made.Goals as goal

pub returns-then-number-lt15 : goal.returns-then-number-lt15
unfolding row_kind
returns-then-number-lt15 c = rw (lt-ltb _ _ c.if-number-lt15.true) (c.message.ensures _ _ _ _ _)

pub returns-then-number-eq240 : goal.returns-then-number-eq240
unfolding fields_fit row_kind
returns-then-number-eq240 c = rw c.if-number-eq240.true (c.system.ensures ∙ sym (sys_ex_made _ _ _))

pub returns-then-number-eq247 : goal.returns-then-number-eq247
unfolding fields_fit row_kind
returns-then-number-eq247 c = rw c.if-number-eq247.true (c.system-then-number-eq247.ensures ∙ sym (escape_made _ _ _))

pub row_meta-requires : goal.row_meta-requires
row_meta-requires c = (c.if-number-lt15.false, c.if-number-eq240.false, c.if-number-eq247.false)

pub returns : goal.returns
unfolding row_kind
returns c = rw (le-ltb _ _ c.if-number-lt15.false, ne_eqb _ _ c.if-number-eq240.false, ne_eqb _ _ c.if-number-eq247.false) c.row_meta.ensures
