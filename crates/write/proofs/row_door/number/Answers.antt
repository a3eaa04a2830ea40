-- `number` meets its contract: a number that is there, and one that is not.
use mathlib.Core.Path.{sym, ◌∙◌}
use lib.Dec.{ltb}
use borrow.Author.Tests.{ne_eqb}
use Rattle.smf.specs.Answer.{refuses}
use Rattle.rows.specs.RowEvent.{row_number_of}
use Rattle.write.proofs.Forms.{number_made, none_made}
use Rattle.write.proofs.RowForms.{narrower}
use Rattle.write.proofs.row_door.number.Goals as goal

pub returns-then-there-eq0 : goal.returns-then-there-eq0
unfolding row_number_of
returns-then-there-eq0 c = λ rules bytes. rw c.if-there-eq0.true (c.own_bytes.ensures bytes ∙ sym (none_made rules bytes))

pub returns : goal.returns
unfolding row_number_of
returns c =
    let n = c.args.number in
    λ rules bytes. rw (ne_eqb _ 0 c.if-there-eq0.false, number_made rules bytes n) (c.track_number.ensures bytes ∙ sym (narrower (ltb n 65536) (ltb n 65536) _ (refuses 18) (λ t. t)))
