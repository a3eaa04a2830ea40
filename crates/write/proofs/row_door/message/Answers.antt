-- `message` meets its contract, by the row's data bytes.
use Rattle.write.proofs.RowForms.{no_kind, message_row}
use Rattle.write.proofs.row_door.message.Goals as goal

pub returns-then-number-lt8 : goal.returns-then-number-lt8
returns-then-number-lt8 c = let a = c.args in λ rules bytes d e f. rw (no_kind a.number a.a a.b a.c d e f c.if-number-lt8.true)

pub returns : goal.returns
returns c =
    let a = c.args in
    λ rules bytes d e f. rw (← message_row rules bytes a.a a.b a.c d e f a.number c.if-number-lt8.false c.requires, ← c.data_of-data.ensures) (c.channel.ensures bytes)
