-- `row_text` meets its contract, by the number.
use Prim.Native.Nat.{◌-◌}
use Rattle.meta.specs.Meta.{span_of}
use Rattle.write.proofs.RowForms.{text_low, text_high, text_is}
use Rattle.write.proofs.Forms.{text_made}
use Rattle.write.proofs.row_door.row_text.Goals as goal
use Rattle.write.proofs.row_door.row_text.Goals.{then-number-lt257-via-then-number-lt257, then-number-lt257-via-else-number-lt257+then-number-ge266}

pub returns-then-number-lt257 : goal.returns-then-number-lt257
returns-then-number-lt257 c = λ rules.
    elim c.then-number-lt257.branch [
      | then-number-lt257-via-then-number-lt257 w ↦ rw (text_low _ w.if-number-lt257.true)
      | then-number-lt257-via-else-number-lt257+then-number-ge266 w ↦ rw (text_high _ w.if-number-ge266.true)
    ]

pub returns : goal.returns
returns c =
    let a = c.args in
    let t = text_is a.number c.if-number-lt257.false c.if-number-ge266.false in
    λ rules. rw (t, text_made rules a.bytes.now (a.number - 0x100) (span_of a.load) t) c.typed.ensures
