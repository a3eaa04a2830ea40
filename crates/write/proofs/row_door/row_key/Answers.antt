-- `row_key` meets its contract: a byte stands for its signed number.
use borrow.Author.Tests.{lt-ltb, le-ltb}
use Rattle.smf.specs.Signed.{signed_byte}
use Rattle.smf.proofs.Signed.{byte_back}
use Rattle.write.proofs.Forms.{key_fits}
use Rattle.write.proofs.RowForms.{signed_below}
use Rattle.write.proofs.row_door.row_key.Goals as goal

pub returns-then-sharps-ge256 : goal.returns-then-sharps-ge256
returns-then-sharps-ge256 c = λ rules bytes. rw (le-ltb _ _ c.if-sharps-ge256.true)

pub returns : goal.returns
returns c =
    let s = c.args.sharps in
    let h = c.if-sharps-ge256.false in
    λ rules bytes. rw (lt-ltb s 256 h, key_fits rules bytes (signed_byte s) _ (signed_below s h), byte_back s h) (c.key.ensures bytes)
