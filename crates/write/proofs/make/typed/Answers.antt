-- `typed` meets its contract, by what `look` answers.
use Rattle.std.proofs.lemmas.Result.{err_from_is_err_and}
use mathlib.Core.Path.{sym}
use Rattle.smf.specs.Place.{bytes_of}
use Rattle.smf.specs.Wire as wire
use Rattle.meta.specs.Meta.{span_of}
use Rattle.write.specs.Raw.{is_sound, wire_of}
use Rattle.write.proofs.Payloads.{looked_refused, looked_there}
use Rattle.write.proofs.make.typed.Goals as goal

pub returns-in_err-look : goal.returns-in_err-look
returns-in_err-look c =
    let a = c.args in
    let p = err_from_is_err_and c.from_residual.result c.from_residual.ensures.1 in
    rw (p.1, p.2) (sym (looked_refused a.bytes.now (span_of a.load) c.look.result c.look.ensures _ _ c.in_err-look.was))

pub returns : goal.returns
unfolding is_sound wire_of
returns c =
    let a = c.args in
    let t = looked_there a.bytes.now (span_of a.load) c.look.result c.look.ensures (wire.typed a.type_byte (bytes_of a.bytes.now (span_of a.load))) c.in_ok-look.was in
    rw t.1 (sym t.0)
