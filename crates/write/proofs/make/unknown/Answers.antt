-- `unknown` meets its contract: the payload first, and then the name.
use Rattle.std.proofs.lemmas.Result.{err_from_is_err_and}
use Rattle.smf.specs.Place.{bytes_of}
use Rattle.smf.specs.Wire as wire
use Rattle.meta.specs.Meta.{span_of}
use Rattle.write.specs.Raw.{is_sound, wire_of}
use Rattle.write.proofs.Payloads.{looked_refused, looked_there}
use Rattle.write.proofs.make.unknown.Goals as goal

pub returns-then-is_named : goal.returns-then-is_named
returns-then-is_named c =
    let a = c.args in
    let t = looked_there a.bytes.now (span_of a.load) c.look.result c.look.ensures (wire.typed a.type_byte (bytes_of a.bytes.now (span_of a.load))) c.in_ok-look.was in
    rw (t.0, ← c.is_named.ensures, c.if-is_named.true)

pub returns-in_err-look : goal.returns-in_err-look
returns-in_err-look c =
    let a = c.args in
    let p = err_from_is_err_and c.from_residual.result c.from_residual.ensures.1 in
    rw (p.1, p.2, looked_refused a.bytes.now (span_of a.load) c.look.result c.look.ensures (wire.typed a.type_byte (bytes_of a.bytes.now (span_of a.load))) _ c.in_err-look.was)

pub returns : goal.returns
unfolding is_sound wire_of
returns c =
    let a = c.args in
    let t = looked_there a.bytes.now (span_of a.load) c.look.result c.look.ensures (wire.typed a.type_byte (bytes_of a.bytes.now (span_of a.load))) c.in_ok-look.was in
    rw (t.0, t.1, ← c.is_named.ensures, c.if-is_named.false)
