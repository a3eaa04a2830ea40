-- `put_raw` meets its contract: the delta, and what stands behind it.
use mathlib.Core.Path.{◌∙◌}
use native.Mathlib.Omega.{arith}
use Rattle.smf.specs.Number.{encode_number}
use Rattle.smf.specs.Wire.{encode_raw, encode_raw_event}
use Rattle.write.specs.Raw.{wire_of}
use Rattle.write.proofs.Storing.{first_room, second_room, over_both}
use Rattle.write.proofs.put.put_raw.Goals as goal

pub put_delta-start-requires : goal.put_delta-start-requires
unfolding encode_raw_event
put_delta-start-requires c =
    let a = c.args in
    let behind = encode_raw a.running.status (wire_of a.bytes.now a.event.raw) in
    (c.requires.0, first_room (encode_number a.event.delta.0) behind a.out.now a.at c.requires.2)

pub put_body-requires : goal.put_body-requires
unfolding encode_raw_event
put_body-requires c =
    let a = c.args in
    let behind = encode_raw a.running.status (wire_of a.bytes.now a.event.raw) in
    (c.requires.1, second_room (encode_number a.event.delta.0) behind a.out.now a.at c.put_delta-start.ensures c.requires.2)

pub returns : goal.returns
unfolding encode_raw_event
returns c =
    let a = c.args in
    let behind = encode_raw a.running.status (wire_of a.bytes.now a.event.raw) in
    c.put_body.ensures
    ∙ over_both behind c.put_delta-start.ensures (omega (arith, c.requires.2))
