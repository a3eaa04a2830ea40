-- `put_message` meets its contract: the delta, and the message behind it.
use mathlib.Core.Path.{◌≡◌, ◌∙◌}
use Prim.Native.Nat.{◌+◌}
use native.Mathlib.Omega.{arith}
use lib.ListN.{length, length-append}
use Rattle.smf.specs.Number.{encode_number}
use Rattle.smf.specs.Wire.{raw_event, encode_raw, encode_raw_event}
use Rattle.write.specs.Raw.{channel_raw}
use Rattle.write.proofs.Channels.{channel_after}
use Rattle.write.proofs.Steps.{write_put}
use Rattle.write.proofs.Storing.{first_room, second_room, over_both}
use Rattle.write.proofs.direct.put_message.Goals as goal

pub put_delta-start-requires : goal.put_delta-start-requires
unfolding encode_raw_event
put_delta-start-requires c =
    let a = c.args in
    (c.requires.0, first_room (encode_number a.delta.0) (encode_raw a.running.status (channel_raw a.c)) a.out.now a.at c.requires.1)

pub put_channel-next-requires : goal.put_channel-next-requires
unfolding encode_raw_event
put_channel-next-requires c =
    let a = c.args in
    second_room (encode_number a.delta.0) (encode_raw a.running.status (channel_raw a.c)) a.out.now a.at c.put_delta-start.ensures c.requires.1

pub returns : goal.returns
unfolding encode_raw_event
returns c =
    let a = c.args in
    let first = encode_number a.delta.0 in
    let behind = encode_raw a.running.status (channel_raw a.c) in
    let d = c.put_delta-start.ensures in
    let p = c.put_channel-next in
    let next : p.result ≡ a.at + length (encode_raw_event a.running.status (raw_event a.delta.0 (channel_raw a.c))) = omega (arith, d.place, p.ensures.place, length-append first behind) in
    let put = write_put a.running.status (raw_event a.delta.0 (channel_raw a.c)) a.out.now a.at c.requires.1 _ (p.ensures.buffer ∙ over_both behind d (omega (arith, c.requires.1))) in
    rw (← next, channel_after a.running.status a.c) at put
