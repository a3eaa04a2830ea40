-- `put_channel` meets its contract: the status, and the data behind it.
use mathlib.Core.Path.{ap, ◌∙◌}
use mathlib.Core.List.{[], ◌∷◌}
use Prim.Native.Nat.{◌+◌, ◌≤◌}
use native.Mathlib.Omega.{arith}
use lib.ListN.{length, length-append}
use Rattle.smf.proofs.Write.{length_over}
use Rattle.write.specs.Raw.{status_bytes, data_bytes}
use Rattle.write.proofs.Channels.{channel_wire}
use Rattle.write.proofs.Storing.{over_status, data_some}
use Rattle.write.proofs.put.put_channel.Goals as goal
use Rattle.write.proofs.put.put_channel.Goals.{Start}

-- there is room for both
room : (c : Start) → c.args.at + (length (status_bytes c.args.running.status c.args.bytes.status) + length (data_bytes c.args.bytes)) ≤ length c.args.out.now
room c = rw (channel_wire, length-append) at c.requires

pub put_status-place-requires : goal.put_status-place-requires
put_status-place-requires c = omega (arith, room (goal.at.put_status-place-requires c).Start, data_some c.args.bytes)

pub put_data-requires : goal.put_data-requires
put_data-requires c =
    let s = c.put_status-place.ensures in
    let some = data_some c.args.bytes in
    omega (arith, room (goal.at.put_data-requires c).Start, some, s.0, ap length s.1, length_over (c.args.bytes.status ∷ []) c.args.out.now c.args.at (omega (arith, room (goal.at.put_data-requires c).Start, some)))

pub returns : goal.returns
returns c =
    let s = c.put_status-place.ensures in
    let p = c.put_data.ensures in
    let some = data_some c.args.bytes in
    rw (channel_wire c.args.running.status c.args.bytes)
    (record {
      place = omega (arith, p.place, s.0, length-append (status_bytes c.args.running.status c.args.bytes.status) (data_bytes c.args.bytes));
      buffer = p.buffer ∙ rw (s.0, s.1) (over_status c.args.running.status c.args.bytes.status (data_bytes c.args.bytes) c.args.out.now c.args.at (omega (arith, room (goal.at.returns c).Start, some)) some);
    })
