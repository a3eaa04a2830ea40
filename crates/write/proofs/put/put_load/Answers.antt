-- `put_load` meets its contract: a byte, and the payload behind it.
use mathlib.Core.Path.{◌∙◌}
use Prim.Native.Nat.{◌+◌}
use native.Mathlib.Omega.{arith}
use lib.ListN.{set, length-set}
use Rattle.smf.specs.Place.{bytes_of}
use Rattle.smf.specs.Payload.{encode_payload}
use Rattle.meta.specs.Meta.{span_of}
use Rattle.write.proofs.Storing.{over_cons, payload_written, payload_there}
use Rattle.write.proofs.put.put_load.Goals as goal

pub returns : goal.returns
returns c =
    let span = span_of c.args.load in
    payload_written c.args.bytes.now span (set c.args.out.now c.args.at c.args.lead) (c.args.at + 1) _ c.requires.0 (simp length-set (omega (arith, c.requires.1))) c.write_varlen_slice.ensures
    ∙ over_cons c.args.out.now c.args.at c.args.lead (encode_payload (bytes_of c.args.bytes.now span)) (omega (arith, c.requires.1))

pub unwrap-requires : goal.unwrap-requires
unwrap-requires c =
    rw (payload_there c.args.bytes.now (span_of c.args.load) (set c.args.out.now c.args.at c.args.lead) (c.args.at + 1) _ _ c.requires.0 (simp length-set (omega (arith, c.requires.1))) c.write_varlen_slice.ensures)
