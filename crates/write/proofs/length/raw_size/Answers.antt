-- `raw_size` meets its contract: the delta's length and that of what stands behind it.
use native.Mathlib.Omega.{arith}
use Rattle.smf.proofs.Number.{encode_most}
use Rattle.write.proofs.Lengths.{sound_short, raw_few, raw_size_lem}
use Rattle.write.proofs.length.raw_size.Goals as goal

pub body_length-requires : goal.body_length-requires
body_length-requires c = sound_short c.args.bytes.now c.args.event.raw c.requires

pub overflow_add-result : goal.overflow_add-result
overflow_add-result c =
    let a = c.args in
    omega (arith, c.varlen_length.ensures, encode_most a.event.delta.0, c.body_length.ensures, raw_few a.running.status a.event.raw (sound_short a.bytes.now a.event.raw c.requires))

pub returns : goal.returns
returns c =
    rw (c.status_after.ensures, c.body_length.ensures, c.varlen_length.ensures) (raw_size_lem c.args.bytes.now c.args.running.status c.args.event.delta.0 c.args.event.raw c.requires)
