-- `put_typed` meets its contract: FF, and what stands behind it.
use mathlib.Core.Path.{◌∙◌}
use mathlib.Core.List.{◌∷◌}
use native.Mathlib.Omega.{arith}
use lib.ListN.{length-set}
use Rattle.smf.specs.Place.{bytes_of}
use Rattle.smf.specs.Payload.{encode_payload}
use Rattle.meta.specs.Meta.{span_of}
use Rattle.write.proofs.Storing.{over_cons}
use Rattle.write.proofs.put.put_typed.Goals as goal

pub put_load-requires : goal.put_load-requires
put_load-requires c =
    (c.requires.0, simp length-set (omega (arith, c.requires.1)))

pub returns : goal.returns
returns c =
    c.put_load.ensures ∙ over_cons c.args.out.now c.args.at 0xFF (c.args.type_byte ∷ encode_payload (bytes_of c.args.bytes.now (span_of c.args.load))) (omega (arith, c.requires.1))
