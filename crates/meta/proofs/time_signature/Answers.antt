-- `time_signature` meets its contract, by the form of its type.
use mathlib.Core.Path.{refl}
use Rattle.smf.specs.Kind.{signature_of}
use Rattle.smf.specs.Event.{map_meta}
use Rattle.smf.proofs.CalledAt.{form_signature}
use Rattle.meta.proofs.Called.{byte_is, short, enough}
use Rattle.meta.proofs.time_signature.Goals as goal

pub returns-in-len4-up : goal.returns-in-len4-up
unfolding map_meta
returns-in-len4-up c rules load =
    let p = c.args.bytes.now in
    let small = c.type_inv.bytes in
    rw (← byte_is p small 0, ← byte_is p small 1, ← byte_is p small 2, ← byte_is p small 3)
    (enough rules p load 0x58 4 _ (form_signature rules p) c.in-len4-up.len_at_least (signature_of p) refl)

pub returns-in_default : goal.returns-in_default
returns-in_default c rules load =
    let p = c.args.bytes.now in
    short rules p load 0x58 4 _ (form_signature rules p) c.in_default.len_below
