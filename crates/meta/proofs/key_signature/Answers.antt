-- `key_signature` meets its contract, by the form of its type.
use mathlib.Core.Path.{◌∙◌}
use borrow.Author.Tests.{le-leb, lt-leb}
use mir.Syntax.{w8}
use mir.Facts.{to_z-of_z}
use Rattle.smf.specs.Kind.{key_of}
use Rattle.smf.specs.Event.{map_meta}
use Rattle.smf.proofs.CalledAt.{form_key}
use Rattle.meta.proofs.Called.{byte_is, called_is}
use Rattle.meta.proofs.key_signature.Goals as goal

pub returns-in_default : goal.returns-in_default
returns-in_default c rules load = rw (form_key rules c.args.bytes.now, lt-leb _ _ c.in_default.len_below)

pub returns : goal.returns
unfolding map_meta
returns c rules load =
    let p = c.args.bytes.now in
    let small = c.type_inv.bytes in
    rw (to_z-of_z {w = w8} (record { sfits = c.from_byte.type_inv }), c.from_byte.ensures, ← byte_is p small 0, ← byte_is p small 1)
    (called_is rules p load 0x59 (key_of p) (form_key rules p ∙ rw (le-leb 2 _ c.in-len2-up.len_at_least)))
