-- `track_number` meets its contract: two bytes are enough.
use borrow.Author.Tests.{le-leb, lt-leb}
use Rattle.smf.specs.Kind.{track_number_of}
use Rattle.smf.specs.Event.{map_meta}
use Rattle.meta.proofs.Called.{byte_is}
use Rattle.meta.proofs.track_number.Goals as goal

pub returns-in-len2-up : goal.returns-in-len2-up
unfolding map_meta track_number_of
returns-in-len2-up c span =
    let p = c.args.bytes.now in
    rw (c.word.ensures, le-leb _ _ c.in-len2-up.len_at_least, byte_is p c.type_inv.bytes 0, byte_is p c.type_inv.bytes 1)

pub returns-in_default : goal.returns-in_default
unfolding map_meta track_number_of
returns-in_default c span = rw (lt-leb _ _ c.in_default.len_below)
