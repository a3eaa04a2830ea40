-- `bytes_in` meets its contract: the bytes before the place are the entries there.
use Rattle.player.specs.Entries.{bytes_in}
use Rattle.player.proofs.Stored.{stored_all}
use Rattle.player.proofs.entries.bytes_in.Goals as goal

pub returns : goal.returns
unfolding bytes_in
returns c = stored_all _ _ c.loop-place.invariant c.loop-place-test.false
