-- `EventList::new` meets its contract: an empty list.
use Rattle.track.proofs.Held.{made}
use Rattle.track.proofs.list.EventList.new.Goals as goal

pub returns : goal.returns
returns c = made c.filler-filler.result c.filler-filler.ensures
