-- `number` meets its contract: a track number that is there, and one that is not.
use Rattle.write.proofs.Forms.{number_made, none_made}
use Rattle.write.proofs.event_door.number.Goals as goal

pub returns-in-Some : goal.returns-in-Some
returns-in-Some c = λ rules bytes. rw (c.in-Some.is, number_made rules bytes) (rw c.from.ensures at (c.track_number.ensures bytes))

pub returns-in-None : goal.returns-in-None
returns-in-None c = λ rules bytes. rw (c.in-None.is, none_made rules bytes) (c.own_bytes.ensures bytes)
