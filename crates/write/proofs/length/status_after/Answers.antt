-- `status_after` meets its contract, form by form.
use Rattle.write.specs.Raw.{raw_after}
use Rattle.write.proofs.length.status_after.Goals as goal

pub returns-in-Channel : goal.returns-in-Channel
unfolding raw_after
returns-in-Channel c = rw c.in-Channel.is

pub returns-in-System : goal.returns-in-System
unfolding raw_after
returns-in-System c = rw c.in-System.is

pub returns-in-Typed : goal.returns-in-Typed
unfolding raw_after
returns-in-Typed c = rw c.in-Typed.is

pub returns-in-Fixed : goal.returns-in-Fixed
unfolding raw_after
returns-in-Fixed c = rw c.in-Fixed.is
