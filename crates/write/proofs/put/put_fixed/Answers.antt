-- `put_fixed` meets its contract.
use Rattle.smf.specs.Place.{bytes_of}
use Rattle.write.proofs.put.put_fixed.Goals as goal

pub returns : goal.returns
unfolding bytes_of
returns c = c.put_typed.ensures
