-- `part` meets its contract: as much of the range as there is.
use Rattle.same.proofs.Loads.{part_of}
use Rattle.same.proofs.part.Goals as goal

pub returns : goal.returns
returns c = part_of c.args.bytes.now c.args.start c.args.size c.min.result c.min-2.result c.min.ensures c.min-2.ensures
