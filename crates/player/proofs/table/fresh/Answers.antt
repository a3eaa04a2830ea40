-- `fresh` meets its contract: the table that holds 0 at every channel and key.
use mathlib.Core.Path.{refl}
use Rattle.player.specs.Table.{numbers_from, table_of, fresh}
use Rattle.player.proofs.table.fresh.Goals as goal

pub returns : goal.returns
unfolding numbers_from table_of fresh
returns c = refl
