-- `table_in` meets its contract: the entries before the place are the bytes there.
use mathlib.Core.Path.{subst, sym}
use borrow.Author.Rules.{rules}
use Rattle.player.specs.Table.{fresh}
use Rattle.player.proofs.Tables.{Shaped, shaped_of}
use Rattle.player.proofs.TablesIn.{filled_first, filled_all}
use Rattle.player.proofs.entries.table_in.Goals as goal

pub loop-place-init : goal.loop-place-init
unfolding fresh
loop-place-init c = filled_first _ (subst Shaped (sym c.fresh-table.ensures) (shaped_of (λ channel key. 0)))

pub returns : goal.returns
returns c = filled_all _ c.loop-place.invariant (search rules)
