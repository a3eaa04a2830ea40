use mathlib.Core.Path.{◌≡◌}
use Prim.Native.Nat.{◌*◌}
use lib.ListN.{length}
use Rattle.bank.proofs.Cells.{CellsPut}
use Rattle.bank.proofs.entries.cells_of.Given as goal

abbrev pub invariant-loop-index : goal.invariant-loop-index
invariant-loop-index l = (size : length l.initial.cells ≡ 2 * length l.fn.bank.tracks) × CellsPut l.fn.bank.tracks l.initial.cells size l.cells l.index
