-- `cells_of` meets its contract.
use mathlib.Core.Path.{◌≡◌}
use native.Mathlib.Omega.{arith}
use borrow.Author.Rules.{rules}
use lib.ListN.{length}
use Rattle.track.proofs.Held.{unmapped}
use Rattle.bank.specs.Bank.{most_tracks}
use Rattle.bank.proofs.Cells.{cells_first, cells_more, cells_all}
use Rattle.bank.proofs.entries.cells_of.Goals as goal

pub loop-index-init : goal.loop-index-init
loop-index-init c = let size : length c.args.bank.tracks ≡ most_tracks = search (rules, unmapped) in (omega arith, cells_first _ _ _)

pub loop-index-preserved : goal.loop-index-preserved
loop-index-preserved c =
    let i = c.loop-index.invariant in
    let size : length c.args.bank.tracks ≡ most_tracks = search (rules, unmapped) in
    (i.0, cells_more _ _ i.0 i.1 _ (omega arith))

pub returns : goal.returns
returns c =
    let i = c.loop-index.invariant in
    let size : length c.args.bank.tracks ≡ most_tracks = search (rules, unmapped) in
    cells_all _ _ i.0 i.1 (omega arith)
