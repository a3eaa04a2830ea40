-- `ranges_in` meets its contract: each range is the one in its cells.
use mathlib.Core.Path.{◌≡◌, refl}
use native.Mathlib.Omega.{arith}
use Rattle.bank.specs.Bank.{most_tracks}
use Rattle.bank.specs.Entries.{range_in}
use Rattle.bank.proofs.Filling.{filled_none, filled_more, filled_all}
use Rattle.bank.proofs.entries.ranges_in.Goals as goal

pub loop-index-init : goal.loop-index-init
loop-index-init c = (omega arith, filled_none _ most_tracks c.no_tracks-ranges.result c.no_tracks-ranges.ensures)

pub loop-index-preserved : goal.loop-index-preserved
unfolding range_in
loop-index-preserved c = let l = c.loop-index in (omega arith, filled_more _ most_tracks l.range-items l.index _ (omega arith) l.invariant.1 refl)

pub returns : goal.returns
returns c =
    let l = c.loop-index in
    let end : l.index ≡ most_tracks = omega (arith, l.invariant.0) in
    filled_all _ most_tracks l.range-items (rw end at l.invariant.1)
