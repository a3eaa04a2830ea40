-- `count` meets its contract: what was counted and what is left to count are all.
use mathlib.Core.Path.{sym, ◌∙◌}
use Prim.Native.Nat.{◌<◌}
use borrow.Author.Rules.{rules}
use lib.ListN.{length}
use Rattle.player.proofs.Counting.{is_silent, is_sounding, counted_silent, counted_sounding, counted_all}
use Rattle.player.proofs.table.count.Goals as goal
use Rattle.player.proofs.table.count.Goals.{then-sounds, else-sounds}

pub loop-velocity-preserved : goal.loop-velocity-preserved
loop-velocity-preserved c =
    let l = c.loop-velocity in
    let more : l.velocity-index < length c.args.channel = search rules in
    elim c.if-sounds.branch [
      | then-sounds w ↦ rw w.sounding-is (counted_sounding _ l.invariant more (is_sounding _ (sym c.sounds.ensures ∙ w.if-sounds.true)))
      | else-sounds w ↦ rw w.sounding-is (counted_silent _ l.invariant more (is_silent _ (sym c.sounds.ensures ∙ w.if-sounds.false)))
    ]

pub returns : goal.returns
returns c = counted_all _ c.loop-velocity.invariant (search rules)
