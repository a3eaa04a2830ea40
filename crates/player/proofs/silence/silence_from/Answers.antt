-- `silence_from` meets its contract: the list has the events so far, and the rest is what the places ahead give.
use mathlib.Core.Path.{sym, ◌∙◌}
use Rattle.player.proofs.Counting.{is_silent, is_sounding}
use Rattle.player.proofs.Scanning.{scanned_first, scanned_full, scanned_all, scanned_silent, scanned_sounding}
use Rattle.player.proofs.silence.silence_from.Goals as goal
use Rattle.player.proofs.silence.silence_from.Goals.{then-sounds, else-sounds}

pub loop-place-init : goal.loop-place-init
loop-place-init c = scanned_first _ _ _ _ _ c.new-list.ensures

pub returns-then-list-ge-CAPACITY : goal.returns-then-list-ge-CAPACITY
returns-then-list-ge-CAPACITY c = scanned_full _ _ _ c.loop-place.invariant c.if-list-ge-CAPACITY.true

pub loop-place-preserved : goal.loop-place-preserved
loop-place-preserved c =
    let s = c.loop-place.invariant in
    elim c.if-sounds.branch [
      | then-sounds w ↦
          rw w.list-is
          (scanned_sounding _ _ _ s c.if-list-ge-CAPACITY.false c.loop-place-test.true (is_sounding _ (sym c.sounds.ensures ∙ w.if-sounds.true)) w.recorded.result (w.recorded.ensures ∙ w.note_off.ensures))
      | else-sounds w ↦ rw w.list-is (scanned_silent _ _ _ s c.loop-place-test.true (is_silent _ (sym c.sounds.ensures ∙ w.if-sounds.false)))
    ]

pub returns : goal.returns
returns c = scanned_all _ _ _ c.loop-place.invariant c.loop-place-test.false
