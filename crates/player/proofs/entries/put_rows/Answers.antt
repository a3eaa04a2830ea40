-- `put_rows` meets its contract: the rows of the events so far stand in front, and there are cells for the next.
use mathlib.Core.Path.{◌≡◌, sym, ap, ◌∙◌}
use native.Mathlib.Omega.{arith}
use borrow.Author.Rules.{rules}
use lib.ListN.{length, length-map}
use Rattle.track.specs.List.{capacity, record_of}
use Rattle.track.proofs.Held.{past, unmapped}
use Rattle.rows.specs.Rows.{event_row}
use Rattle.player.proofs.Listed.{counted, counted_event, all_counted}
use Rattle.player.proofs.Laying.{laid_none, rows_next, rows_all, laid_row}
use Rattle.player.proofs.entries.put_rows.Goals as goal

pub loop-index-init : goal.loop-index-init
loop-index-init c =
    let a = c.args in
    let long : length a.list.records ≡ capacity = search (rules, unmapped) in
    (omega (arith, length-map a.list.records record_of, c.requires.count_le_capacity), c.requires.width_in_bounds, laid_none _ _ _ _ _)

pub loop-index-preserved : goal.loop-index-preserved
loop-index-preserved c =
    let l = c.loop-index in
    let row = c.copy_from_slice.ensures.after ∙ c.event_row.ensures ∙ ap event_row (sym (counted_event _ _ c.loop-index-test.true)) in (
      l.invariant.0,
      l.invariant.1,
      rows_next _ _ _ _ _ l.invariant.2 (counted _ _ c.loop-index-test.true) (record_of past) _ (laid_row l.rows l.index _ _ _ row (search rules)),
    )

pub returns : goal.returns
returns c =
    let l = c.loop-index in
    rows_all _ _ _ _ _ l.invariant.2 (all_counted _ _ l.invariant.0 c.loop-index-test.false)
