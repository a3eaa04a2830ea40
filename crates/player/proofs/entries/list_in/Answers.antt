-- `list_in` meets its contract: its loop goes on while rows are events', and each is the next record.
use mathlib.Core.Path.{sym, ap, ◌∙◌}
use Rattle.std.proofs.lemmas.Result.{err_from_is_err_and}
use Rattle.rows.specs.RowAnswer.{row_answer}
use Rattle.rows.proofs.IsRow.{is_event, is_none}
use Rattle.player.proofs.Taking.{taking_first, taking_none, taking_all, taking_more}
use Rattle.player.proofs.entries.list_in.Goals as goal

pub loop-index-init : goal.loop-index-init
loop-index-init c = taking_first _ _ _ _ _ c.new-list.ensures

pub returns-in_err-event : goal.returns-in_err-event
returns-in_err-event c =
    let none = is_none _ (sym c.row_event_at.ensures ∙ ap row_answer c.in_err-event.was) in
    let p = err_from_is_err_and c.from_residual.result c.from_residual.ensures.1 in
    rw (p.1, p.2, none.1) (taking_none _ _ _ c.loop-index.invariant c.loop-index-test.true none.0)

pub loop-index-preserved : goal.loop-index-preserved
loop-index-preserved c =
    let one = is_event _ (sym c.row_event_at.ensures ∙ ap row_answer c.in_ok-event.was) in
    taking_more _ _ _ c.loop-index.invariant c.loop-index-test.true c.requires one.0 c.recorded.result (one.1 ∙ sym c.recorded.ensures)

pub returns : goal.returns
returns c = taking_all _ _ _ c.loop-index.invariant c.loop-index-test.false
