use Rattle.std.proofs.lemmas.Result.{err_from_is_err_and}
-- `same_rows` meets its contract, by what each row gives.
use mathlib.Core.Path.{sym, ap, ◌∙◌}
use Rattle.rows.specs.RowAnswer.{row_answer}
use Rattle.same.proofs.Asked.{first_no_row, second_no_row, both_rows, rows_tell}
use Rattle.same.proofs.of_rows.same_rows.Goals as goal

pub returns-in_err-x : goal.returns-in_err-x
returns-in_err-x c =
    let p = err_from_is_err_and c.from_residual.result c.from_residual.ensures.1 in
    rw (p.1, p.2, first_no_row c.args.a c.args.b (sym c.row_event.ensures ∙ ap row_answer c.in_err-x.was))

pub returns-in_err-y : goal.returns-in_err-y
returns-in_err-y c =
    let p = err_from_is_err_and c.from_residual-in_err-y.result c.from_residual-in_err-y.ensures.1 in
    rw (p.1, p.2, second_no_row c.args.a c.args.b (sym c.row_event-2.ensures ∙ ap row_answer c.in_err-y.was))

pub returns : goal.returns
returns c =
    let p = sym c.row_event.ensures ∙ ap row_answer c.in_ok-x.was in
    let q = sym c.row_event-2.ensures ∙ ap row_answer c.in_ok-y.was in
    rw (both_rows c.args.a c.args.b p q) (rows_tell c.args.a c.args.b p q _ _ c.same_event.result c.same_event.ensures)
