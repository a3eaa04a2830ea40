-- `row_event` meets its contract, by whether the delta and the fields fit.
use mathlib.Core.Path.{◌≡◌, sym, ◌∙◌}
use lib.ListN.{length}
use Rattle.rows.specs.Rows.{width}
use Rattle.rows.specs.RowEvent.{called_row}
use Rattle.rows.proofs.IsRow.{delta_above, fields_above, all_fit}
use borrow.Author.Rules.{rules}
use Rattle.rows.proofs.back.row_event.Goals as goal

pub returns-then-delta-ge4294967296 : goal.returns-then-delta-ge4294967296
returns-then-delta-ge4294967296 c =
    let r = c.args.row in
    let l : length r ≡ width = search rules in
    delta_above r l c.if-delta-ge4294967296.true

pub returns-then-not-fields_fit : goal.returns-then-not-fields_fit
returns-then-not-fields_fit c =
    let f = c.fields_fit in
    let r = c.args.row in
    let l : length r ≡ width = search rules in
    fields_above r l c.if-delta-ge4294967296.false (sym f.ensures ∙ c.if-not-fields_fit.true)

pub returns : goal.returns
unfolding called_row
returns c =
    let f = c.fields_fit in
    let r = c.args.row in
    let l : length r ≡ width = search rules in
    rw (c.kind.ensures, c.load-load.ensures.0, c.load-load.ensures.1)
    (all_fit r l c.if-delta-ge4294967296.false (sym f.ensures ∙ c.if-not-fields_fit.false))
