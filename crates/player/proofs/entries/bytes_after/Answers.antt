-- `bytes_after` meets its contract: the rows are a list's, the list is taken, and the bytes are those of the table after it.
use mathlib.Core.Path.{refl, sym, ap, ◌∙◌}
use mathlib.Core.List.{map}
use Rattle.std.proofs.lemmas.Result.{err_from_is_err_and}
use Rattle.track.specs.List.{capacity, record_of}
use Rattle.track.specs.declared.list.EventList.{EventList}
use Rattle.player.specs.Table.{Table}
use Rattle.player.specs.Widths.{accepted}
use Rattle.player.specs.Answers.{Beside, table_said, table_beside, list_said}
use Rattle.player.proofs.Nought.{never_nought}
use Rattle.player.proofs.Entered.{rows_many, rows_none, rows_above, rows_entered}
use Rattle.player.proofs.entries.bytes_after.Goals as goal

pub returns-then-count-gt-CAPACITY : goal.returns-then-count-gt-CAPACITY
returns-then-count-gt-CAPACITY c = rows_many _ _ _ _ c.if-count-gt-CAPACITY.true

pub returns-in_err-list : goal.returns-in_err-list
returns-in_err-list c =
    let p = err_from_is_err_and c.from_residual.result c.from_residual.ensures.1 in
    rw (p.1, p.2) (rows_none _ _ _ _ c.if-count-gt-CAPACITY.false _ _ (sym (ap list_said c.in_err-list.was) ∙ c.list_in.ensures) (never_nought _))

-- what `after` promises of a list, by the table that it is taken into
abbrev from : EventList → Table → Beside Table
from list t = table_beside t (accepted capacity (map record_of list.records) list.count)

pub returns-in-Err : goal.returns-in-Err
returns-in-Err c =
    let given = sym (ap list_said c.in_ok-list.was) ∙ c.list_in.ensures in
    let told = sym (ap table_said c.in-Err.is) ∙ c.after.ensures ∙ ap (from c.in_ok-list.list) c.table_in.ensures in
    rows_above _ _ _ _ c.if-count-gt-CAPACITY.false _ _ given refl _ _ told (never_nought _)

pub returns-in-Ok : goal.returns-in-Ok
returns-in-Ok c =
    let given = sym (ap list_said c.in_ok-list.was) ∙ c.list_in.ensures in
    let told = sym (ap table_said c.in-Ok.is) ∙ c.after.ensures ∙ ap (from c.in_ok-list.list) c.table_in.ensures in
    rows_entered _ _ _ _ c.if-count-gt-CAPACITY.false _ _ given refl _ _ told refl _ c.bytes_in.ensures
