-- The loop that reads a list into cells meets its contract: an invalid running status, its turns and its stops.
use Rattle.rows.specs.declared.lists.RowLaid.{RowLaid}
use Rattle.std.specs.Prelude.{Result}
use Rattle.track.specs.declared.cursor.Stop as code
use mathlib.Core.Path.{sym, ap, ◌∙◌}
use native.Mathlib.Omega.{arith}
use Rattle.smf.specs.Lists.{next_at}
use Rattle.base.specs.Rules.{rules_of}
use Rattle.track.specs.Cursor.{reader_of}
use Rattle.track.specs.List.{capacity}
use Rattle.track.proofs.Reading.{took}
use Rattle.rows.specs.Read.{laid_of}
use Rattle.rows.proofs.RowCells.{unread, laying_first, laying_more, laid, LaidOn, laid_on, laid_stop}
use Rattle.rows.proofs.lists.lay_rows.Goals as goal
use Rattle.rows.proofs.lists.lay_rows.Goals.{In-Ok, then-is_valid+in-Err, else-is_valid}

pub loop-why-init : goal.loop-why-init
loop-why-init c =
    let a = c.args in
    laying_first capacity (rules_of a.rules) a.raw.now a.at a.running.status a.rows.now (sym c.is_valid.ensures ∙ c.if-is_valid.true)

-- a step that was laid, by what the list takes
on : (c : In-Ok) → let a = c.args in LaidOn (next_at (rules_of a.rules) capacity a.raw.now (reader_of c.loop-why.cursor)) c.loop-why.cursor.count c.loop-why.rows c.lay_next.new.rows c.in-Ok.next.padding (reader_of c.in-Ok.next.cursor)
on c =
    let a = c.args in
    laid_on (next_at (rules_of a.rules) capacity a.raw.now (reader_of c.loop-why.cursor)) c.loop-why.cursor.count
    (ap (λ (m : Result RowLaid code.Stop). laid_of m c.lay_next.new.rows) (sym c.in-Ok.is) ∙ c.lay_next.ensures)

pub overflow_add-padding : goal.overflow_add-padding
overflow_add-padding c =
    let s = c.loop-why.invariant.sofar in
    let t = took s (on (goal.at.overflow_add-padding c).In-Ok).is in
    omega (arith, s.padded, t.padded, t.within)

pub loop-why-smaller : goal.loop-why-smaller
loop-why-smaller c =
    let t = took c.loop-why.invariant.sofar (on (goal.at.loop-why-smaller c).In-Ok).is in
    omega (arith, t.moved, t.within)

pub loop-why-preserved : goal.loop-why-preserved
loop-why-preserved c =
    let o = on (goal.at.loop-why-preserved c).In-Ok in
    laying_more c.requires c.loop-why.invariant o.is _ o.put

pub returns : goal.returns
returns c =
    let a = c.args in
    elim c.if-is_valid.branch [
      | then-is_valid+in-Err w ↦
          let l = w.loop-why in
          let stop = laid_stop (next_at (rules_of a.rules) capacity a.raw.now (reader_of l.cursor)) l.cursor.count
          (ap (λ (m : Result RowLaid code.Stop). laid_of m w.lay_next.new.rows) (sym w.in-Err.is) ∙ w.lay_next.ensures)
          in
          rw (w.cursor-is, w.padding-is, w.stop-is, w.rows-is, stop.kept) (laid c.requires l.invariant stop.is)
      | else-is_valid w ↦
          rw (w.cursor-is, w.padding-is, w.stop-is, w.rows-is)
          (unread capacity (rules_of a.rules) a.raw.now a.at a.running.status a.rows.now (sym c.is_valid.ensures ∙ w.if-is_valid.false))
    ]
