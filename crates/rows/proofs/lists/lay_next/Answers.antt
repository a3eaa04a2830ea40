-- `lay_next` meets its contract: no short event, a full list, or a short event's row laid.
use mathlib.Core.Path.{sym, ap, ◌∙◌}
use mathlib.Core.List.{List}
use Prim.Native.Nat.{ℕ, ◌+◌, ◌*◌}
use native.Mathlib.Omega.{arith}
use Rattle.smf.specs.Lists as smf
use Rattle.smf.specs.Write.{over}
use Rattle.base.specs.Rules.{rules_of}
use Rattle.track.specs.List.{capacity}
use Rattle.rows.specs.Rows.{width}
use Rattle.rows.specs.Read.{goes, laid_next}
use Rattle.rows.specs.Short.{ShortRead}
use Rattle.rows.proofs.ShortReads.{short_within, short_full, short_next}
use Rattle.rows.proofs.lists.lay_next.Goals as goal
use Rattle.rows.proofs.lists.lay_next.Goals.{In-Some}

-- the short event that was found
found : (c : In-Some) → let a = c.args in let r = c.in-Some.short in ShortRead a.raw.now a.cursor.place a.cursor.running.status r.used r.status r.a r.b
found c = rw c.in-Some.is at c.short_at.ensures

pub returns-then-count-ge-CAPACITY : goal.returns-then-count-ge-CAPACITY
returns-then-count-ge-CAPACITY c =
    let a = c.args in
    ap (λ (m : smf.Next). laid_next m a.cursor.count a.rows.now) (sym (short_full (rules_of a.rules) capacity (found (goal.at.returns-then-count-ge-CAPACITY c).In-Some) a.cursor.count c.if-count-ge-CAPACITY.true))

pub overflow_add-behind : goal.overflow_add-behind
overflow_add-behind c =
    let a = c.args in
    omega (arith, short_within (rules_of a.rules) capacity (found (goal.at.overflow_add-behind c).In-Some) a.cursor.count)

pub returns : goal.returns
returns c =
    let a = c.args in
    let r = c.in-Some.short in
    let put = c.put_row.ensures ∙ ap (λ (x : List ℕ). over x a.rows.now (a.cursor.count * width)) c.short_row.ensures in
    ap (λ (l : List ℕ). record { onward = goes 0 (record { place = a.cursor.place + r.used; running = r.status; count = a.cursor.count + 1 }); cells = l }) put
    ∙ ap (λ (m : smf.Next). laid_next m a.cursor.count a.rows.now) (sym (short_next (rules_of a.rules) capacity (found (goal.at.returns c).In-Some) a.cursor.count (omega (arith, c.if-count-ge-CAPACITY.false))))
