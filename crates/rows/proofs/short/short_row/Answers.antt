-- `short_row` meets its contract: a bend is one number, all else the data bytes.
use mathlib.Core.Path.{sym, ap}
use mathlib.Core.List.{List, ◌∷◌}
use Prim.Native.Nat.{ℕ, ◌%◌}
use Rattle.rows.proofs.ShortReads.{row_bend, row_data}
use Rattle.rows.proofs.short.short_row.Goals as goal

pub returns-then-kind-eq14 : goal.returns-then-kind-eq14
returns-then-kind-eq14 c =
    let a = c.args in
    ap (λ (l : List ℕ). a.delta ∷ l) (sym (row_bend (a.status % 16) a.status a.a a.b c.if-kind-eq14.true))

pub returns : goal.returns
returns c =
    let a = c.args in
    let p = c.requires in
    ap (λ (l : List ℕ). a.delta ∷ l) (sym (row_data (a.status % 16) a.status a.a a.b p.0 p.1 c.if-kind-eq14.false p.2))
