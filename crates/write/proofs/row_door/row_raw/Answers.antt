-- `row_raw` meets its contract: the delta, and what stands behind it.
use Prim.Native.Nat.{◌≤◌}
use lib.ListN.{length}
use borrow.Author.Rules.{rules}
use Rattle.base.specs.Rules.{rules_of}
use Rattle.rows.specs.Rows.{width}
use Rattle.write.proofs.RowForms.{row_wide, row_narrow}
use Rattle.write.proofs.row_door.row_raw.Goals as goal

pub returns-then-delta-ge268435456 : goal.returns-then-delta-ge268435456
returns-then-delta-ge268435456 c = let a = c.args in row_wide (rules_of a.rules) a.bytes.now a.row c.if-delta-ge268435456.true

pub returns : goal.returns
returns c =
    let a = c.args in
    let long : width ≤ length a.row = search rules in
    rw (row_narrow (rules_of a.rules) a.bytes.now a.row long c.if-delta-ge268435456.false, ← c.row_made-made.ensures) (c.behind.ensures a.bytes.now)
