-- There are as many rows as are counted.
use native.Mathlib.Omega.{arith}
use Rattle.base.specs.Rules.{rules_of}
use Rattle.write.proofs.Judging.{rows_length}
use Rattle.write.proofs.row_lists.write_rows.Goals as goal

pub write_all-requires : goal.write_all-requires
write_all-requires c = λ few. omega (arith, rows_length (rules_of c.args.rules) c.args.bytes.now c.args.count c.args.rows.now)
