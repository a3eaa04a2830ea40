-- `is_inside` meets its contract.
use mathlib.Core.Path.{◌∙◌}
use native.Mathlib.Omega.{arith}
use borrow.Author.Tests.{lt-leb}
use Rattle.number.proofs.Inside.{inside_long, inside_start}
use Rattle.number.proofs.payload.is_inside.Goals as goal

pub returns-then-slice-bytes : goal.returns-then-slice-bytes
returns-then-slice-bytes c = let a = c.args in inside_start a.bytes.now _ (omega arith)

pub returns-else-slice-bytes : goal.returns-else-slice-bytes
returns-else-slice-bytes c = let a = c.args in lt-leb _ _ c.if-slice-bytes.false ∙ inside_long a.bytes.now _ (omega arith)
