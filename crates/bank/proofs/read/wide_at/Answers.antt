-- `wide_at` meets its contract.
use native.Mathlib.Omega.{arith}
use Rattle.bank.specs.Read.{wide_from}
use Rattle.bank.proofs.read.wide_at.Goals as goal

pub returns : goal.returns
unfolding wide_from
returns c = (omega (arith, c.from_be_bytes.ensures), omega arith)
