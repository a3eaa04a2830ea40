-- `load_length` meets its contract.
use native.Mathlib.Omega.{arith}
use borrow.Author.Rules.{rules}
use Rattle.smf.proofs.Number.{encode_most}
use Rattle.write.proofs.length.load_length.Goals as goal

pub overflow_add-result : goal.overflow_add-result
overflow_add-result c = omega (arith, c.varlen_length.ensures, encode_most c.args.n)

pub returns : goal.returns
returns c = search rules
