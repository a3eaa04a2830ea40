-- `single` is safe: a pattern that is not above an infinity's, but for its sign, is no NaN's.
use Rattle.std.proofs.Common.{Bool, not, T, sym, subst, arith}
use lib.Arith.{le→nltb}
use lib.Ieee.{binary32}
use lib.Ieee.Bits.{nan_bits_above}
use Rattle.vectors.proofs.floats.single.Goals as goal

pub float_from_bits-result : goal.float_from_bits-result
float_from_bits-result c =
    subst (λ (b : Bool). T (not b)) (sym (nan_bits_above binary32 c.args.bits)) (le→nltb _ _ (omega arith))
