-- `u28::varlen_length` meets its contract, by the lengths of the shortest forms.
use native.Mathlib.Omega.{arith}
use Rattle.smf.proofs.Number.{encode_one, encode_count, encode_full}
use Rattle.number.proofs.u28.varlen_length.Goals as goal

pub returns-in-0-to-127 : goal.returns-in-0-to-127
returns-in-0-to-127 c = omega (arith, encode_one c.args.self.0 (omega arith))

pub returns-in-128-to-16383 : goal.returns-in-128-to-16383
returns-in-128-to-16383 c = omega (arith, encode_count 0 c.args.self.0 (omega arith) (omega arith) (omega arith))

pub returns-in-16384-to-2097151 : goal.returns-in-16384-to-2097151
returns-in-16384-to-2097151 c = omega (arith, encode_count 1 c.args.self.0 (omega arith) (omega arith) (omega arith))

pub returns-in_default : goal.returns-in_default
returns-in_default c = omega (arith, encode_full c.args.self.0 (omega arith))
