-- `SmpteTime::encode` meets its contract: the hour's five bits and the rate code's two do not meet in the first byte.
use mathlib.Core.Path.{◌≡◌, sym, ◌∙◌}
use mathlib.Core.Bool.{true}
use Prim.Native.Nat.{◌+◌, ◌*◌, ◌%◌, ◌<◌}
use native.Mathlib.Nat.{mod-eq_of_lt}
use native.Mathlib.Omega.{arith}
use lib.Bits.{bit_or, or_shifted_r}
use Rattle.smf.specs.Answer.{Rules}
use Rattle.smf.specs.Smpte.{Time, is_time, code_of_rate, time_bytes, encode_time}
use Rattle.smf.proofs.Smpte.{in_range, rate_coded}
use Rattle.base.specs.Rules.{rules_of}
use Rattle.header.specs.Smpte.{smpte_time_of}
use Rattle.header.proofs.SmpteTime.encode.Goals as goal
use Rattle.header.proofs.SmpteTime.encode.Goals.{After-as_int}

pub returns-then-not-in_range : goal.returns-then-not-in_range
unfolding encode_time
returns-then-not-in_range c = rw (sym c.in_range.ensures ∙ c.if-not-in_range.true)

-- the time is legal
legal : (c : After-as_int) → is_time (rules_of c.args.rules) (smpte_time_of c.args.self) ≡ true
legal c = sym c.in_range.ensures ∙ c.if-not-in_range.false

-- the time that is written
abbrev written : After-as_int → Time
written c = smpte_time_of c.args.self

-- the rules by which that time is judged
abbrev ruled : After-as_int → Rules
ruled c = rules_of c.args.rules

-- the rate code behind the hour's five bits
first : (c : After-as_int) → bit_or (written c).hour (c.as_int.result * 32 % 256) ≡ code_of_rate (written c).rate * 32 + (written c).hour
first c =
    let code : c.as_int.result ≡ code_of_rate (written c).rate = cc in
    let ranges = in_range (ruled c) (written c) (legal c) in
    let small = (rate_coded (written c).rate ranges.rated).small in
    let fits : code_of_rate (written c).rate * 32 < 256 = omega arith in
    rw (code, mod-eq_of_lt fits) (or_shifted_r (code_of_rate (written c).rate) 5 (written c).hour (omega arith))

pub returns : goal.returns
unfolding encode_time time_bytes
returns c = rw (legal (goal.at.returns c).After-as_int, first (goal.at.returns c).After-as_int)
