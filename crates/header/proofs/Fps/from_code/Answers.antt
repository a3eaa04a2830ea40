-- `Fps::from_code` meets its contract: a code's low two bits, number by number.
use mathlib.Core.Path.{◌≡◌}
use Rattle.std.proofs.Common.{◌≢◌, arith}
use borrow.Author.Tests.{ne_eqb}
use Rattle.smf.specs.Smpte.{rate_of_code}
use Rattle.smf.specs.Width.{low_bits}
use Rattle.header.proofs.Fps.from_code.Goals as goal
use Rattle.header.proofs.Fps.from_code.Goals.{After-as_int-code}

-- what is matched on
low : (c : After-as_int-code) → c.as_int-code.result ≡ low_bits 2 c.args.code.0
low c = cc

pub returns-in-0 : goal.returns-in-0
unfolding rate_of_code
returns-in-0 c = rw (← low (goal.at.returns-in-0 c).After-as_int-code, c.in-0.is)

pub returns-in-1 : goal.returns-in-1
unfolding rate_of_code
returns-in-1 c = rw (← low (goal.at.returns-in-1 c).After-as_int-code, c.in-1.is)

pub returns-in-2 : goal.returns-in-2
unfolding rate_of_code
returns-in-2 c = rw (← low (goal.at.returns-in-2 c).After-as_int-code, c.in-2.is)

pub returns-in_default : goal.returns-in_default
unfolding rate_of_code
returns-in_default c =
    let code = low_bits 2 c.args.code.0 in
    let same = low (goal.at.returns-in_default c).After-as_int-code in
    let not-0 : code ≢ 0 = omega (arith, same) in
    let not-1 : code ≢ 1 = omega (arith, same) in
    let not-2 : code ≢ 2 = omega (arith, same) in
    rw (ne_eqb _ _ not-0, ne_eqb _ _ not-1, ne_eqb _ _ not-2)
