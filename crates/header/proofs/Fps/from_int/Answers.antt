-- `Fps::from_int` meets its contract, number by number.
use Rattle.std.proofs.Common.{◌≢◌, arith}
use borrow.Author.Tests.{ne_eqb}
use Rattle.smf.specs.Smpte.{is_rate, to_rate}
use Rattle.header.proofs.Fps.from_int.Goals as goal

pub returns-in-24 : goal.returns-in-24
unfolding to_rate is_rate
returns-in-24 c = rw c.in-24.is

pub returns-in-25 : goal.returns-in-25
unfolding to_rate is_rate
returns-in-25 c = rw c.in-25.is

pub returns-in-29 : goal.returns-in-29
unfolding to_rate is_rate
returns-in-29 c = rw c.in-29.is

pub returns-in-30 : goal.returns-in-30
unfolding to_rate is_rate
returns-in-30 c = rw c.in-30.is

pub returns-in_default : goal.returns-in_default
unfolding to_rate is_rate
returns-in_default c =
    let not-24 : c.args.raw ≢ 24 = omega arith in
    let not-25 : c.args.raw ≢ 25 = omega arith in
    let not-29 : c.args.raw ≢ 29 = omega arith in
    let not-30 : c.args.raw ≢ 30 = omega arith in
    rw (ne_eqb _ _ not-24, ne_eqb _ _ not-25, ne_eqb _ _ not-29, ne_eqb _ _ not-30)
