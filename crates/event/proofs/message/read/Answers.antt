-- `read` meets its contract, arm by arm.
use Rattle.std.proofs.Common.{◌/◌, ◌≢◌, arith}
use borrow.Author.Tests.{ne_eqb}
use Rattle.smf.specs.Wire.{data_length}
use Rattle.smf.specs.Kind.{message_one, message_two}
use Rattle.smf.proofs.Reading.{message_with}
use Rattle.event.proofs.message.read.Goals as goal

pub returns-in-8 : goal.returns-in-8
unfolding data_length message_with message_one message_two
returns-in-8 c = rw c.in-8.is

pub returns-in-9 : goal.returns-in-9
unfolding data_length message_with message_one message_two
returns-in-9 c = rw c.in-9.is

pub returns-in-10 : goal.returns-in-10
unfolding data_length message_with message_one message_two
returns-in-10 c = rw c.in-10.is

pub returns-in-11 : goal.returns-in-11
unfolding data_length message_with message_one message_two
returns-in-11 c = rw c.in-11.is

pub returns-in-12 : goal.returns-in-12
unfolding data_length message_with message_one message_two
returns-in-12 c = rw c.in-12.is

pub returns-in-13 : goal.returns-in-13
unfolding data_length message_with message_one message_two
returns-in-13 c = rw c.in-13.is

pub returns-in_default : goal.returns-in_default
unfolding data_length message_with message_one message_two
returns-in_default c =
    let upper = c.args.status / 16 in
    let not-8 : upper ≢ 8 = omega arith in
    let not-9 : upper ≢ 9 = omega arith in
    let not-10 : upper ≢ 10 = omega arith in
    let not-11 : upper ≢ 11 = omega arith in
    let not-12 : upper ≢ 12 = omega arith in
    let not-13 : upper ≢ 13 = omega arith in
    rw (c.from-lsb.ensures, c.from-msb.ensures, ne_eqb _ _ not-12, ne_eqb _ _ not-13, ne_eqb _ _ not-8, ne_eqb _ _ not-9, ne_eqb _ _ not-10, ne_eqb _ _ not-11)
