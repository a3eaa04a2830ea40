-- `channel_length` meets its contract: with the status byte, or without.
use mathlib.Core.Bool.{Bool, true, false}
use Prim.Native.Nat.{◌≤◌}
use native.Mathlib.Omega.{arith}
use lib.Dec.{eqb}
use Rattle.smf.proofs.Answer.{by_test}
use Rattle.smf.specs.Answer.{pick}
use Rattle.write.proofs.length.channel_length.Goals as goal

-- one data byte, or two
data_few : (t : Bool) → pick t 2 1 ≤ 2
data_few true = omega arith
data_few false = omega arith

pub overflow_add-result : goal.overflow_add-result
overflow_add-result c =
    let a = c.args in
    by_test (eqb a.running.status a.c.status)
    (λ e. omega (arith, rw e at c.from.ensures, c.data_length.ensures, data_few a.c.pair))
    (λ e. omega (arith, rw e at c.from.ensures, c.data_length.ensures, data_few a.c.pair))

pub returns : goal.returns
returns c =
    let a = c.args in
    by_test (eqb a.running.status a.c.status)
    (λ e. rw e (omega (arith, rw e at c.from.ensures, c.data_length.ensures)))
    (λ e. rw e (omega (arith, rw e at c.from.ensures, c.data_length.ensures)))
