-- `total` meets its contract. The invariant: the sum and the tracks that are left are the whole.
use native.Mathlib.Omega.{arith}
use Rattle.bank.specs.Bank.{bank_length}
use Rattle.bank.specs.Write.{tracks_of}
use Rattle.bank.specs.Answers.{spans_of}
use Rattle.bank.proofs.Rest.{rest_first, rest_more, rest_bound, rest_end}
use Rattle.bank.proofs.Measured.{measured_over, measured_fits}
use Rattle.bank.proofs.inside.Inside.total.Goals as goal

pub loop-range-init : goal.loop-range-init
loop-range-init c = (rest_first _ _ c.args.self.all, omega (arith, c.requires))

pub returns-then-sum-range : goal.returns-then-sum-range
returns-then-sum-range c =
    let a = c.args.self in
    let i = c.loop-range.invariant in
    measured_over (bank_length (tracks_of a.bytes.now (spans_of a.ranges.now))) (omega (arith, rest_bound _ _ i.0 (record { start = 0; length = 0 }) c.loop-range-test.true, i.1))

pub overflow_add-sum-in-loop-range : goal.overflow_add-sum-in-loop-range
overflow_add-sum-in-loop-range c = let i = c.loop-range.invariant in omega (arith, i.1)

pub loop-range-preserved : goal.loop-range-preserved
loop-range-preserved c =
    let i = c.loop-range.invariant in
    (rest_more _ _ i.0 _ c.loop-range-test.true, omega (arith, i.1))

pub returns : goal.returns
returns c =
    let i = c.loop-range.invariant in
    measured_fits _ _ (rest_end _ _ i.0 c.loop-range-test.false) i.1
