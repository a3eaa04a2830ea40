-- `are_inside` meets its contract, by what looking at one range behind the other finds.
use Rattle.std.proofs.Common.{rules, tests}
use Rattle.std.proofs.lemmas.Iterator.{cases_from_all, YieldsList-from_slice}
use Rattle.bank.proofs.Rest.{In, Out, looked}
use Rattle.bank.proofs.writing.are_inside.Goals as goal

pub returns : goal.returns
returns c =
    let a = c.args in
    looked a.bytes.now a.ranges.now _
    (cases_from_all _ _ _ (In a.bytes.now) (Out a.bytes.now) c.all.ensures.ran (YieldsList-from_slice a.ranges.now cc) (λ x q k. search (rules, tests)) (λ x q k. search (rules, tests)))
