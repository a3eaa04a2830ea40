-- The loop that measures a list.
use Prim.Native.Nat.{◌≤◌, ◌<◌}
use native.Mathlib.Omega.{arith}
use lib.ListN.{length, take}
use lib.Seq.{get_or-take, length-take-le}
use Rattle.smf.specs.Answer.{refuses}
use Rattle.write.specs.Size.{most}
use Rattle.write.proofs.Measuring.{seen_first, seen_last, seen_illegal, seen_more}
use Rattle.write.proofs.events.measure_all.Goals as goal

pub loop-index-init : goal.loop-index-init
loop-index-init g c = seen_first _ _

pub returns-in-Err : goal.returns-in-Err
returns-in-Err g c =
    let all = g.E.Events.judged c.args.events.now in
    let n = c.args.count in
    let long = length-take-le n all c.requires.1 in
    let i = c.loop-index-test.true in
    let more : c.loop-index.index < length (take n all) = omega (arith, long, i) in
    let there = get_or-take n all c.loop-index.index (refuses 0) i in
    seen_illegal c.args.running.status (take n all) c.loop-index.invariant more (refuses 0) _ there c.measure.result c.measure.ensures.said c.in-Err.refusal c.in-Err.is

pub overflow_add-length : goal.overflow_add-length
overflow_add-length g c =
    let few : c.in-Ok.size.length ≤ most = rw c.in-Ok.is at c.measure.ensures.short in
    omega (arith, few, c.loop-index.invariant.small, c.requires.0, c.loop-index-test.true)

pub loop-index-preserved : goal.loop-index-preserved
loop-index-preserved g c =
    let all = g.E.Events.judged c.args.events.now in
    let n = c.args.count in
    let long = length-take-le n all c.requires.1 in
    let i = c.loop-index-test.true in
    let more : c.loop-index.index < length (take n all) = omega (arith, long, i) in
    let there = get_or-take n all c.loop-index.index (refuses 0) i in
    seen_more c.args.running.status (take n all) c.loop-index.invariant more (refuses 0) _ there c.measure.result c.measure.ensures.said c.in-Ok.size c.in-Ok.is (rw c.in-Ok.is at c.measure.ensures.short)

pub returns : goal.returns
returns g c =
    let all = g.E.Events.judged c.args.events.now in
    let n = c.args.count in
    let long = length-take-le n all c.requires.1 in
    seen_last c.args.running.status (take n all) c.loop-index.invariant (omega (arith, long, c.loop-index-test.false, c.loop-index.auto.index-end))
