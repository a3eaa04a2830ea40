-- The loop that writes a list: each event was measured, so that none is refused.
use mathlib.Core.Path.{refl}
use Prim.Native.Nat.{◌<◌}
use native.Mathlib.Omega.{arith}
use lib.ListN.{length, take}
use lib.Seq.{get_or-take, length-take-le}
use Rattle.std.specs.Prelude.{Ok}
use Rattle.smf.specs.Answer.{refuses}
use Rattle.write.proofs.Writing.{going_first, going_last, going_room, going_more}
use Rattle.write.proofs.events.put_all.Goals as goal

pub loop-index-init : goal.loop-index-init
loop-index-init g c = going_first _ _ _ c.requires.room_for

pub put-past-requires-clause-room : goal.put-past-requires-clause-room
put-past-requires-clause-room g c =
    let all = g.E.Events.judged c.args.events.now in
    let n = c.args.count in
    let long = length-take-le n all c.requires.count_le_capacity.1 in
    let i = c.loop-index-test.true in
    let more : c.loop-index.index < length (take n all) = omega (arith, long, i) in
    let there = get_or-take n all c.loop-index.index (refuses 0) i in
    going_room c.args.running.status (take n all) c.args.out.now c.loop-index.invariant (refuses 0) _ there more

pub loop-index-preserved : goal.loop-index-preserved
loop-index-preserved g c =
    let all = g.E.Events.judged c.args.events.now in
    let n = c.args.count in
    let long = length-take-le n all c.requires.count_le_capacity.1 in
    let i = c.loop-index-test.true in
    let more : c.loop-index.index < length (take n all) = omega (arith, long, i) in
    let there = get_or-take n all c.loop-index.index (refuses 0) i in
    going_more c.args.running.status (take n all) c.args.out.now c.loop-index.invariant (refuses 0) _ there more (Ok c.put-past.result) _ c.put-past.ensures c.put-past.result refl

pub returns : goal.returns
returns g c =
    let all = g.E.Events.judged c.args.events.now in
    let n = c.args.count in
    let long = length-take-le n all c.requires.count_le_capacity.1 in
    going_last c.args.running.status (take n all) c.args.out.now c.loop-index.invariant (omega (arith, long, c.loop-index-test.false, c.loop-index.auto.index-end))
