-- `u28::put` meets its contract: the last byte is put first, and each turn puts the one before.
use native.Mathlib.Omega.{arith}
use Rattle.smf.proofs.Number.{encode_some}
use Rattle.number.proofs.NumberWrites.{put_length, put_more, put_step, put_begun, put_ended}
use Rattle.number.proofs.u28.put.Goals as goal

pub overflow_sub-place : goal.overflow_sub-place
overflow_sub-place c = omega (arith, encode_some c.args.self.0)

pub bounds-out-place : goal.bounds-out-place
bounds-out-place c = omega (arith, encode_some c.args.self.0)

pub loop-high-init : goal.loop-high-init
loop-high-init c = let a = c.args in put_begun a.out.now a.self.0 _ a.end (omega arith) (omega arith) (omega arith)

pub overflow_sub-place-in-loop-high : goal.overflow_sub-place-in-loop-high
overflow_sub-place-in-loop-high c = omega (arith, put_more c.loop-high.invariant c.loop-high-test.true)

pub bounds-out-place-in-loop-high : goal.bounds-out-place-in-loop-high
bounds-out-place-in-loop-high c = omega (arith, put_more c.loop-high.invariant c.loop-high-test.true, put_length c.loop-high.invariant)

pub loop-high-preserved : goal.loop-high-preserved
loop-high-preserved c = put_step c.loop-high.invariant c.loop-high-test.true

pub returns : goal.returns
returns c = let a = c.args in put_ended a.out.now a.self.0 _ a.end (omega arith) (omega arith) c.loop-high.invariant c.loop-high-test.false
