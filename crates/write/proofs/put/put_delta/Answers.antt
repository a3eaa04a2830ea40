-- `put_delta` meets its contract: one byte, or as many as the number has.
use mathlib.Core.Path.{ap}
use native.Mathlib.Omega.{arith}
use lib.ListN.{length}
use Rattle.smf.proofs.Write.{number_put}
use Rattle.write.proofs.Storing.{over_one, small_number, number_there}
use Rattle.write.proofs.put.put_delta.Goals as goal

pub bounds-out-at : goal.bounds-out-at
bounds-out-at c = omega (arith, ap length (small_number c.args.delta.0 c.if-int-lt128.true))

pub returns-then-int-lt128 : goal.returns-then-int-lt128
returns-then-int-lt128 c =
    let a = c.args in
    let e = small_number a.delta.0 c.if-int-lt128.true in
    record { place = rw e; buffer = rw e (over_one a.out.now a.at a.delta.0 (omega (arith, ap length e))) }

pub unwrap-requires : goal.unwrap-requires
unwrap-requires c = rw (number_there c.args.delta.0 c.args.out.now c.args.at _ _ c.requires.0 c.requires.1 c.write_varlen.ensures)

pub returns : goal.returns
returns c =
    let there = number_there c.args.delta.0 c.args.out.now c.args.at _ _ c.requires.0 c.requires.1 c.write_varlen.ensures in
    let is = c.unwrap.ensures in
    record {
      place = cc;
      buffer = number_put c.args.delta.0 c.args.out.now c.args.at _ c.requires.0 c.requires.1 c.write_varlen.ensures;
    }
