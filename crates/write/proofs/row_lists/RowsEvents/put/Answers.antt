-- A row's event is put.
use Prim.Native.Nat.{◌<◌}
use native.Mathlib.Omega.{arith}
use Rattle.smf.specs.Answer.{refuses}
use Rattle.base.specs.Rules.{rules_of}
use Rattle.write.proofs.Judging.{rows_length, rows_at}
use Rattle.write.proofs.row_lists.RowsEvents.put.Goals as goal

pub write_at-requires : goal.write_at-requires
write_at-requires c =
    let s = c.args.self.now in
    let r = rules_of s.rules in
    let lt : c.args.index < s.count = omega (arith, rows_length r s.bytes.now s.count s.cells.now, c.requires.within.1) in
    rw (rows_at r s.bytes.now s.count s.cells.now c.args.index (refuses 0) lt) at c.requires.room

pub returns : goal.returns
returns c =
    let s = c.args.self.now in
    let r = rules_of s.rules in
    let lt : c.args.index < s.count = omega (arith, rows_length r s.bytes.now s.count s.cells.now, c.requires.within.1) in
    rw (rows_at r s.bytes.now s.count s.cells.now c.args.index (refuses 0) lt) c.write_at.ensures
