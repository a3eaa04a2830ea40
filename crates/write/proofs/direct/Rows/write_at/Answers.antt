-- `write_at` meets its contract: a legal channel message's cells are within their widths, and every other row goes through its door.
use Rattle.write.proofs.Steps.{wrote_there}
use native.Mathlib.Omega.{arith}
use Rattle.base.specs.Rules.{rules_of}
use Rattle.write.proofs.Doors.{row_number, told}
use Rattle.write.proofs.Straight.{direct_judged, judged_there, judged_direct, judged_message}
use Rattle.write.proofs.direct.Rows.write_at.Goals as goal

pub overflow_add-at : goal.overflow_add-at
overflow_add-at c = omega (arith, judged_there c.args.self.now.cells.now c.args.at (rules_of c.args.self.now.rules) c.args.self.now.bytes.now c.requires.1)

pub offset_bounds-rows-at : goal.offset_bounds-rows-at
offset_bounds-rows-at c = omega (arith, judged_there c.args.self.now.cells.now c.args.at (rules_of c.args.self.now.rules) c.args.self.now.bytes.now c.requires.1)

pub bounds-rows-at : goal.bounds-rows-at
bounds-rows-at c = omega (arith, judged_there c.args.self.now.cells.now c.args.at (rules_of c.args.self.now.rules) c.args.self.now.bytes.now c.requires.1)

pub put_direct-requires : goal.put_direct-requires
put_direct-requires c =
    let h = c.if-rows-at-lt15.true in
    let a = c.args in (
      judged_direct a.self.now.cells.now a.at (rules_of a.self.now.rules) a.self.now.bytes.now c.requires.1 h,
      rw (judged_message a.self.now.cells.now a.at (rules_of a.self.now.rules) a.self.now.bytes.now c.requires.1 h) at c.requires.2,
    )

pub returns-then-rows-at-lt15 : goal.returns-then-rows-at-lt15
returns-then-rows-at-lt15 c =
    let h = c.if-rows-at-lt15.true in
    let a = c.args in
    let d = judged_direct a.self.now.cells.now a.at (rules_of a.self.now.rules) a.self.now.bytes.now c.requires.1 h in
    rw (direct_judged a.self.now.cells.now a.at (rules_of a.self.now.rules) a.self.now.bytes.now d) c.put_direct.ensures

pub written-requires : goal.written-requires
written-requires c = told _ _ (row_number _ _ _) c.judge_at.result c.judge_at.ensures

pub returns : goal.returns
returns c = rw (← c.judge_at.ensures) (rw c.unwrap.ensures at c.written.ensures)

pub unwrap-requires : goal.unwrap-requires
unwrap-requires c = wrote_there _ _ _ _ _ _ c.requires (rw c.judge_at.ensures at c.written.ensures)
