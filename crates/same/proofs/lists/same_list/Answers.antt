-- `same_list` meets its contract: its loop goes on while the events agree.
use mathlib.Core.Path.{◌≡◌}
use native.Mathlib.Omega.{arith}
use lib.ListN.{length, get_or}
use borrow.Author.Rules.{rules}
use Rattle.smf.specs.Event.{Same}
use Rattle.track.specs.List.{capacity, record_of}
use Rattle.track.proofs.Held.{past, unmapped}
use Rattle.same.proofs.SameTests.{told_true, told_false}
use Rattle.same.proofs.SameLists.{same_more, not_same}
use Rattle.same.proofs.lists.same_list.Goals as goal

pub returns-then-not-same_record : goal.returns-then-not-same_record
returns-then-not-same_record c =
    let l = c.loop-i in
    let a = c.args in
    let p : length a.a.records ≡ capacity = search (rules, unmapped) in
    let q : length a.b.records ≡ capacity = search (rules, unmapped) in
    not_same a.a_bytes.now a.a.records a.b_bytes.now a.b.records l.i (omega arith) (omega arith)
    (omega arith) c.if-b-a.false
    (told_false (Same a.a_bytes.now (record_of (get_or a.a.records l.i past)) a.b_bytes.now (record_of (get_or a.b.records l.i past))) c.same_record.result c.same_record.ensures (c.if-not-same_record.true))

pub loop-i-preserved : goal.loop-i-preserved
loop-i-preserved c =
    let l = c.loop-i in
    let a = c.args in
    let p : length a.a.records ≡ capacity = search (rules, unmapped) in
    let q : length a.b.records ≡ capacity = search (rules, unmapped) in
    same_more a.a_bytes.now a.a.records a.b_bytes.now a.b.records l.i (omega arith) (omega arith) l.invariant
    (told_true (Same a.a_bytes.now (record_of (get_or a.a.records l.i past)) a.b_bytes.now (record_of (get_or a.b.records l.i past))) c.same_record.result c.same_record.ensures (c.if-not-same_record.false))
