-- A record's event is put.
use Prim.Native.Nat.{◌<◌}
use native.Mathlib.Omega.{arith}
use lib.ListN.{length}
use Rattle.smf.specs.Answer.{refuses}
use Rattle.base.specs.Rules.{rules_of}
use Rattle.write.proofs.Doors.{told, legal_number}
use Rattle.write.proofs.Judging.{records_length, record_at}
use Rattle.write.proofs.Steps.{wrote_there}
use Rattle.write.proofs.records.RecordsEvents.put.Goals as goal

pub written-requires : goal.written-requires
written-requires c = told _ _ (legal_number _ _ _) c.event_raw-judged.result c.event_raw-judged.ensures

pub unwrap-requires : goal.unwrap-requires
unwrap-requires c =
    let s = c.args.self.now in
    let r = rules_of s.rules in
    let lt : c.args.index < length s.list.now.records = omega (arith, records_length r s.bytes.now s.list.now.records, c.requires.within.1) in
    wrote_there _ _ _ _ _ _ (rw (record_at r s.bytes.now s.list.now.records c.args.index (refuses 0) lt) at c.requires.room) (rw c.event_raw-judged.ensures at c.written.ensures)

pub returns : goal.returns
returns c =
    let s = c.args.self.now in
    let r = rules_of s.rules in
    let lt : c.args.index < length s.list.now.records = omega (arith, records_length r s.bytes.now s.list.now.records, c.requires.within.1) in
    rw (record_at r s.bytes.now s.list.now.records c.args.index (refuses 0) lt, ← c.event_raw-judged.ensures) (rw c.unwrap.ensures at c.written.ensures)
