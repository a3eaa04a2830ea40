-- The size of a record's event.
use Prim.Native.Nat.{◌<◌}
use native.Mathlib.Omega.{arith}
use lib.ListN.{length}
use Rattle.smf.specs.Answer.{refuses}
use Rattle.base.specs.Rules.{rules_of}
use Rattle.smf.specs.Event.{legal}
use Rattle.track.specs.List.{record_of}
use Rattle.track.proofs.Held.{past}
use lib.ListN.{get_or}
use Rattle.write.specs.Size.{size_judged}
use Rattle.write.proofs.Doors.{told, legal_number}
use Rattle.write.proofs.Judging.{records_length, record_at, record_lawful}
use Rattle.write.proofs.Measuring.{size_short}
use Rattle.write.proofs.records.RecordsEvents.measure.Goals as goal

pub measured-requires : goal.measured-requires
measured-requires c = told _ _ (legal_number _ _ _) c.event_raw.result c.event_raw.ensures

pub returns-clause-said : goal.returns-clause-said
unfolding size_judged
returns-clause-said c =
    let s = c.args.self.now in
    let r = rules_of s.rules in
    let lt : c.args.index < length s.list.now.records = omega (arith, records_length r s.bytes.now s.list.now.records, c.requires.1) in
    rw (record_at r s.bytes.now s.list.now.records c.args.index (refuses 0) lt, ← c.event_raw.ensures) c.measured.ensures

pub returns-clause-short : goal.returns-clause-short
unfolding size_judged
returns-clause-short c =
    let s = c.args.self.now in
    let r = rules_of s.rules in
    let e = record_of (get_or s.list.now.records c.args.index past) in
    size_short c.args.running.status (legal r s.bytes.now e) c.measured.result (rw (← c.event_raw.ensures) c.measured.ensures) r (record_lawful r s.bytes.now e)
