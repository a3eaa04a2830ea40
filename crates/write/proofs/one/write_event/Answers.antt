-- `write_event` meets its contract: the running status first.
use Rattle.smf.specs.Event.{legal, write_event}
use Rattle.base.specs.Rules.{rules_of}
use Rattle.event.specs.Event.{event_of}
use Rattle.write.proofs.Doors.{legal_number, told}
use Rattle.write.proofs.Steps.{by_judged}
use Rattle.write.proofs.one.write_event.Goals as goal

pub written_from-requires : goal.written_from-requires
written_from-requires c =
    let a = c.args in
    told a.bytes.now (legal (rules_of a.rules) a.bytes.now (event_of a.event)) (legal_number (rules_of a.rules) a.bytes.now (event_of a.event)) c.event_raw.result c.event_raw.ensures

pub returns : goal.returns
unfolding write_event
returns c = rw (by_judged, ← c.event_raw.ensures) c.written_from.ensures
