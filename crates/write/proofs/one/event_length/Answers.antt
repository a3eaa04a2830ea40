-- `event_length` meets its contract: the running status first.
use Rattle.smf.specs.Event.{legal}
use Rattle.base.specs.Rules.{rules_of}
use Rattle.event.specs.Event.{event_of}
use Rattle.write.specs.Size.{size_judged, size_event}
use Rattle.write.proofs.Doors.{legal_number, told}
use Rattle.write.proofs.one.event_length.Goals as goal

pub length_from-requires : goal.length_from-requires
length_from-requires c =
    let a = c.args in
    told a.bytes.now (legal (rules_of a.rules) a.bytes.now (event_of a.event)) (legal_number (rules_of a.rules) a.bytes.now (event_of a.event)) c.event_raw.result c.event_raw.ensures

pub returns : goal.returns
unfolding size_event size_judged
returns c = rw (← c.event_raw.ensures) c.length_from.ensures
