-- `event_raw` meets its contract: the delta, and what stands behind it.
use Rattle.base.specs.Rules.{rules_of}
use Rattle.event.specs.Event.{kind_of}
use Rattle.write.proofs.Forms.{behind_delta}
use Rattle.write.proofs.event_door.event_raw.Goals as goal

pub returns : goal.returns
returns c =
    let a = c.args in
    rw (behind_delta (rules_of a.rules) a.bytes.now a.event.delta.0 (kind_of a.event.kind), ← c.kind.ensures) (c.behind.ensures a.bytes.now)
