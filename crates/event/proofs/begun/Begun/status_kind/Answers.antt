-- `status_kind` meets its contract.
use mathlib.Core.Path.{◌∙◌}
use Rattle.std.proofs.Common.{◌≢◌, arith}
use lib.ListN.{drop}
use Rattle.smf.specs.Event.{placed, name_raw}
use Rattle.smf.proofs.Reading.{status_meta, status_payload, status_common, status_realtime}
use Rattle.base.specs.Rules.{rules_of}
use Rattle.event.specs.Begun.{delta_of}
use Rattle.event.proofs.begun.Begun.status_kind.Goals as goal

pub returns-in-241-to-246 : goal.returns-in-241-to-246
unfolding placed name_raw
returns-in-241-to-246 c =
    let a = c.args in
    let not-240 : a.status ≢ 240 = grind arith in
    let not-247 : a.status ≢ 247 = grind arith in
    c.refused.ensures
    ∙ rw (status_common (rules_of a.self.rules) a.running.status (delta_of a.self) a.status (drop a.self.at a.self.raw.now) c.requires.1 (omega arith) not-240 not-247 (omega arith))

pub returns-in-255 : goal.returns-in-255
returns-in-255 c =
    let a = c.args in
    c.meta.ensures
    ∙ rw (status_meta (rules_of a.self.rules) a.running.status (delta_of a.self) a.status (drop a.self.at a.self.raw.now) c.in-255.is)

pub returns-in-240 : goal.returns-in-240
returns-in-240 c =
    let a = c.args in
    c.payload.ensures
    ∙ rw (status_payload (rules_of a.self.rules) a.running.status (delta_of a.self) a.status (drop a.self.at a.self.raw.now) c.in-240.is)

pub returns-in_default : goal.returns-in_default
unfolding placed name_raw
returns-in_default c =
    let a = c.args in
    let not-240 : a.status ≢ 240 = grind arith in
    let not-247 : a.status ≢ 247 = grind arith in
    c.refused-in_default.ensures
    ∙ rw (status_realtime (rules_of a.self.rules) a.running.status (delta_of a.self) a.status (drop a.self.at a.self.raw.now) c.requires.1 (omega arith) not-240 not-247 (omega arith))
