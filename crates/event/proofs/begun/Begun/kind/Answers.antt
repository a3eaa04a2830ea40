-- `kind` meets its contract. A channel message's status and the place of its data are by its own status byte, or by the running status.
use mathlib.Core.Path.{◌∙◌, sym}
use Prim.Native.Nat.{◌+◌}
use native.Mathlib.Omega.{arith}
use lib.ListN.{drop, get_or}
use Rattle.smf.specs.Event.{placed, name_raw}
use Rattle.smf.proofs.Reading.{body_missing, body_status, body_none, body_running, running_channel, status_channel}
use Rattle.base.specs.Rules.{rules_of}
use Rattle.event.specs.Begun.{delta_of}
use Rattle.event.proofs.begun.Begun.kind.Goals as goal
use Rattle.event.proofs.begun.Begun.kind.Goals.{then-byte-ge128, else-byte-ge128}

pub returns-then-raw-at : goal.returns-then-raw-at
unfolding placed name_raw
returns-then-raw-at c =
    let a = c.args in
    c.refused.ensures ∙ rw (body_missing (rules_of a.self.rules) a.running.status (delta_of a.self) a.self.raw.now a.self.at c.if-raw-at.true)

pub returns-then-byte-ge240 : goal.returns-then-byte-ge240
returns-then-byte-ge240 c =
    let a = c.args in
    c.status_kind.ensures
    ∙ rw (body_status (rules_of a.self.rules) a.running.status (delta_of a.self) a.self.raw.now a.self.at c.if-raw-at.false (omega arith))

pub returns-then-status-eq0 : goal.returns-then-status-eq0
unfolding placed name_raw
returns-then-status-eq0 c =
    c.refused-then-status-eq0.ensures
    ∙ elim c.if-byte-ge128.branch [
      | then-byte-ge128 w ↦ absurd (omega arith)
      | else-byte-ge128 w ↦ rw (body_none (rules_of c.args.self.rules) c.args.running.status (delta_of c.args.self) c.args.self.raw.now c.args.self.at c.if-raw-at.false w.if-byte-ge128.false (sym w.status-is ∙ c.if-status-eq0.true))
    ]

pub channel-requires : goal.channel-requires
channel-requires c =
    elim c.if-byte-ge128.branch [
      | then-byte-ge128 w ↦ (omega arith, omega arith)
      | else-byte-ge128 w ↦
          let r = running_channel c.args.running.status c.requires (λ z. c.if-status-eq0.false (w.status-is ∙ z)) in (omega (arith, r), omega (arith, r))
    ]

pub returns : goal.returns
returns c =
    c.channel.ensures
    ∙ elim c.if-byte-ge128.branch [
      | then-byte-ge128 w ↦ rw (body_status (rules_of c.args.self.rules) c.args.running.status (delta_of c.args.self) c.args.self.raw.now c.args.self.at c.if-raw-at.false w.if-byte-ge128.true, status_channel (rules_of c.args.self.rules) c.args.running.status (delta_of c.args.self) (get_or c.args.self.raw.now c.args.self.at 0) (drop (c.args.self.at + 1) c.args.self.raw.now) c.if-byte-ge240.false, w.status-is, w.self-is)
      | else-byte-ge128 w ↦ rw (body_running (rules_of c.args.self.rules) c.args.running.status (delta_of c.args.self) c.args.self.raw.now c.args.self.at c.if-raw-at.false w.if-byte-ge128.false (λ z. c.if-status-eq0.false (w.status-is ∙ z)), w.status-is, w.self-is)
    ]
