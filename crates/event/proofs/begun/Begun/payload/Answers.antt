-- `payload` meets its contract.
use mathlib.Core.Path.{◌≡◌, ◌∙◌, sym, ap}
use Prim.Native.Nat.{◌≤◌}
use native.Mathlib.Omega.{arith}
use lib.ListN.{length}
use Rattle.std.specs.Prelude.{Err}
use Rattle.smf.specs.Event.{refused_at}
use Rattle.base.specs.Refusal.{number_of}
use Rattle.event.specs.Event.{event_read}
use Rattle.event.proofs.Tried.{ok_back, err_back}
use Rattle.std.proofs.Common.{rules}
use Rattle.std.proofs.lemmas.Result.{err_from_is_err_and}
use Rattle.smf.specs.Answer.{gives}
use Rattle.smf.specs.Place.{payload_at}
use Rattle.smf.proofs.MetaAt.{end_of}
use Rattle.smf.proofs.Reading.{payload_refused, payload_fits, payload_inside, payload_padded, payload_sys_ex, payload_escape}
use Rattle.number.specs.Payload.{payload_of, slice_read}
use Rattle.meta.specs.Meta.{span_of}
use Rattle.base.specs.Rules.{rules_of}
use Rattle.event.specs.Begun.{delta_of}
use Rattle.event.proofs.begun.Begun.payload.Goals as goal
use Rattle.event.proofs.begun.Begun.payload.Goals.{In_ok-load}

-- what the reader of the payload found
sliced : (c : In_ok-load) → let a = c.args in payload_at (rules_of a.self.rules) a.self.raw.now a.self.at ≡ gives (payload_of c.in_ok-load.load)
sliced c =
    sym c.read_varlen_slice.ensures
    ∙ ap slice_read (ok_back c.read_varlen_slice.result c.map_err.result _ c.map_err.ensures.cases c.map_err.ensures.variant c.in_ok-load.was)

-- it ends behind the event's beginning, within the bytes
ends : (c : In_ok-load) → let a = c.args in (a.self.start ≤ end_of (span_of c.in_ok-load.load.range)) × (end_of (span_of c.in_ok-load.load.range) ≤ length a.self.raw.now)
ends c =
    let a = c.args in (
      payload_fits (rules_of a.self.rules) a.self.raw.now a.self.start a.self.at a.status (delta_of a.self) c.args.self.sited c.requires (sliced c),
      payload_inside (rules_of a.self.rules) a.self.raw.now a.self.start a.self.at a.status (delta_of a.self) c.args.self.sited c.requires (sliced c),
    )

pub overflow_add-next : goal.overflow_add-next
overflow_add-next c = omega (arith, (ends (goal.at.overflow_add-next c).In_ok-load).1)

pub overflow_add-padding : goal.overflow_add-padding
overflow_add-padding c =
    let a = c.args in
    omega (arith, payload_padded (rules_of a.self.rules) a.self.raw.now a.self.start a.self.at a.status (delta_of a.self) c.args.self.sited c.requires (sliced (goal.at.overflow_add-padding c).In_ok-load), (ends (goal.at.overflow_add-padding c).In_ok-load).1, c.args.self.padded)

pub event-requires : goal.event-requires
event-requires c = (ends (goal.at.event-requires c).In_ok-load).0

pub returns-then-status-eq240 : goal.returns-then-status-eq240
returns-then-status-eq240 c =
    let a = c.args in
    c.event.ensures
    ∙ payload_sys_ex (rules_of a.self.rules) a.self.raw.now a.self.start a.self.at a.status (delta_of a.self) c.args.self.sited c.requires (sliced (goal.at.returns-then-status-eq240 c).In_ok-load) c.if-status-eq240.true

pub event-requires-2 : goal.event-requires-2
event-requires-2 c = (ends (goal.at.event-requires-2 c).In_ok-load).0

pub returns-in_err-load : goal.returns-in_err-load
returns-in_err-load c =
    let a = c.args.self in
    let n = err_from_is_err_and c.from_residual.result c.from_residual.ensures.1 in
    let m = err_back c.read_varlen_slice.result c.map_err.result _ c.map_err.ensures.cases c.map_err.ensures.variant c.in_err-load.was in
    let f : event_read (Err c.in_err-load.field-0.0) ≡ refused_at (number_of m.0) 0 0 0 = search (rules, m.2) in
    rw (n.1, n.2)
    (f ∙ payload_refused (rules_of a.rules) a.raw.now a.start a.at c.args.status (delta_of a) a.sited c.requires (sym c.read_varlen_slice.ensures ∙ ap slice_read m.1))

pub returns : goal.returns
returns c =
    let a = c.args in
    c.event-2.ensures
    ∙ payload_escape (rules_of a.self.rules) a.self.raw.now a.self.start a.self.at a.status (delta_of a.self) c.args.self.sited c.requires (sliced (goal.at.returns c).In_ok-load) c.if-status-eq240.false
