-- `TrackEvent::read` meets its contract.
use Rattle.std.specs.Prelude.{Ok, Err}
use mathlib.Core.Path.{◌≡◌, ◌∙◌, sym, ap}
use Rattle.std.proofs.Common.{rules}
use Rattle.std.proofs.lemmas.Result.{err_from_is_err_and}
use Rattle.smf.specs.Place.{number_at}
use Rattle.smf.specs.Event.{refused_at}
use Rattle.smf.proofs.Reading.{event_invalid, event_refused, event_body}
use Rattle.base.specs.Refusal.{number_of}
use Rattle.number.specs.Varlen.{number_read_of}
use Rattle.base.specs.Rules.{rules_of}
use Rattle.event.specs.Event.{event_read}
use Rattle.event.proofs.Tried.{ok_back, err_back}
use Rattle.event.proofs.TrackEvent.read.Goals as goal
use Rattle.event.proofs.TrackEvent.read.Goals.{In_ok-number}

pub returns-then-not-is_valid : goal.returns-then-not-is_valid
returns-then-not-is_valid c =
    let a = c.args in
    c.refused.ensures ∙ event_invalid (rules_of a.rules) a.running.status a.raw.now a.at (sym c.is_valid.ensures ∙ c.if-not-is_valid.true)

pub returns-in_err-number : goal.returns-in_err-number
returns-in_err-number c =
    let a = c.args in
    let n = err_from_is_err_and c.from_residual.result c.from_residual.ensures.1 in
    let m = err_back c.read_u7.result c.map_err.result _ c.map_err.ensures.cases c.map_err.ensures.variant c.in_err-number.was in
    let f : event_read (Err c.in_err-number.field-0.0) ≡ refused_at (number_of m.0) 0 a.running.status 0 = search (rules, m.2) in
    rw (n.1, n.2)
    (f ∙ event_refused (rules_of a.rules) a.running.status a.raw.now a.at (sym c.is_valid.ensures ∙ c.if-not-is_valid.false) (sym c.read_u7.ensures ∙ ap number_read_of m.1))

-- the number that was read
numbered : (c : In_ok-number) → number_at (rules_of c.args.rules) c.args.raw.now c.args.at ≡ number_read_of (Ok c.in_ok-number.number)
numbered c =
    sym c.read_u7.ensures
    ∙ ap number_read_of (ok_back c.read_u7.result c.map_err.result _ c.map_err.ensures.cases c.map_err.ensures.variant c.in_ok-number.was)

pub invariant_of-begun : goal.invariant_of-begun
invariant_of-begun c =
    let a = c.args in
    let b = event_body (rules_of a.rules) a.running.status a.raw.now a.at (sym c.is_valid.ensures ∙ c.if-not-is_valid.false) (numbered (goal.at.invariant_of-begun c).In_ok-number) in
    record { sited = b.1; padded = b.2 }

pub returns : goal.returns
returns c =
    let a = c.args in
    c.kind.ensures
    ∙ (event_body (rules_of a.rules) a.running.status a.raw.now a.at (sym c.is_valid.ensures ∙ c.if-not-is_valid.false) (numbered (goal.at.returns c).In_ok-number)).0
