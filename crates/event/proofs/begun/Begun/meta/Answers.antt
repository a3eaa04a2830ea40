-- `meta` meets its contract.
use Rattle.std.specs.Prelude.{Ok, Err}
use Rattle.smf.specs.Event.{refused_at}
use Rattle.base.specs.Refusal.{number_of}
use Rattle.event.specs.Event.{event_read}
use mathlib.Core.Path.{◌≡◌, ◌∙◌, sym, ap}
use native.Mathlib.Omega.{arith}
use Rattle.std.proofs.Common.{rules}
use Rattle.std.proofs.lemmas.Result.{err_from_is_err_and}
use Rattle.smf.proofs.Answer.{said_of, said_refused}
use Rattle.smf.proofs.Reading.{Answers, meta_answers}
use Rattle.meta.specs.Meta.{meta_read}
use Rattle.base.specs.Rules.{rules_of}
use Rattle.event.specs.Begun.{delta_of}
use Rattle.event.proofs.Tried.{ok_back, err_back}
use Rattle.event.proofs.begun.Begun.meta.Goals as goal
use Rattle.event.proofs.begun.Begun.meta.Goals.{In_ok-m}

-- what the reader of the message found: its event, and where it ends
found : (c : In_ok-m) → let a = c.args.self in Answers (rules_of a.rules) a.raw.now a.start a.at (delta_of a) a.sited (meta_read (Ok c.in_ok-m.m))
found c =
    let a = c.args.self in
    let m = ok_back c.read.result c.map_err.result _ c.map_err.ensures.cases c.map_err.ensures.variant c.in_ok-m.was in
    said_of (Answers (rules_of a.rules) a.raw.now a.start a.at (delta_of a) a.sited) (meta_answers (rules_of a.rules) a.raw.now a.start a.at (delta_of a) a.sited) (sym c.read.ensures ∙ ap meta_read m)

pub overflow_add-padding : goal.overflow_add-padding
overflow_add-padding c = omega (arith, (found (goal.at.overflow_add-padding c).In_ok-m).2, c.args.self.padded)

pub event-requires : goal.event-requires
event-requires c = (found (goal.at.event-requires c).In_ok-m).1

pub returns-in_err-m : goal.returns-in_err-m
returns-in_err-m c =
    let a = c.args.self in
    let n = err_from_is_err_and c.from_residual.result c.from_residual.ensures.1 in
    let m = err_back c.read.result c.map_err.result _ c.map_err.ensures.cases c.map_err.ensures.variant c.in_err-m.was in let f : event_read (Err c.in_err-m.field-0.0) ≡ refused_at (number_of m.0) 0 0 0 = search (rules, m.2) in
    rw (n.1, n.2)
    (f ∙ said_refused (Answers (rules_of a.rules) a.raw.now a.start a.at (delta_of a) a.sited) (meta_answers (rules_of a.rules) a.raw.now a.start a.at (delta_of a) a.sited) (sym c.read.ensures ∙ ap meta_read m.1))

pub returns : goal.returns
returns c = c.event.ensures ∙ (found (goal.at.returns c).In_ok-m).0
