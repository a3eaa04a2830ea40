-- `measured` meets its contract: what was let through has a size.
use Rattle.std.specs.Prelude.{Err}
use mathlib.Core.Path.{◌≡◌}
use Rattle.std.proofs.lemmas.Result.{err_from_is_err_and}
use mathlib.Core.Path.{ap, subst}
use borrow.Author.Tests.{lt-ltb}
use Rattle.smf.specs.Answer.{gives}
use Rattle.write.specs.Raw.{LetThrough}
use Rattle.write.proofs.step.measured.Goals as goal

pub raw_size-requires : goal.raw_size-requires
raw_size-requires c = let t = subst (LetThrough c.args.bytes.now) c.in_ok-event.was c.requires in t.1

pub returns-in_err-event : goal.returns-in_err-event
returns-in_err-event c = let p = err_from_is_err_and c.from_residual.result c.from_residual.ensures.1 in let was : c.args.judged ≡ Err c.in_err-event.field-0.0 = c.in_err-event.was in rw (p.1, p.2, was)

pub returns : goal.returns
returns c =
    let t = subst (LetThrough c.args.bytes.now) c.in_ok-event.was c.requires in
    rw (c.in_ok-event.was, lt-ltb _ _ t.0, t.1) (ap gives c.raw_size.ensures)
