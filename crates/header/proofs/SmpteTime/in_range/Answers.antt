-- `SmpteTime::in_range` meets its contract: where the other fields are in their ranges, the subframe decides.
use mathlib.Core.Path.{sym, ◌∙◌}
use native.Mathlib.Omega.{arith}
use borrow.Author.Tests.{lt-ltb, le-ltb}
use borrow.Author.Rules.{rules}
use Rattle.smf.proofs.Answer.{by_lt}
use Rattle.smf.proofs.Smpte.{is_time_lem, out_of_range}
use Rattle.base.specs.Rules.{rules_of}
use Rattle.header.specs.Smpte.{smpte_time_of}
use Rattle.header.proofs.Rates.{rated}
use Rattle.header.proofs.SmpteTime.in_range.Goals as goal

pub returns-then-self-as_int : goal.returns-then-self-as_int
returns-then-self-as_int c =
    let args = c.args in
    let time = args.self in
    by_lt time.subframe 100
    (λ h. lt-ltb _ _ h ∙ sym (is_time_lem (rules_of args.rules) (smpte_time_of time) (record {
      rated = (rated time.fps).is;
      hour-below = omega arith;
      minute-below = omega arith;
      second_below = omega arith;
      frame_below = search rules;
      subframe-below = h;
    })))
    (λ h. le-ltb _ _ h ∙ sym (out_of_range (rules_of args.rules) (smpte_time_of time) (λ r. omega arith)))
