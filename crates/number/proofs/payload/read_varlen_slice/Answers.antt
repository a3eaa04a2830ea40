-- `read_varlen_slice` meets its contract, by what `read_u7` answered.
use mathlib.Core.Path.{◌≡◌}
use borrow.Author.Rules.{rules}
use Rattle.std.specs.Prelude.{Err}
use Rattle.base.specs.Rules.{rules_of}
use Rattle.number.proofs.PayloadReads.{slice_refused, slice_whole, slice_cut_strict, slice_cut_lenient}
use Rattle.number.proofs.payload.read_varlen_slice.Goals as goal

pub returns-then-n-left : goal.returns-then-n-left
returns-then-n-left c =
    let a = c.args in
    slice_whole (rules_of a.rules) a.raw.now a.at c.read_u7.ensures c.in_ok-len.was c.saturating_sub-left.ensures c.if-n-left.true

pub returns-then-rules : goal.returns-then-rules
returns-then-rules c =
    let a = c.args in
    slice_cut_strict (rules_of a.rules) a.raw.now a.at c.read_u7.ensures c.in_ok-len.was c.saturating_sub-left.ensures c.if-n-left.false c.if-rules.true

pub returns-in_err-len : goal.returns-in_err-len
returns-in_err-len c =
    let a = c.args in
    let e : c.from_residual.result ≡ Err c.in_err-len.field-0.0 = search rules in
    rw e (slice_refused (rules_of a.rules) a.raw.now a.at c.read_u7.ensures c.in_err-len.was)

pub returns : goal.returns
returns c =
    let a = c.args in
    slice_cut_lenient (rules_of a.rules) a.raw.now a.at c.read_u7.ensures c.in_ok-len.was c.saturating_sub-left.ensures c.if-n-left.false c.if-rules.false
