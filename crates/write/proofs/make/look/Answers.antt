-- `look` meets its contract, test by test.
use mathlib.Core.Path.{sym, ◌∙◌}
use native.Mathlib.Omega.{arith}
use Rattle.smf.proofs.Write.{inside_within, inside_beyond}
use Rattle.meta.specs.Meta.{span_of}
use Rattle.write.proofs.Payloads.{lent_outside, lent_long, lent_there}
use Rattle.write.proofs.make.look.Goals as goal

pub returns-then-not-is_inside : goal.returns-then-not-is_inside
returns-then-not-is_inside c =
    let a = c.args in
    sym (lent_outside a.bytes.now (span_of a.load) tt (inside_beyond a.bytes.now (span_of a.load) (sym c.is_inside.ensures ∙ c.if-not-is_inside.true)))

pub returns-then-load-ge268435456 : goal.returns-then-load-ge268435456
returns-then-load-ge268435456 c =
    let a = c.args in
    let within = inside_within a.bytes.now (span_of a.load) (sym c.is_inside.ensures ∙ c.if-not-is_inside.false) in
    sym (lent_long a.bytes.now (span_of a.load) tt within (omega arith))

pub returns : goal.returns
returns c =
    let a = c.args in
    let within = inside_within a.bytes.now (span_of a.load) (sym c.is_inside.ensures ∙ c.if-not-is_inside.false) in
    sym (lent_there a.bytes.now (span_of a.load) tt within (omega arith))
