-- A list's size: the running status and the count first, then the events.
use mathlib.Core.Path.{sym, ◌∙◌}
use Rattle.track.specs.List.{capacity}
use Rattle.write.proofs.Sizes.{size_invalid, size_many, size_few}
use Rattle.write.proofs.events.length_of.Goals as goal

pub returns-then-not-is_valid : goal.returns-then-not-is_valid
returns-then-not-is_valid g c =
    let a = c.args in
    rw c.refused.ensures (size_invalid capacity a.running.status (g.E.Events.judged a.events.now) a.count (sym c.is_valid.ensures ∙ c.if-not-is_valid.true))

pub returns-then-count-gt-CAPACITY : goal.returns-then-count-gt-CAPACITY
returns-then-count-gt-CAPACITY g c =
    let a = c.args in
    rw c.refused-then-count-gt-CAPACITY.ensures (size_many capacity a.running.status (g.E.Events.judged a.events.now) a.count (sym c.is_valid.ensures ∙ c.if-not-is_valid.false) c.if-count-gt-CAPACITY.true)

pub returns : goal.returns
returns g c =
    let a = c.args in
    c.measure_all.ensures ∙ size_few capacity a.running.status (g.E.Events.judged a.events.now) a.count (sym c.is_valid.ensures ∙ c.if-not-is_valid.false) c.if-count-gt-CAPACITY.false
