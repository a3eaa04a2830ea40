-- `SmpteTime::new` meets its contract: what is in range is made.
use mathlib.Core.Path.{sym, ◌∙◌}
use Rattle.smf.specs.Smpte.{to_time}
use Rattle.header.proofs.SmpteTime.new.Goals as goal

pub returns-then-in_range : goal.returns-then-in_range
unfolding to_time
returns-then-in_range c = rw (sym c.in_range.ensures ∙ c.if-in_range.true)

pub returns-else-in_range : goal.returns-else-in_range
unfolding to_time
returns-else-in_range c = rw (sym c.in_range.ensures ∙ c.if-in_range.false)
