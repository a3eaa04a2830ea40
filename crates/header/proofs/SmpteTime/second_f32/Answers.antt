-- `SmpteTime::second_f32` meets its contract, operation for operation.
use mathlib.Core.Path.{◌≡◌, sym, ◌∙◌}
use mathlib.Core.Bool.{true}
use lib.Ieee.{of_bits, of_int}
use Rattle.smf.specs.Smpte.{is_time}
use Rattle.smf.specs.Seconds.{second_float, seconds_of}
use Rattle.base.specs.Rules.{rules_of}
use Rattle.header.specs.Smpte.{smpte_time_of}
use Rattle.header.proofs.SmpteTime.second_f32.Goals as goal
use Rattle.header.proofs.SmpteTime.second_f32.Goals.{Else-not-in_range}

pub returns-then-not-in_range : goal.returns-then-not-in_range
unfolding seconds_of
returns-then-not-in_range c = rw (sym c.in_range.ensures ∙ c.if-not-in_range.true)

-- the time is legal
legal : (c : Else-not-in_range) → is_time (rules_of c.args.rules) (smpte_time_of c.args.self) ≡ true
legal c = sym c.in_range.ensures ∙ c.if-not-in_range.false

pub returns : goal.returns
unfolding seconds_of second_float of_bits of_int
returns c = rw (legal (goal.at.returns c).Else-not-in_range, c.as_f32.ensures)
