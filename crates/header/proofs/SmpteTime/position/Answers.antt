-- `SmpteTime::position` meets its contract: a legal time's counts fit.
use mathlib.Core.Path.{◌≡◌, sym, ◌∙◌}
use mathlib.Core.Bool.{true}
use Prim.Native.Nat.{◌+◌, ◌*◌, ◌<◌}
use native.Mathlib.Omega.{arith}
use Rattle.smf.specs.Answer.{Rules}
use Rattle.smf.specs.Smpte.{Time, is_time, seconds, frames, subframes, position}
use Rattle.smf.proofs.Smpte.{in_range, frames_below}
use Rattle.base.specs.Rules.{rules_of}
use Rattle.header.specs.Smpte.{smpte_time_of}
use Rattle.header.proofs.SmpteTime.position.Goals as goal
use Rattle.header.proofs.SmpteTime.position.Goals.{After-as_int}

pub returns-then-not-in_range : goal.returns-then-not-in_range
unfolding position
returns-then-not-in_range c = rw (sym c.in_range.ensures ∙ c.if-not-in_range.true)

-- the time is legal
legal : (c : After-as_int) → is_time (rules_of c.args.rules) (smpte_time_of c.args.self) ≡ true
legal c = sym c.in_range.ensures ∙ c.if-not-in_range.false

-- the time whose position is asked
abbrev asked : After-as_int → Time
asked c = smpte_time_of c.args.self

-- the rules by which that time is judged
abbrev ruled : After-as_int → Rules
ruled c = rules_of c.args.rules

-- the frames that are counted
below : (c : After-as_int) → seconds (asked c) * c.as_int.result + (asked c).frame < 2592000
unfolding frames
below c = rw c.as_int.ensures (frames_below (asked c) (in_range (ruled c) (asked c) (legal c)))

pub overflow_mul-frames : goal.overflow_mul-frames
unfolding seconds
overflow_mul-frames c = record { fits = omega (arith, below (goal.at.overflow_mul-frames c).After-as_int) }

pub overflow_add-frames : goal.overflow_add-frames
unfolding seconds
overflow_add-frames c = record { fits = omega (arith, below (goal.at.overflow_add-frames c).After-as_int) }

pub overflow_mul-subframes : goal.overflow_mul-subframes
unfolding seconds
overflow_mul-subframes c = record { fits = omega (arith, below (goal.at.overflow_mul-subframes c).After-as_int) }

pub overflow_add-subframes : goal.overflow_add-subframes
unfolding seconds
overflow_add-subframes c = record { fits = omega (arith, below (goal.at.overflow_add-subframes c).After-as_int) }

pub returns : goal.returns
unfolding position subframes frames seconds
returns c = rw (legal (goal.at.returns c).After-as_int, c.as_int.ensures)
