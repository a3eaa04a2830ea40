-- A format as its number, and what `read` answers.
use Rattle.base.specs.declared.Refusal.{Refusal}
use Rattle.std.specs.Prelude.{ℕ, Result}
use Rattle.smf.specs.Answer.{Answer}
use Rattle.base.specs.Said.{said}
use Rattle.header.specs.declared.format.Format.{Format}
use Rattle.header.specs.declared.format.Format.TheVariants as format

-- the number of a format
abbrev pub format_of : Format → ℕ
format_of format.SingleTrack = 0
format_of format.Parallel = 1
format_of format.Sequential = 2

-- what `Format::read` answers
abbrev pub format_read_of : Result Format Refusal → Answer ℕ
format_read_of = said format_of
