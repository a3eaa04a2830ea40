-- `Format::read` meets its contract: 17 under two bytes, else their number decides.
use mathlib.Core.Path.{◌≡◌, sym, ap, ◌∙◌}
use borrow.Author.Tests.{lt-leb}
use native.Mathlib.Omega.{arith}
use borrow.Author.Rules.{rules}
use Rattle.smf.specs.Header.{read_format, is_format, to_format}
use Rattle.smf.proofs.Header.{field_short, format_whole}
use Rattle.header.proofs.format.Format.read.Goals as goal
use Rattle.header.proofs.format.Format.read.Goals.{After-word}

pub returns-in_default : goal.returns-in_default
unfolding read_format
returns-in_default c = sym (field_short _ c.args.raw.now (search rules))

-- what the bytes' number decides
decided : (c : After-word) → read_format c.args.raw.now ≡ to_format c.word.result
decided c = format_whole _ (search rules) c.word.ensures

pub returns-in-0 : goal.returns-in-0
unfolding to_format is_format
returns-in-0 c = sym (decided (goal.at.returns-in-0 c).After-word ∙ ap to_format c.in-0.is)

pub returns-in-1 : goal.returns-in-1
unfolding to_format is_format
returns-in-1 c = sym (decided (goal.at.returns-in-1 c).After-word ∙ ap to_format c.in-1.is)

pub returns-in-2 : goal.returns-in-2
unfolding to_format is_format
returns-in-2 c = sym (decided (goal.at.returns-in-2 c).After-word ∙ ap to_format c.in-2.is)

pub returns-in_default-word : goal.returns-in_default-word
unfolding to_format is_format
returns-in_default-word c = sym (decided (goal.at.returns-in_default-word c).After-word ∙ rw (lt-leb c.word.result 2 (omega arith)))
