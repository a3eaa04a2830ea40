-- `row_unknown` meets its contract, where its type is a byte.
use mathlib.Core.Path.{sym, ◌∙◌}
use borrow.Author.Rules.{rules}
use borrow.Author.Tests.{lt-ltb, le-ltb}
use Rattle.write.proofs.Forms.{unknown_made}
use Rattle.write.proofs.row_door.row_unknown.Goals as goal

pub returns-then-type_byte-ge256 : goal.returns-then-type_byte-ge256
returns-then-type_byte-ge256 c = rw (le-ltb _ _ c.if-type_byte-ge256.true)

pub overflow_cast-type_byte : goal.overflow_cast-type_byte
overflow_cast-type_byte c = search rules

pub returns : goal.returns
returns c = rw (lt-ltb _ _ c.if-type_byte-ge256.false) (c.unknown.ensures ∙ sym (unknown_made _ _ _ _))
