-- `narrow_kind` meets its contract, test by test.
use borrow.Author.Tests.{eq-eqb, ne_eqb}
use Rattle.meta.proofs.narrow_kind.Goals as goal

pub returns-then-type_byte-eq32 : goal.returns-then-type_byte-eq32
returns-then-type_byte-eq32 c = rw (eq-eqb _ 0x20 c.if-type_byte-eq32.true)

pub returns : goal.returns
returns c = rw (ne_eqb _ 0x20 c.if-type_byte-eq32.false)
