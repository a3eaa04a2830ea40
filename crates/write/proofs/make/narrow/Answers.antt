-- `narrow` meets its contract, by its one test.
use borrow.Author.Rules.{rules}
use borrow.Author.Tests.{lt-ltb, le-ltb}
use Rattle.write.proofs.make.narrow.Goals as goal

pub returns-then-limit-number : goal.returns-then-limit-number
returns-then-limit-number c = λ bytes. rw (le-ltb _ _ c.if-limit-number.true)

pub overflow_cast-number : goal.overflow_cast-number
overflow_cast-number c = search rules

pub returns : goal.returns
returns c = λ bytes. rw (lt-ltb _ _ c.if-limit-number.false) (c.own_bytes.ensures bytes)
