-- `track_number` meets its contract, by its one test.
use borrow.Author.Rules.{rules}
use borrow.Author.Tests.{lt-ltb, le-ltb}
use Rattle.write.proofs.make.track_number.Goals as goal

pub returns-then-number-ge65536 : goal.returns-then-number-ge65536
returns-then-number-ge65536 c = λ bytes. rw (le-ltb _ _ c.if-number-ge65536.true)

pub overflow_cast-number : goal.overflow_cast-number
overflow_cast-number c = search rules

pub returns : goal.returns
returns c = λ bytes. rw (lt-ltb _ _ c.if-number-ge65536.false) (c.own_bytes.ensures bytes)
