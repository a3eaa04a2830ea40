-- `tempo` meets its contract, by its one test.
use borrow.Author.Tests.{lt-ltb, le-ltb}
use Rattle.write.proofs.make.tempo.Goals as goal

pub returns-then-v-ge16777216 : goal.returns-then-v-ge16777216
returns-then-v-ge16777216 c = λ bytes. rw (le-ltb _ _ c.if-v-ge16777216.true)

pub returns : goal.returns
returns c = λ bytes. rw (lt-ltb _ _ c.if-v-ge16777216.false) (c.fixed.ensures bytes)
