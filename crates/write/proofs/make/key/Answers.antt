-- `key` meets its contract, by its one test.
use Rattle.smf.proofs.Answer.{by_test}
use Rattle.write.proofs.make.key.Goals as goal

pub returns : goal.returns
returns c = λ bytes. by_test c.args.minor (λ t. rw t (rw (c.from.ensures, t) at (c.own_bytes.ensures bytes))) (λ t. rw t (rw (c.from.ensures, t) at (c.own_bytes.ensures bytes)))
