-- `written_from` meets its contract: the running status first.
use Rattle.write.proofs.one.written_from.Goals as goal

pub returns-then-not-is_valid : goal.returns-then-not-is_valid
returns-then-not-is_valid c = rw (← c.is_valid.ensures, c.if-not-is_valid.true)

pub returns : goal.returns
returns c = rw (← c.is_valid.ensures, c.if-not-is_valid.false) c.written.ensures
