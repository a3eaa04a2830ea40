-- `apk_bank_read` meets its contract, by what `read_bank` ensures of its answer.
use borrow.Author.Rules.{rules}
use Rattle.bank.specs.Bank.{most_tracks}
use Rattle.bank.proofs.Answered.{read_answered, read_cells, read_count}
use Rattle.bank.proofs.entries.apk_bank_read.Goals as goal

pub returns-clause-answer : goal.returns-clause-answer
returns-clause-answer c = rw (read_answered most_tracks _ _ c.read_bank-found.ensures) (search rules)

pub returns-clause-ranges : goal.returns-clause-ranges
returns-clause-ranges c = rw (read_cells most_tracks _ _ c.read_bank-found.ensures c.args.ranges.now) (search rules)

pub returns-clause-count : goal.returns-clause-count
returns-clause-count c = rw (read_count most_tracks _ _ c.read_bank-found.ensures c.args.count.now) (search rules)
