use Rattle.bank.proofs.Putting.{EntriesPut}
use Rattle.bank.proofs.inside.Inside.put_entries.Given as goal

abbrev pub invariant-loop-index : goal.invariant-loop-index
invariant-loop-index l = EntriesPut l.fn.self.bytes.now l.fn.self.ranges.now l.initial.out l.out l.place l.index
