use Rattle.std.proofs.Common.{take}
use Rattle.write.proofs.Writing.{Going}
use Rattle.write.proofs.events.put_all.Given as goal

abbrev pub invariant-loop-index : goal.invariant-loop-index
invariant-loop-index g l = Going l.fn.running.status (take l.count (g.E.Events.judged l.events)) l.initial.out l.out l.place l.after.status l.index
