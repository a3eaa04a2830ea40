use Rattle.std.proofs.Common.{take}
use Rattle.write.proofs.Measuring.{Seen}
use Rattle.write.proofs.events.measure_all.Given as goal

abbrev pub invariant-loop-index : goal.invariant-loop-index
invariant-loop-index g l = Seen l.running.status (take l.count (g.E.Events.judged l.events)) l.length l.after.status l.index
