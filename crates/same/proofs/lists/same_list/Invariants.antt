use Rattle.same.proofs.SameLists.{Agree}
use Rattle.same.proofs.lists.same_list.Given as goal

abbrev pub invariant-loop-i : goal.invariant-loop-i
invariant-loop-i l = Agree l.a_bytes l.a.records l.b_bytes l.b.records l.i
