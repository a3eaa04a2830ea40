-- `put_status` meets its contract: the status is stored, and counts or not.
use mathlib.Core.Path.{refl, sym}
use native.Mathlib.Nat.{add-zero}
use borrow.Author.Tests.{eq-eqb, ne_eqb}
use Rattle.write.proofs.Storing.{over_one}
use Rattle.write.proofs.put.put_status.Goals as goal

pub returns-then-running-status : goal.returns-then-running-status
returns-then-running-status c =
    let a = c.args in
    rw (eq-eqb a.running.status a.status c.if-running-status.true) (sym (add-zero a.at), over_one a.out.now a.at a.status c.requires)

pub returns : goal.returns
returns c =
    let a = c.args in
    rw (ne_eqb a.running.status a.status c.if-running-status.false) (refl, over_one a.out.now a.at a.status c.requires)
