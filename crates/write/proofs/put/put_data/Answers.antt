-- `put_data` meets its contract: one byte, or two.
use mathlib.Core.Path.{refl, ◌∙◌}
use mathlib.Core.List.{[], ◌∷◌}
use Prim.Native.Nat.{◌+◌}
use native.Mathlib.Omega.{arith}
use lib.ListN.{set, length-set}
use Rattle.smf.proofs.Answer.{by_test}
use Rattle.write.proofs.Storing.{over_one, over_cons}
use Rattle.write.proofs.put.put_data.Goals as goal

pub bounds-out-at : goal.bounds-out-at
bounds-out-at c =
    by_test c.args.bytes.pair (λ p. omega (arith, rw p at c.requires)) (λ p. omega (arith, rw p at c.requires))

pub bounds-out-at-then-bytes : goal.bounds-out-at-then-bytes
bounds-out-at-then-bytes c = simp length-set (omega (arith, rw c.if-bytes.true at c.requires))

pub returns-then-bytes : goal.returns-then-bytes
returns-then-bytes c =
    let a = c.args in
    rw c.if-bytes.true
    (record {
      place = refl;
      buffer = over_one (set a.out.now a.at a.bytes.a) (a.at + 1) a.bytes.b (simp length-set (omega (arith, rw c.if-bytes.true at c.requires))) ∙ over_cons a.out.now a.at a.bytes.a (a.bytes.b ∷ []) (omega (arith, rw c.if-bytes.true at c.requires));
    })

pub returns : goal.returns
returns c =
    let a = c.args in
    rw c.if-bytes.false (record { place = refl; buffer = over_one a.out.now a.at a.bytes.a (omega (arith, rw c.if-bytes.false at c.requires)) })

pub overflow_add-result : goal.overflow_add-result
overflow_add-result c = omega (arith, rw c.if-bytes.true at c.requires)
