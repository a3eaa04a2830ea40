-- `copy_over` meets its contract. The invariant: the first i bytes stand over as many.
use mathlib.Core.Path.{◌≡◌, subst, ◌∙◌}
use mathlib.Core.List.{List}
use Prim.Native.Nat.{ℕ, suc, ◌+◌}
use native.Mathlib.Numerals.{add-one}
use native.Mathlib.Omega.{arith}
use lib.ListN.{length, set, get_or}
use lib.Seq.{paste, paste-zero, paste-suc}
use Rattle.std.proofs.Common.{rules}
use Rattle.std.proofs.lemmas.Grind.{common_steps}
use Rattle.number.proofs.payload.copy_over.Goals as goal

pub loop-i-init : goal.loop-i-init
loop-i-init c = paste-zero c.args.to.now 0 c.args.from.now

pub loop-i-preserved : goal.loop-i-preserved
loop-i-preserved c =
    let l = c.loop-i in
    let a = c.args in
    let here : 0 + l.i ≡ l.i = omega arith in
    let one_more = paste-suc a.to.now 0 a.from.now l.i 0 (omega (arith, c.requires, c.loop-i-test.true)) (omega (arith, c.loop-i-test.true)) in
    rw (add-one l.i, l.invariant) (subst (λ (n : ℕ). set (paste a.to.now 0 a.from.now l.i) n (get_or a.from.now l.i 0) ≡ paste a.to.now 0 a.from.now (suc l.i)) here one_more)

-- all of them are the whole
whole : (d s : List ℕ) (n : ℕ) → n ≡ length s → length d ≡ length s → paste d 0 s n ≡ s
whole d s n all same = rw (all, ← same) (search (rules, common_steps))

pub returns : goal.returns
returns c =
    let a = c.args in
    c.loop-i.invariant ∙ whole a.to.now a.from.now c.loop-i.i (omega (arith, c.loop-i-test.false, c.loop-i.auto.i-end)) c.requires
