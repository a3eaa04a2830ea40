-- `read_tracks` meets its contract. The invariant: the tracks so far have no gap, and whether there is one rests on the others.
use mathlib.Core.Path.{refl, sym, ◌∙◌}
use native.Mathlib.Omega.{arith}
use Rattle.bank.specs.Bank.{most_tracks}
use Rattle.bank.specs.Answers.{bank_answer}
use Rattle.bank.proofs.Gaps.{walked_first, walked_length, walked_apart, walked_more, walked_short, walked_all}
use Rattle.bank.proofs.read.read_tracks.Goals as goal

pub loop-index-init : goal.loop-index-init
loop-index-init c = let a = c.args in (c.requires.count_le_most_tracks, walked_first most_tracks a.count _ a.block.now _ c.no_tracks-tracks.ensures)

pub wide_at-requires : goal.wide_at-requires
wide_at-requires c = omega (arith, c.requires.count_in_bounds)

pub returns-then-wide_at-place : goal.returns-then-wide_at-place
unfolding bank_answer
returns-then-wide_at-place c =
    let w = c.loop-index.invariant.1 in
    let a = c.args in
    walked_apart most_tracks a.count _ a.block.now w (omega arith) (λ e. c.if-wide_at-place.true (c.wide_at.ensures.0 ∙ e))

pub wide_at-length-requires : goal.wide_at-length-requires
wide_at-length-requires c = omega (arith, c.requires.count_in_bounds)

pub bounds-tracks-index : goal.bounds-tracks-index
bounds-tracks-index c =
    let l = c.loop-index in
    let a = c.args in
    omega (arith, walked_length most_tracks a.count l.invariant.0 a.block.now l.invariant.1, l.invariant.0)

pub overflow_add-place-in-loop-index : goal.overflow_add-place-in-loop-index
overflow_add-place-in-loop-index c = let l = c.loop-index in omega (arith, l.invariant.1.small, l.invariant.1.within, l.invariant.0, c.wide_at-length.ensures.1)

pub loop-index-preserved : goal.loop-index-preserved
loop-index-preserved c =
    let l = c.loop-index in
    let a = c.args in
    (l.invariant.0, walked_more most_tracks a.count l.invariant.0 a.block.now l.invariant.1 (omega arith) c.wide_at-length.result _ (sym c.wide_at.ensures.0 ∙ c.if-wide_at-place.false) c.wide_at-length.ensures.0 c.wide_at-length.ensures.1 refl)

pub returns-then-place-block : goal.returns-then-place-block
unfolding bank_answer
returns-then-place-block c =
    let l = c.loop-index in
    let a = c.args in
    walked_short most_tracks a.count l.invariant.0 a.block.now l.invariant.1 (omega arith) (λ e. c.if-place-block.true e)

pub returns : goal.returns
returns c =
    let l = c.loop-index in
    let a = c.args in
    walked_all most_tracks a.count l.invariant.0 a.block.now l.invariant.1 (omega arith) c.if-place-block.false
