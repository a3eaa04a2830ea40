-- `list_track` meets its contract: the track that is there is listed by its own bytes.
use mathlib.Core.Path.{ap}
use native.Mathlib.Omega.{arith}
use Rattle.std.proofs.lemmas.Result.{err_from_is_err_and}
use Rattle.smf.specs.Answer.{gives}
use Rattle.smf.specs.Lists.{ListHeld}
use Rattle.base.specs.Rules.{rules_of}
use Rattle.track.specs.List.{capacity}
use Rattle.bank.specs.Bank.{most_tracks}
use Rattle.bank.specs.Answers.{list_answer}
use Rattle.bank.proofs.Answered.{said_within, said_unlisted, said_listed, range_bytes}
use Rattle.bank.proofs.list.list_track.Goals as goal

pub returns-in_err-range : goal.returns-in_err-range
unfolding list_answer
returns-in_err-range c =
    let a = c.args in
    let p = err_from_is_err_and c.from_residual.result c.from_residual.ensures.1 in
    rw (p.1, p.2, said_unlisted most_tracks a.block.now a.index _ c.bank_track.ensures (rules_of a.rules) capacity _ c.in_err-range.was)

pub overflow_add-track : goal.overflow_add-track
overflow_add-track c =
    let a = c.args in
    omega (arith, said_within most_tracks a.block.now a.index _ c.bank_track.ensures _ c.in_ok-range.was)

pub slice_bounds-track-end : goal.slice_bounds-track-end
slice_bounds-track-end c =
    let a = c.args in
    said_within most_tracks a.block.now a.index _ c.bank_track.ensures _ c.in_ok-range.was

pub returns : goal.returns
unfolding list_answer
returns c =
    let a = c.args in
    rw (said_listed most_tracks a.block.now a.index _ c.bank_track.ensures (rules_of a.rules) capacity _ c.in_ok-range.was, ← range_bytes a.block.now c.in_ok-range.range)
    (ap (λ (l : ListHeld). record { list = l; verdict = gives tt }) c.read.ensures)
