-- `put_silence` meets its contract: the list is given and there is room for its rows, or nothing is changed.
use mathlib.Core.Path.{◌≡◌, refl, sym, ap, ◌∙◌}
use Prim.Native.Nat.{◌≤◌}
use native.Mathlib.Omega.{arith}
use Rattle.std.proofs.lemmas.Result.{err_from_is_err_and}
use Rattle.track.specs.List.{capacity, held_of}
use Rattle.player.specs.Sounding.{silence}
use Rattle.player.specs.Answers.{with_number, list_said, list_beside}
use Rattle.player.proofs.Nought.{never_nought}
use Rattle.player.proofs.Entered.{silence_refused, silence_few, silence_no_room, silence_put}
use Rattle.player.proofs.entries.put_silence.Goals as goal
use Rattle.player.proofs.entries.put_silence.Goals.{In_ok-list}

-- what `silence` gave
given : (c : In_ok-list) → let a = c.args in with_number (held_of c.in_ok-list.list) 0 ≡ list_beside capacity (silence capacity a.table a.channel.0 a.key.0)
given c = sym (ap list_said c.in_ok-list.was) ∙ c.silence.ensures

-- it gives no more than a list holds
few : (c : In_ok-list) → c.in_ok-list.list.count ≤ capacity
few c = silence_few _ _ _ _ _ _ (given c) refl

pub returns-in_err-list : goal.returns-in_err-list
returns-in_err-list c =
    let p = err_from_is_err_and c.from_residual.result c.from_residual.ensures.1 in
    rw (p.1, p.2) (silence_refused _ _ _ _ _ _ (sym (ap list_said c.in_err-list.was) ∙ c.silence.ensures) (never_nought _) _)

pub overflow_mul-list : goal.overflow_mul-list
overflow_mul-list c = record { fits = omega (arith, few (goal.at.overflow_mul-list c).In_ok-list) }

pub returns-then-rows-list : goal.returns-then-rows-list
returns-then-rows-list c = silence_no_room _ _ _ _ _ _ (given (goal.at.returns-then-rows-list c).In_ok-list) refl _ c.if-rows-list.true

pub put_rows-requires-clause-count_le_capacity : goal.put_rows-requires-clause-count_le_capacity
put_rows-requires-clause-count_le_capacity c = few (goal.at.put_rows-requires-clause-count_le_capacity c).In_ok-list

pub returns : goal.returns
returns c = silence_put _ _ _ _ _ _ (given (goal.at.returns c).In_ok-list) refl _ c.if-rows-list.false _ c.put_rows.ensures
