-- `bank_track` meets its contract: the bank first, then the index.
use mathlib.Core.Path.{sym}
use native.Mathlib.Omega.{arith}
use Rattle.std.proofs.lemmas.Result.{err_from_is_err_and}
use Rattle.bank.specs.Bank.{most_tracks}
use Rattle.bank.specs.Read.{read_bank}
use Rattle.bank.proofs.Tracks.{track_refused}
use Rattle.bank.proofs.Answered.{Told, bank_refused, bank_told, told_none, told_few, told_there}
use Rattle.bank.proofs.read.bank_track.Goals as goal
use Rattle.bank.proofs.read.bank_track.Goals.{In_ok-bank}

told : (c : In_ok-bank) → Told most_tracks (read_bank most_tracks c.args.block.now) c.in_ok-bank.bank
told c = bank_told most_tracks _ c.read_bank.ensures _ c.in_ok-bank.was

pub returns-in_err-bank : goal.returns-in_err-bank
returns-in_err-bank c =
    let a = c.args in
    let p = err_from_is_err_and c.from_residual.result c.from_residual.ensures.1 in
    rw (p.1, p.2) (sym (track_refused most_tracks a.block.now a.index (bank_refused most_tracks _ c.read_bank.ensures _ c.in_err-bank.was)))

pub returns-then-bank-index : goal.returns-then-bank-index
returns-then-bank-index c =
    let a = c.args in
    sym (told_none most_tracks a.block.now a.index (told (goal.at.returns-then-bank-index c).In_ok-bank) (omega arith))

pub offset_bounds-bank-index : goal.offset_bounds-bank-index
offset_bounds-bank-index c =
    let a = c.args in
    omega (arith, told_few most_tracks a.block.now a.index (told (goal.at.offset_bounds-bank-index c).In_ok-bank))

pub bounds-bank-index : goal.bounds-bank-index
bounds-bank-index c =
    let a = c.args in
    omega (arith, told_few most_tracks a.block.now a.index (told (goal.at.bounds-bank-index c).In_ok-bank))

pub returns : goal.returns
returns c =
    let a = c.args in
    sym (told_there most_tracks a.block.now a.index (told (goal.at.returns c).In_ok-bank) _ (omega arith))
