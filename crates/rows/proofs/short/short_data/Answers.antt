-- `short_data` meets its contract: nothing found, one data byte, or two.
use native.Mathlib.Omega.{arith}
use Rattle.rows.proofs.ShortReads.{found_one, found_two}
use Rattle.rows.proofs.short.short_data.Goals as goal

pub returns-then-status-eq6 : goal.returns-then-status-eq6
returns-then-status-eq6 c =
    let a = c.args in
    found_one a.raw.now a.at a.place a.status c.requires.1 (omega (arith, c.if-a-ge128.false)) c.if-status-eq6.true

pub returns : goal.returns
returns c =
    let a = c.args in
    found_two a.raw.now a.at a.place a.status c.requires.1 (omega (arith, c.if-a-ge128.false)) c.if-status-eq6.false (omega (arith, c.if-b-ge128.false))
