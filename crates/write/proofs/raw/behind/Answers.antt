-- `behind` meets its contract: the delta's width, and then what stands behind it.
use Rattle.std.proofs.lemmas.Result.{err_from_is_err_and}
use Rattle.write.proofs.Doors.{behind_wide, behind_refused, behind_raw}
use Rattle.write.proofs.raw.behind.Goals as goal

pub returns-then-delta-ge268435456 : goal.returns-then-delta-ge268435456
returns-then-delta-ge268435456 c = let a = c.args in λ bytes. behind_wide bytes a.delta.0 a.made c.if-delta-ge268435456.true

pub returns-in_err-raw : goal.returns-in_err-raw
returns-in_err-raw c =
    let a = c.args in
    let p = err_from_is_err_and c.from_residual.result c.from_residual.ensures.1 in
    λ bytes. rw (p.1, p.2) (behind_refused bytes a.delta.0 c.if-delta-ge268435456.false a.made _ c.in_err-raw.was)

pub returns : goal.returns
returns c = let a = c.args in λ bytes. behind_raw bytes a.delta.0 c.if-delta-ge268435456.false a.made _ c.in_ok-raw.was
