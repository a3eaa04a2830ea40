-- `short_at` meets its contract: no short event, or one whose status is its own byte or the running status.
use mathlib.Core.Path.{◌∙◌}
use Prim.Native.Nat.{◌+◌, ◌≤◌, ◌<◌}
use native.Mathlib.Omega.{arith}
use lib.ListN.{length, get_or}
use Rattle.rows.proofs.ShortReads.{own_found, under_found}
use Rattle.rows.proofs.short.short_at.Goals as goal
use Rattle.rows.proofs.short.short_at.Goals.{Else-status-eq0, then-byte-ge128, else-byte-ge128}

-- the four bytes that a short event can have are there
four : (c : Else-status-eq0) → let a = c.args in a.at + 4 ≤ length a.raw.now
four c = omega (arith, c.if-raw-at.false, c.if-raw-lt4.false)

pub returns : goal.returns
returns c =
    let a = c.args in
    let f = four (goal.at.returns c).Else-status-eq0 in
    let small : get_or a.raw.now a.at 0 < 0x80 = omega (arith, c.if-raw-at-ge128.false) in
    elim c.if-byte-ge128.branch [
      | then-byte-ge128 w ↦ own_found a.raw.now a.at a.running.status c.requires f small w.if-byte-ge128.true (omega (arith, c.if-byte-ge240.false)) _ (rw (w.status-is, w.place-is) at c.short_data.ensures)
      | else-byte-ge128 w ↦ under_found a.raw.now a.at a.running.status c.requires f small (omega (arith, w.if-byte-ge128.false)) (λ z. c.if-status-eq0.false (w.status-is ∙ z)) _ (rw (w.status-is, w.place-is) at c.short_data.ensures)
    ]
