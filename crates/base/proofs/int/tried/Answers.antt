-- `tried` meets its contract, by the law of a width: the low bits of a number that has no more are the number.
use Rattle.std.proofs.Common.{rules, ◌≡◌, ◌<◌, ◌≤◌, ◌^◌}
use Rattle.std.proofs.Math.Nat.{mod-eq_of_lt}
use Rattle.smf.proofs.Width.{try_in, try_out}
use Rattle.base.proofs.int.tried.Goals as goal

pub returns-then-wide-BITS : goal.returns-then-wide-BITS
returns-then-wide-BITS g c =
    let t = g.T.Restricted in
    let below : t.number c.args.raw < 2 ^ t.BITS = search rules in
    let same : t.value c.low.result ≡ t.number c.args.raw = search (rules, mod-eq_of_lt) in
    rw same (try_in t.BITS below)

pub returns-else-wide-BITS : goal.returns-else-wide-BITS
returns-else-wide-BITS g c =
    let t = g.T.Restricted in
    let above : 2 ^ t.BITS ≤ t.number c.args.raw = search rules in
    try_out t.BITS above
