-- `Timing::read` meets its contract: 17 under two bytes; else the high byte decides between ticks and minus a rate.
use mathlib.Core.Path.{◌≡◌, sym, ap, ◌∙◌}
use Prim.Native.Nat.{ℕ, ◌-◌, ◌<◌, ◌≤◌}
use native.Mathlib.Omega.{arith}
use borrow.Author.Rules.{rules}
use Rattle.std.specs.Prelude.{Err}
use lib.IntN.{ℤ, pos, neg_ℤ, nat_abs}
use lib.ListN.{get_or}
use mir.Syntax.{w8, w16}
use mir.Val.{to_z, of_z}
use mir.Facts.{to_z-of_z}
use Rattle.smf.specs.Answer.{gives, and_then}
use lib.Signed.{mag}
use Rattle.smf.specs.Signed.{signed_byte}
use Rattle.smf.specs.Smpte.{to_rate}
use Rattle.smf.specs.Header.{read_timing, timing_from, metrical, timecode}
use Rattle.smf.proofs.Header.{field_short, field_whole, timing_ticks, timing_rate_lem}
use Rattle.smf.proofs.Signed.{negated_byte}
use Rattle.header.specs.Fps.{tried_fps}
use Rattle.header.proofs.timing.Timing.read.Goals as goal
use Rattle.header.proofs.timing.Timing.read.Goals.{After-from_int, After-negated-rate}

pub returns-in_default : goal.returns-in_default
unfolding read_timing
returns-in_default c = sym (field_short timing_from c.args.raw.now (search rules))

pub returns-then-high-lt128 : goal.returns-then-high-lt128
unfolding read_timing
returns-then-high-lt128 c =
    sym (field_whole timing_from c.args.raw.now (search rules)
    ∙ timing_ticks _ _ c.if-high-lt128.true
    ∙ ap (λ x. gives (metrical x)) (sym c.word.ensures))

-- the rate that the high byte says: the signed number of the byte, and minus that at the wider type
minus : (high : ℕ) (byte rate : ℤ) → mag byte < 128 → mag rate < 32768 → byte ≡ signed_byte high → rate ≡ neg_ℤ (to_z w8 (of_z w8 byte)) → 128 ≤ high → high < 256 → to_z w16 (of_z w16 rate) ≡ pos (256 - high)
minus high byte rate small wide is opposite low top =
    to_z-of_z {w = w16} (record { sfits = wide })
    ∙ opposite
    ∙ ap neg_ℤ (to_z-of_z {w = w8} (record { sfits = small }) ∙ is)
    ∙ negated_byte high low top

rate_is : (c : After-negated-rate) → to_z w16 (of_z w16 c.negated-rate.result) ≡ pos (256 - get_or c.args.raw.now 0 0)
rate_is c =
    minus (get_or c.args.raw.now 0 0) c.from_byte.result c.negated-rate.result c.from_byte.type_inv c.negated-rate.type_inv c.from_byte.ensures c.negated-rate.ensures c.if-high-lt128.false (omega (arith, c.type_inv.raw 0))

pub overflow_cast-rate : goal.overflow_cast-rate
overflow_cast-rate c = rw (rate_is (goal.at.overflow_cast-rate c).After-negated-rate) (tt, record { fits = omega (arith, c.if-high-lt128.false) })

-- what is read where the high byte says a rate
told : (c : After-from_int) → read_timing c.args.raw.now ≡ and_then (tried_fps c.from_int.result) (λ rate. gives (timecode rate (get_or c.args.raw.now 1 0)))
unfolding read_timing
told c =
    field_whole timing_from c.args.raw.now (search rules)
    ∙ timing_rate_lem _ _ c.if-high-lt128.false
    ∙ ap (λ r. and_then r (λ rate. gives (timecode rate (get_or c.args.raw.now 1 0))))
    (sym (c.from_int.ensures
    ∙ ap to_rate (ap nat_abs (minus (get_or c.args.raw.now 0 0) c.from_byte.result c.negated-rate.result c.from_byte.type_inv c.negated-rate.type_inv c.from_byte.ensures c.negated-rate.ensures c.if-high-lt128.false (omega (arith, c.type_inv.raw 0))))))

pub returns : goal.returns
returns c = sym (told (goal.at.returns c).After-from_int ∙ rw c.in_ok-fps.was)

pub returns-in_err-fps : goal.returns-in_err-fps
returns-in_err-fps c =
    let e : c.from_residual.result ≡ Err c.in_err-fps.field-0.0 = search rules in
    rw e (sym (told (goal.at.returns-in_err-fps c).After-from_int ∙ rw c.in_err-fps.was))
