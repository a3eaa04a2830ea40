-- `Timing::encode` meets its contract: two bytes of the ticks, or minus the rate and a byte.
use mathlib.Core.Path.{◌≡◌, sym, ap, ◌∙◌}
use Prim.Native.Nat.{ℕ, ◌-◌, ◌<◌, ◌/◌}
use native.Mathlib.Nat.{mod-eq_of_lt}
use native.Mathlib.Omega.{arith}
use lib.IntN.{pos, ◌-ℤ◌}
use mir.Syntax.{w8}
use mir.Val.{SFits, to_z, of_z}
use mir.Facts.{to_z-of_z}
use Rattle.smf.specs.Signed.{byte_of_signed}
use Rattle.smf.proofs.Header.{ticks_written, ticks_above, timecode_written}
use Rattle.smf.proofs.Signed.{minus_small, minus_fits, byte_negated}
use Rattle.header.specs.Fps.{rate_of}
use Rattle.header.specs.declared.Fps.{Fps}
use Rattle.header.proofs.Rates.{rated}
use Rattle.header.proofs.timing.Timing.encode.Goals as goal

pub returns-then-ticks-gt32767 : goal.returns-then-ticks-gt32767
returns-then-ticks-gt32767 c =
    rw c.in-Metrical.is (sym (ticks_above c.in-Metrical.ticks.0 (omega (arith, c.as_int-ticks.ensures))))

pub returns-else-ticks-gt32767 : goal.returns-else-ticks-gt32767
returns-else-ticks-gt32767 c =
    let high : c.as_int-ticks.result / 256 < 256 = omega arith in
    rw (c.in-Metrical.is, c.to_be_bytes.ensures, mod-eq_of_lt high, c.as_int-ticks.ensures)
    (sym (ticks_written c.in-Metrical.ticks.0 (omega (arith, c.as_int-ticks.ensures))))

-- the machine's minus of a small number: it fits, and its byte is 256 less the number
minus : (n : ℕ) → n < 128 → SFits w8 (pos 0 -ℤ to_z w8 n)
minus n h = rw (minus_small n h) (minus_fits n h)

byte_minus : (n : ℕ) → n < 128 → 0 < n → byte_of_signed (to_z w8 (of_z w8 (pos 0 -ℤ to_z w8 n))) ≡ 256 - n
byte_minus n h some = ap byte_of_signed (to_z-of_z {w = w8} (minus n h) ∙ minus_small n h) ∙ byte_negated n some

-- the byte of minus the rate
byte : (fps : Fps) (rate made : ℕ) → rate ≡ rate_of fps → made ≡ byte_of_signed (to_z w8 (of_z w8 (pos 0 -ℤ to_z w8 rate))) → made ≡ 256 - rate_of fps
byte fps rate made is told = told ∙ byte_minus rate (omega (arith, is, (rated fps).small)) (omega (arith, is, (rated fps).some)) ∙ ap (λ n. 256 - n) is

pub returns-in-Timecode : goal.returns-in-Timecode
returns-in-Timecode c =
    rw (c.in-Timecode.is, byte c.in-Timecode.fps c.as_int.result c.to_byte.result c.as_int.ensures c.to_byte.ensures)
    (sym (timecode_written (rate_of c.in-Timecode.fps) c.in-Timecode.subframe (rated c.in-Timecode.fps).is (omega arith)))
