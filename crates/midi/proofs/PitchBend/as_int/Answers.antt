-- `PitchBend::as_int` meets its contract: a raw bend of 14 bits less 8,192 fits an `i16`.
use Rattle.std.proofs.Common.{◌≡◌, ℕ, SFits, of_z, ◌^◌, ◌<◌, pos, ◌-ℤ◌, ap, ◌∙◌, arith, to_z-of_z, w16, to_z}
use mir.ValLaws.{to_z_pos}
use Rattle.smf.specs.Answer.{gives}
use Rattle.smf.specs.Bend.{bend_of}
use Rattle.smf.proofs.Bend.{ask_in, ask_out, bend_mag}
use Rattle.midi.proofs.PitchBend.as_int.Goals as goal
use Rattle.midi.proofs.PitchBend.as_int.Goals.{Then-raw-le16383}

-- the raw bend as an `i16`, less 8,192
less : (raw : ℕ) → raw < 2 ^ 14 → to_z w16 raw -ℤ pos 8192 ≡ bend_of raw
less raw h = rw (to_z_pos w16 raw (omega arith))

-- what the machine makes of it: it fits
made : (raw : ℕ) → raw < 2 ^ 14 → to_z w16 (of_z w16 (to_z w16 raw -ℤ pos 8192)) ≡ bend_of raw
made raw h =
    let fits : SFits w16 (bend_of raw) = record { sfits = omega (arith, bend_mag raw h) } in
    rw (less raw h) (to_z-of_z {w = w16} fits)

in_width : (c : Then-raw-le16383) → c.args.self.0.0 < 2 ^ 14
in_width c = omega arith

pub returns-then-raw-le16383 : goal.returns-then-raw-le16383
returns-then-raw-le16383 c =
    let width = in_width (goal.at.returns-then-raw-le16383 c).Then-raw-le16383 in
    rw c.as_int-raw.ensures (ap gives (made c.args.self.0.0 width) ∙ ask_in c.args.self.0.0 width)

pub returns-else-raw-le16383 : goal.returns-else-raw-le16383
returns-else-raw-le16383 c = ask_out c.args.self.0.0 (omega arith)
