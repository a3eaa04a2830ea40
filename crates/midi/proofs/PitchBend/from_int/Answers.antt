-- `PitchBend::from_int` meets its contract: 8,192 above the clamped integer there is a number of 14 bits, which `u14::new` leaves as it is.
use Rattle.std.proofs.Common.{◌≡◌, ◌%◌, ◌^◌, ℤ, pos, ◌+ℤ◌, nat_abs, ap, ◌∙◌, mod-eq_of_lt, arith, to_z-of_z, w16, SFits, to_z, of_z}
use Rattle.smf.specs.Bend.{clamped, raw_bend}
use Rattle.smf.proofs.Bend.{raw_small, raw_is}
use Rattle.midi.proofs.PitchBend.from_int.Goals as goal
use Rattle.midi.proofs.PitchBend.from_int.Goals.{After-clamp_int}

sum_is : (c : After-clamp_int) → to_z w16 (of_z w16 c.clamp_int.result) +ℤ pos 8192 ≡ pos (raw_bend c.args.int)
sum_is c =
    ap (λ (z : ℤ). z +ℤ pos 8192)
    (to_z-of_z {w = w16} {z = c.clamp_int.result} (record { sfits = c.clamp_int.type_inv })
    ∙ c.clamp_int.ensures
    ∙ ap clamped (to_z-of_z {w = w16} c.ranges.int))
    ∙ raw_is c.args.int

in_range : (z : ℤ) → SFits w16 (pos (raw_bend z))
in_range z = record { sfits = omega (arith, raw_small z) }

pub overflow_add-clamp_int : goal.overflow_add-clamp_int
overflow_add-clamp_int c = rw (sum_is (goal.at.overflow_add-clamp_int c).After-clamp_int) (in_range c.args.int)

held : (c : After-clamp_int) → to_z w16 (of_z w16 (to_z w16 (of_z w16 c.clamp_int.result) +ℤ pos 8192)) ≡ pos (raw_bend c.args.int)
held c = to_z-of_z {w = w16} (rw (sum_is c) (in_range c.args.int)) ∙ sum_is c

pub overflow_cast-clamp_int : goal.overflow_cast-clamp_int
overflow_cast-clamp_int c = rw (held (goal.at.overflow_cast-clamp_int c).After-clamp_int) (tt, record { fits = omega (arith, raw_small c.args.int) })

pub returns : goal.returns
returns c = c.new.ensures ∙ ap (λ (z : ℤ). nat_abs z % 2 ^ 14) (held (goal.at.returns c).After-clamp_int) ∙ mod-eq_of_lt (raw_small c.args.int)
