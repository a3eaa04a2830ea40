-- `PitchBend::from_f32` meets its contract: the clamped float times 8,192 is exact, and its whole part is within 8,192.
use Rattle.std.proofs.Common.{ap, ◌∙◌}
use lib.Ieee.{binary32, of_bits, neg}
use Rattle.smf.specs.Bend.{raw_bend, raw_bend_of_float}
use Rattle.midi.proofs.BendFloats.{floated, product, narrow, passed}
use Rattle.midi.proofs.PitchBend.from_f32.Goals as goal

pub truncating_f32_to_i64-requires : goal.truncating_f32_to_i64-requires
unfolding of_bits neg
truncating_f32_to_i64-requires c =
    let p = product binary32 c.args.float c.well_formed.0.1 (floated c.args.float c.within.ensures) in
    record { lower_bound = p.above; upper_bound = p.below }

pub overflow_cast-truncating_f32_to_i64 : goal.overflow_cast-truncating_f32_to_i64
unfolding of_bits neg
overflow_cast-truncating_f32_to_i64 c = narrow binary32 c.args.float c.well_formed.0.1 (floated c.args.float c.within.ensures) c.truncating_f32_to_i64.ensures

pub returns : goal.returns
unfolding of_bits neg raw_bend_of_float
returns c =
    c.from_int.ensures
    ∙ ap raw_bend (passed binary32 c.args.float c.well_formed.0.1 (floated c.args.float c.within.ensures) c.truncating_f32_to_i64.ensures)
