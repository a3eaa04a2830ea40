-- `PitchBend::mid_raw_value` meets its contract: the number is the raw bend of 0.
use Rattle.smf.specs.Bend.{clamped, raw_bend}
use Rattle.midi.proofs.PitchBend.mid_raw_value.Goals as goal

pub returns : goal.returns
unfolding clamped raw_bend
returns c = c.new.ensures
