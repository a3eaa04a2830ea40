-- `PitchBend::max_raw_value` meets its contract: the number is the raw bend of the highest bend.
use Rattle.smf.specs.Bend.{clamped, raw_bend}
use Rattle.midi.proofs.PitchBend.max_raw_value.Goals as goal

pub returns : goal.returns
unfolding clamped raw_bend
returns c = c.new.ensures
