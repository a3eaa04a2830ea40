-- `MidiMessage::msg_length` meets its contract. The test is of the whole table: antt computes the rule at 0, 1, .., 255 and holds the list to the
-- table's 256 entries. The law `entry` carries it to the one that is read.
use Rattle.std.proofs.Common.{arith}
use Rattle.smf.specs.Wire.{data_length, table_length}
use Rattle.smf.proofs.Table.{entry}
use Rattle.midi.proofs.MidiMessage.msg_length.Goals as goal

pub returns : goal.returns
unfolding data_length table_length
returns c = entry table_length 256 c.args.status (omega arith)
