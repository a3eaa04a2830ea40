-- `named` meets its contract, by the form of its type.
use native.Mathlib.Omega.{arith}
use Rattle.smf.specs.Kind.{text, end_of_track, sequencer_specific, unknown}
use Rattle.smf.specs.Event.{map_meta}
use Rattle.smf.proofs.CalledAt.{form_number, form_text, form_end, form_sequencer, form_unknown}
use Rattle.base.specs.Rules.{rules_of}
use Rattle.meta.specs.Narrow.{channel, port}
use Rattle.meta.specs.Meta.{span_of}
use Rattle.meta.proofs.Called.{called_is}
use Rattle.meta.proofs.named.Goals as goal

pub narrow-requires : goal.narrow-requires
narrow-requires c = channel

pub narrow-requires-in-33 : goal.narrow-requires-in-33
narrow-requires-in-33 c = port

pub returns-in-0 : goal.returns-in-0
returns-in-0 c =
    rw (c.in-0.is, c.track_number.ensures (span_of c.args.load)) (called_is (rules_of c.args.rules) c.args.bytes.now (span_of c.args.load) 0x00 _ (form_number _ _))

pub returns-in-47 : goal.returns-in-47
unfolding map_meta
returns-in-47 c = rw c.in-47.is (called_is (rules_of c.args.rules) c.args.bytes.now (span_of c.args.load) 0x2F end_of_track (form_end _ _))

pub returns-in-127 : goal.returns-in-127
unfolding map_meta
returns-in-127 c =
    rw c.in-127.is (called_is (rules_of c.args.rules) c.args.bytes.now (span_of c.args.load) 0x7F (sequencer_specific _) (form_sequencer _ _))

pub returns-in-1-to-9 : goal.returns-in-1-to-9
unfolding map_meta
returns-in-1-to-9 c =
    rw c.text.ensures (called_is (rules_of c.args.rules) c.args.bytes.now (span_of c.args.load) c.args.type_byte (text c.args.type_byte _) (form_text _ _ c.args.type_byte (omega arith) (omega arith)))

pub returns-in_default : goal.returns-in_default
unfolding map_meta
returns-in_default c =
    called_is (rules_of c.args.rules) c.args.bytes.now (span_of c.args.load) c.args.type_byte (unknown _ _) (form_unknown _ _ _ (omega arith) (omega arith) (omega arith) (omega arith) (omega arith) (omega arith) (omega arith) (omega arith) (omega arith))
