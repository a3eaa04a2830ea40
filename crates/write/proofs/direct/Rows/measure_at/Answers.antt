-- `measure_at` meets its contract: a channel message's length from its cells, and every other row's through its door.
use mathlib.Core.Path.{refl, sym, ap, ◌∙◌}
use native.Mathlib.Omega.{arith}
use lib.ListN.{get_or}
use Rattle.smf.specs.Answer.{gives}
use Rattle.smf.specs.Wire.{raw_event}
use Rattle.smf.proofs.Number.{encode_most}
use Rattle.base.specs.Rules.{rules_of}
use Rattle.write.specs.Raw.{channel_raw, wire_of, is_sound, raw_length, raw_after, Short}
use Rattle.write.specs.declared.raw.Channel.{Channel}
use Rattle.write.specs.declared.raw.Raw.TheVariants as raw
use Rattle.write.proofs.Doors.{row_number, told}
use Rattle.write.proofs.Lengths.{raw_size_lem, raw_few}
use Rattle.write.proofs.Straight.{direct_judged}
use Rattle.write.proofs.direct.Rows.measure_at.Goals as goal

pub offset_bounds-rows-at : goal.offset_bounds-rows-at
offset_bounds-rows-at c = let taken = c.in-Some.ensures in omega (arith, taken.0.there)

pub bounds-rows-at : goal.bounds-rows-at
bounds-rows-at c = let taken = c.in-Some.ensures in omega (arith, taken.0.there)

pub overflow_cast-delta : goal.overflow_cast-delta
overflow_cast-delta c = let taken = c.in-Some.ensures in omega (arith, taken.0.delta)

pub overflow_add-result : goal.overflow_add-result
unfolding Short raw_length
overflow_add-result c =
    let a = c.args in
    omega (arith, c.varlen_length.ensures, encode_most (get_or a.self.now.cells.now a.at 0), c.channel_length.ensures, raw_few a.running.status (raw.Channel c.in-Some.c) tt)

pub returns-in-Some : goal.returns-in-Some
unfolding wire_of is_sound raw_length raw_after
returns-in-Some c =
    let a = c.args in
    let d = c.in-Some.ensures in
    let judged = direct_judged a.self.now.cells.now a.at (rules_of a.self.now.rules) a.self.now.bytes.now d.0 ∙ ap (λ (x : Channel). gives (raw_event (get_or a.self.now.cells.now a.at 0) (channel_raw x))) (sym d.1) in
    rw (judged, c.channel_length.ensures, c.varlen_length.ensures)
    (ap gives (raw_size_lem a.self.now.bytes.now a.running.status (get_or a.self.now.cells.now a.at 0) (raw.Channel c.in-Some.c) refl))

pub measured-requires : goal.measured-requires
measured-requires c = told _ _ (row_number _ _ _) c.judge_at.result c.judge_at.ensures

pub returns : goal.returns
returns c = rw (← c.judge_at.ensures) c.measured.ensures
