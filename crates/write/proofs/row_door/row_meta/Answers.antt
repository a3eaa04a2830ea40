-- `row_meta` meets its contract, number by number.
use mathlib.Core.Path.{◌≡◌, sym, ◌∙◌}
use Prim.Native.Nat.{◌^◌}
use native.Mathlib.Omega.{arith}
use lib.Dec.{ltb}
use Rattle.base.specs.Rules.{rules_of}
use Rattle.meta.specs.Meta.{span_of}
use Rattle.rows.specs.RowEvent.{fields_fit, row_meta}
use Rattle.write.proofs.Forms.{channel_made, port_made, end_made, tempo_made, sequencer_made}
use Rattle.write.proofs.RowForms.{narrower, small, text_fits, text_meta}
use Rattle.write.proofs.row_door.row_meta.Goals as goal

pub returns-in-256 : goal.returns-in-256
unfolding fields_fit row_meta
returns-in-256 c = rw c.in-256.is (c.number.ensures _ _)

pub returns-in-288 : goal.returns-in-288
unfolding fields_fit row_meta
returns-in-288 c =
    let a = c.args in
    rw (c.in-288.is, channel_made (rules_of a.rules) a.bytes.now a.row.a) (c.narrow.ensures _ ∙ sym (narrower (ltb a.row.a 256) (ltb a.row.a 16) _ _ (small a.row.a 16 256 (omega arith))))

pub returns-in-289 : goal.returns-in-289
unfolding fields_fit row_meta
returns-in-289 c =
    let a = c.args in
    rw (c.in-289.is, port_made (rules_of a.rules) a.bytes.now a.row.a) (c.narrow-in-289.ensures _ ∙ sym (narrower (ltb a.row.a 256) (ltb a.row.a 128) _ _ (small a.row.a 128 256 (omega arith))))

pub returns-in-303 : goal.returns-in-303
unfolding fields_fit row_meta
returns-in-303 c = rw c.in-303.is (c.own_bytes.ensures _ ∙ sym (end_made _ _))

pub returns-in-337 : goal.returns-in-337
unfolding fields_fit row_meta
returns-in-337 c =
    let a = c.args in
    rw (c.in-337.is, tempo_made (rules_of a.rules) a.bytes.now a.row.a) (c.tempo.ensures _ ∙ sym (narrower (ltb a.row.a (2 ^ 32)) (ltb a.row.a 16777216) _ _ (small a.row.a 16777216 (2 ^ 32) (omega arith))))

pub returns-in-340 : goal.returns-in-340
unfolding fields_fit row_meta
returns-in-340 c = rw c.in-340.is (c.row_time.ensures _)

pub returns-in-344 : goal.returns-in-344
unfolding fields_fit row_meta
returns-in-344 c = rw c.in-344.is (c.row_signature.ensures _ _)

pub returns-in-345 : goal.returns-in-345
unfolding fields_fit row_meta
returns-in-345 c = rw c.in-345.is (c.row_key.ensures _ _)

pub returns-in-383 : goal.returns-in-383
unfolding fields_fit row_meta
returns-in-383 c = rw c.in-383.is (c.typed.ensures ∙ sym (sequencer_made _ _ _))

pub returns-in-512 : goal.returns-in-512
unfolding fields_fit row_meta
returns-in-512 c = rw c.in-512.is c.row_unknown.ensures

pub returns-in_default : goal.returns-in_default
returns-in_default c =
    let a = c.args in
    let p = c.requires in
    let t = a.row.number in
    let n256 : t ≡ 256 → ⊥ = omega arith in
    let n288 : t ≡ 288 → ⊥ = omega arith in
    let n289 : t ≡ 289 → ⊥ = omega arith in
    let n303 : t ≡ 303 → ⊥ = omega arith in
    let n337 : t ≡ 337 → ⊥ = omega arith in
    let n340 : t ≡ 340 → ⊥ = omega arith in
    let n344 : t ≡ 344 → ⊥ = omega arith in
    let n345 : t ≡ 345 → ⊥ = omega arith in
    let n383 : t ≡ 383 → ⊥ = omega arith in
    let n512 : t ≡ 512 → ⊥ = omega arith in
    rw (text_fits (rules_of a.rules) a.bytes.now a.row.a a.row.b a.row.c a.row.d a.row.e a.row.f t p.0 p.1 p.2 n256 n288 n289 n303 n337 n340 n344 n345 n383 n512, text_meta (rules_of a.rules) a.bytes.now a.row.a a.row.b a.row.c a.row.d a.row.e a.row.f t p.0 p.1 p.2 n256 n288 n289 n303 n337 n340 n344 n345 n383 n512 (span_of a.row.load)) (c.row_text.ensures _)
