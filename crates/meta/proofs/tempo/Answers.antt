-- `tempo` meets its contract, by the form of its type.
use mathlib.Core.Path.{◌∙◌, ap, refl}
use Prim.Native.Nat.{ℕ}
use native.Mathlib.Omega.{arith}
use Rattle.smf.specs.Answer.{gives}
use Rattle.smf.specs.Kind.{tempo, tempo_of}
use Rattle.smf.specs.Event.{map_meta}
use Rattle.smf.proofs.CalledAt.{form_tempo}
use Rattle.meta.proofs.Called.{byte_is, short, enough}
use Rattle.meta.proofs.tempo.Goals as goal

pub returns : goal.returns
unfolding map_meta
returns c rules load =
    let p = c.args.bytes.now in
    let small = c.type_inv.bytes in
    let w = c.word.ensures in
    let f = c.from.ensures in
    let g = c.from-below.ensures in
    ap (λ (v : ℕ). gives (tempo v)) (omega (arith, byte_is p small 0, byte_is p small 1, byte_is p small 2))
    ∙ enough rules p load 0x51 3 _ (form_tempo rules p) c.in-len3-up.len_at_least (tempo_of p) refl

pub returns-in_default : goal.returns-in_default
returns-in_default c rules load =
    let p = c.args.bytes.now in
    short rules p load 0x51 3 _ (form_tempo rules p) c.in_default.len_below
