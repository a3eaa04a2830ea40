-- `narrow` meets its contract, by the form of its type.
use mathlib.Core.Path.{◌≡◌, refl}
use mathlib.Core.Bool.{Bool, true, false}
use mathlib.Core.List.{List}
use Prim.Native.Nat.{ℕ}
use native.Mathlib.Omega.{arith}
use lib.Dec.{eqb}
use Rattle.smf.specs.Answer.{pick}
use Rattle.smf.specs.Place.{Span}
use Rattle.smf.specs.Kind.{byte, midi_channel, midi_port}
use Rattle.smf.specs.Event.{map_meta}
use Rattle.base.specs.Rules.{rules_of}
use Rattle.meta.proofs.Called.{byte_is, short, enough, enough_refused}
use Rattle.meta.proofs.Limits.{form_narrow, limit_some, narrow_low, narrow_lenient, narrow_strict}
use Rattle.meta.proofs.narrow.Goals as goal

-- such a message has no payload
kept : (span : Span) (b : Bool) (n : ℕ) → map_meta {P = List ℕ} (λ q. span) (pick b (midi_channel n) (midi_port n)) ≡ pick b (midi_channel n) (midi_port n)
unfolding map_meta
kept span true n = refl
kept span false n = refl

pub returns-in_default : goal.returns-in_default
returns-in_default c load =
    let p = c.args.bytes.now in
    short (rules_of c.args.rules) p load c.args.type_byte 1 _ (form_narrow c.requires _ _) c.in_default.len_below

pub returns-then-byte-limit : goal.returns-then-byte-limit
returns-then-byte-limit c load =
    let p = c.args.bytes.now in
    let t = c.args.type_byte in
    let b = byte_is p c.type_inv.bytes 0 in
    let low = rw (← b) at c.if-byte-limit.true in
    rw (c.narrow_kind.ensures, ← kept load (eqb t 0x20), ← b)
    (enough (rules_of c.args.rules) p load t 1 _ (form_narrow c.requires _ _) c.in-len1-up.len_at_least _ (rw (narrow_low (rules_of c.args.rules) c.args.limit (byte p 0) low)))

pub returns-then-rules : goal.returns-then-rules
returns-then-rules c load =
    let p = c.args.bytes.now in
    let b = byte_is p c.type_inv.bytes 0 in
    let high = rw (← b) at c.if-byte-limit.false in
    enough_refused (rules_of c.args.rules) p load c.args.type_byte 1 _ (form_narrow c.requires _ _) c.in-len1-up.len_at_least 12 (rw (narrow_strict (rules_of c.args.rules) c.args.limit (byte p 0) high c.if-rules.true))

pub nonzero_rem-byte : goal.nonzero_rem-byte
nonzero_rem-byte c = omega (arith, limit_some c.requires)

pub returns : goal.returns
returns c load =
    let p = c.args.bytes.now in
    let t = c.args.type_byte in
    let b = byte_is p c.type_inv.bytes 0 in
    let high = rw (← b) at c.if-byte-limit.false in
    rw (c.narrow_kind-2.ensures, ← kept load (eqb t 0x20), ← b)
    (enough (rules_of c.args.rules) p load t 1 _ (form_narrow c.requires _ _) c.in-len1-up.len_at_least _ (rw (narrow_lenient (rules_of c.args.rules) c.args.limit (byte p 0) high c.if-rules.false)))
