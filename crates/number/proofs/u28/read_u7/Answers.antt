-- `u28::read_u7` meets its contract. The invariant: the walk from here gives what the walk from the start gives.
use Prim.Native.Nat.{◌<◌}
use mathlib.Core.Path.{◌≡◌}
use lib.ListN.{length, get_or}
use native.Mathlib.Omega.{arith}
use borrow.Author.Rules.{rules}
use Rattle.number.proofs.NumberReads.{begun, onward, room_more, cut_strict, cut_lenient, last, fourth_strict, fourth_lenient, more}
use Rattle.number.proofs.u28.read_u7.Goals as goal
use Rattle.number.proofs.u28.read_u7.Goals.{in_default+else-rules, in-Some+then-byte-lt128, in-Some+else-byte-lt128+then-left-eq0+else-rules-2}

pub loop-byte-init : goal.loop-byte-init
loop-byte-init c = begun _ _ _

pub returns-then-rules : goal.returns-then-rules
returns-then-rules c = cut_strict c.loop-byte.invariant (search rules) c.if-rules.true

pub overflow_mul-int : goal.overflow_mul-int
overflow_mul-int c = record { fits = omega (arith, room_more c.loop-byte.invariant) }

pub overflow_add-int : goal.overflow_add-int
overflow_add-int c = record { fits = omega (arith, room_more c.loop-byte.invariant, c.from.ensures) }

pub returns-then-rules-2 : goal.returns-then-rules-2
returns-then-rules-2 c =
    let byte : c.in-Some.field-0.now ≡ get_or c.args.raw.now c.loop-byte.place 0 = search rules in
    fourth_strict c.loop-byte.invariant (search rules) (rw byte at c.if-byte-lt128.false) c.if-left-eq0.true c.if-rules-2.true

pub loop-byte-preserved : goal.loop-byte-preserved
loop-byte-preserved c =
    let byte : c.in-Some.field-0.now ≡ get_or c.args.raw.now c.loop-byte.place 0 = search rules in
    rw (c.from.ensures, byte) (more c.loop-byte.invariant (search rules) (rw byte at c.if-byte-lt128.false) c.if-left-eq0.false)

-- what the loop is left with stands behind the first place: at the end of the bytes, behind a last byte, or behind a fourth
pub overflow_sub-place : goal.overflow_sub-place
overflow_sub-place c =
    let h = onward c.loop-byte.invariant in
    elim c.match-get.branch [
      | in_default+else-rules w ↦ omega (arith, w.place-is)
      | in-Some+then-byte-lt128 w ↦ omega (arith, w.place-is)
      | in-Some+else-byte-lt128+then-left-eq0+else-rules-2 w ↦ omega (arith, w.place-is)
    ]

pub returns : goal.returns
returns c =
    let l = c.loop-byte.invariant in
    rw c.padding-padding.ensures
    (elim c.match-get.branch [
      | in_default+else-rules w ↦ rw (w.bits-is, w.place-is) (cut_lenient l (search rules) w.if-rules.false)
      | in-Some+then-byte-lt128 w ↦
          let byte : w.in-Some.field-0.now ≡ get_or c.args.raw.now c.loop-byte.place 0 = search rules in
          let room : c.loop-byte.place < length c.args.raw.now = search rules in
          rw (w.bits-is, w.place-is, w.from.ensures, byte) (last l room (rw byte at w.if-byte-lt128.true))
      | in-Some+else-byte-lt128+then-left-eq0+else-rules-2 w ↦
          let byte : w.in-Some.field-0.now ≡ get_or c.args.raw.now c.loop-byte.place 0 = search rules in
          let room : c.loop-byte.place < length c.args.raw.now = search rules in
          rw (w.bits-is, w.place-is, w.from.ensures, byte) (fourth_lenient l room (rw byte at w.if-byte-lt128.false) w.if-left-eq0.true w.if-rules-2.false)
    ])
