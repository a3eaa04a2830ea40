-- `write_varlen_slice` meets its contract: the number, and behind it the bytes.
use Prim.Native.Nat.{◌≤◌, ◌<◌, ◌+◌, ◌-◌}
use mathlib.Core.Path.{◌≡◌, sym, ap, ◌∙◌}
use mathlib.Core.List.{List}
use Prim.Native.Nat.{ℕ}
use native.Mathlib.Omega.{arith}
use borrow.Author.Rules.{rules}
use Rattle.std.specs.Prelude.{Err}
use Rattle.base.specs.declared.Refusal.TheVariants as refusal
use Rattle.number.proofs.PayloadCopy.{copied, ended}
use lib.ListN.{length, take, drop, length-drop}
use lib.Seq.{length-take-le}
use Rattle.smf.specs.Number.{encode_number}
use Rattle.smf.specs.Payload.{encode_payload}
use Rattle.smf.specs.Write.{over, left, write, payload_bytes}
use Rattle.smf.proofs.Number.{encode_most}
use Rattle.smf.proofs.Write.{put_fits, put_full, inside_within, inside_beyond, part_outside, part_long, part_bytes, payload_size, payload_put}
use Rattle.number.proofs.payload.write_varlen_slice.Goals as goal
use Rattle.number.proofs.payload.write_varlen_slice.Goals.{After-varlen_length}

-- past the first test: the range is inside the bytes
within : (c : After-varlen_length) → c.args.slice.start + c.args.slice.length ≤ length c.args.bytes.now
within c = inside_within c.args.bytes.now _ (sym c.is_inside.ensures ∙ c.if-not-is_inside.false)

-- the part, its length, and the length of its bytes
part : After-varlen_length → List ℕ
part c = let a = c.args in take a.slice.length (drop a.slice.start a.bytes.now)

long : (c : After-varlen_length) → length (part c) ≡ c.args.slice.length
unfolding part
long c =
    let a = c.args in
    length-take-le a.slice.length (drop a.slice.start a.bytes.now) (omega (arith, within c, length-drop a.slice.start a.bytes.now))

size : (c : After-varlen_length) → length (encode_payload (part c)) ≡ length (encode_number c.args.slice.length) + c.args.slice.length
size c = payload_size (part c) c.args.out.now 0 _ (long c)

-- where it has no room
full : (c : After-varlen_length) → length c.args.out.now < c.args.at + (c.varlen_length.result + c.args.slice.length) → left c.args.out.now 20 ≡ write (payload_bytes c.args.bytes.now c.args.slice.start c.args.slice.length) c.args.out.now c.args.at
unfolding part
full c h =
    let a = c.args in
    rw (part_bytes a.bytes.now a.slice.start a.slice.length (within c) (omega arith))
    (put_full (encode_payload (part c)) a.out.now a.at (omega (arith, size c, c.varlen_length.ensures)))

pub returns-then-not-is_inside : goal.returns-then-not-is_inside
returns-then-not-is_inside c =
    let a = c.args in
    rw (part_outside a.bytes.now a.slice.start a.slice.length (inside_beyond a.bytes.now _ (sym c.is_inside.ensures ∙ c.if-not-is_inside.true)))

pub returns-then-n-gt268435455 : goal.returns-then-n-gt268435455
returns-then-n-gt268435455 c =
    let a = c.args in
    rw (part_long a.bytes.now a.slice.start a.slice.length (inside_within a.bytes.now _ (sym c.is_inside.ensures ∙ c.if-not-is_inside.false)) (omega arith))

pub overflow_add-varlen_length : goal.overflow_add-varlen_length
overflow_add-varlen_length c = omega (arith, c.varlen_length.ensures, encode_most c.args.slice.length)

pub returns-in_err-end : goal.returns-in_err-end
returns-in_err-end c =
    let e : c.from_residual.result ≡ Err refusal.NoRoom = search rules in
    rw e (full (goal.at.returns-in_err-end c).After-varlen_length (omega (arith, c.in_err-end.ensures.full)))

pub overflow_add-start : goal.overflow_add-start
overflow_add-start c = let w = within (goal.at.overflow_add-start c).After-varlen_length in search (rules, w)

pub slice_bounds-copy_over-end : goal.slice_bounds-copy_over-end
slice_bounds-copy_over-end c = let w = within (goal.at.slice_bounds-copy_over-end c).After-varlen_length in search (rules, w)

pub returns : goal.returns
unfolding part
returns c =
    let a = c.args in
    let there = (goal.at.returns c).After-varlen_length in
    let e = c.in_ok-end.ensures.fits in
    let l = c.varlen_length.ensures in
    let n = a.slice.length in
    let same : a.slice.start + n - a.slice.start ≡ n = omega arith in
    let first : c.in_ok-end.end - n - length (encode_number n) ≡ a.at = omega (arith, e, l) in
    let behind : c.in_ok-end.end ≡ a.at + length (encode_payload (part there)) = omega (arith, e, l, size there) in
    let copy = copied c.put.new.out _ (part there) (c.in_ok-end.end - n) (c.in_ok-end.end - (c.in_ok-end.end - n)) (c.copy_over.ensures ∙ ap (λ (m : ℕ). take m (drop a.slice.start a.bytes.now)) same) (omega (arith, long there, e)) in
    let whole = payload_put (part there) a.out.now a.at n (long there) _ _ (c.in_ok-end.end - n) (omega (arith, e)) (c.put.ensures ∙ ap (over (encode_number n) a.out.now) first) copy (omega (arith, e, l)) in
    rw (part_bytes a.bytes.now a.slice.start n (within there) (omega arith)) (ended whole behind (put_fits (encode_payload (part there)) a.out.now a.at (omega (arith, e, l, size there))))
