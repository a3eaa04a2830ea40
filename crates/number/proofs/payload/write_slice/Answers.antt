-- `write_slice` meets its contract, test by test.
use Prim.Native.Nat.{ℕ, ◌+◌, ◌-◌}
use lib.ListN.{take, drop}
use mathlib.Core.Path.{◌≡◌, refl, sym, ap, ◌∙◌}
use native.Mathlib.Omega.{arith}
use borrow.Author.Rules.{rules}
use Rattle.std.specs.Prelude.{Err}
use Rattle.smf.specs.Place.{Span, bytes_of}
use Rattle.smf.proofs.Write.{inside_within, slice_outside, slice_long, slice_full, slice_fits}
use Rattle.base.specs.declared.Refusal.TheVariants as refusal
use Rattle.number.proofs.PayloadCopy.{copied, ended}
use Rattle.number.proofs.payload.write_slice.Goals as goal

pub returns-then-not-is_inside : goal.returns-then-not-is_inside
returns-then-not-is_inside c =
    let a = c.args in
    slice_outside a.bytes.now _ a.out.now a.at (sym c.is_inside.ensures ∙ c.if-not-is_inside.true)

pub returns-in_err-end : goal.returns-in_err-end
returns-in_err-end c =
    let a = c.args in
    let e : c.from_residual.result ≡ Err refusal.NoRoom = search rules in
    rw e (slice_full a.bytes.now _ a.out.now a.at (sym c.is_inside.ensures ∙ c.if-not-is_inside.false) (omega (arith, c.in_err-end.ensures.full)))

pub overflow_add-slice : goal.overflow_add-slice
overflow_add-slice c = let w = inside_within c.args.bytes.now _ (sym c.is_inside.ensures ∙ c.if-not-is_inside.false) in search (rules, w)

pub slice_bounds-copy_over-end : goal.slice_bounds-copy_over-end
slice_bounds-copy_over-end c = let w = inside_within c.args.bytes.now _ (sym c.is_inside.ensures ∙ c.if-not-is_inside.false) in search (rules, w)

pub returns : goal.returns
unfolding bytes_of
returns c =
    let a = c.args in
    let is = sym c.is_inside.ensures ∙ c.if-not-is_inside.false in
    let e = c.in_ok-end.ensures.fits in
    let span : Span = record { start = a.slice.start; length = a.slice.length } in
    let same : a.slice.start + a.slice.length - a.slice.start ≡ a.slice.length = omega arith in
    ended refl e.0 (slice_fits a.bytes.now span a.out.now a.at is (omega (arith, e))
    _ (copied a.out.now _ (bytes_of a.bytes.now span) a.at _ (c.copy_over.ensures ∙ ap (λ (m : ℕ). take m (drop a.slice.start a.bytes.now)) same) (omega (arith, slice_long a.bytes.now span a.out.now a.at is))))
