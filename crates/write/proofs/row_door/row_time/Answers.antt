-- `row_time` meets its contract: five bytes, and a rate.
use mathlib.Core.Path.{sym, ap, ◌∙◌}
use Prim.Native.Nat.{ℕ}
use native.Mathlib.Omega.{arith}
use Rattle.smf.specs.Smpte.{time}
use Rattle.smf.specs.Kind.{meta, smpte_offset}
use Rattle.base.specs.Rules.{rules_of}
use Rattle.rows.specs.RowEvent.{time_fits}
use Rattle.write.specs.Raw.{raw_kind}
use Rattle.write.proofs.RowForms.{and_false, bytes_below, rate_wide, rate_refused, rate_given}
use Rattle.write.proofs.row_door.row_time.Goals as goal
use Rattle.write.proofs.row_door.row_time.Goals.{then-not-are_bytes-via-then-not-are_bytes, then-not-are_bytes-via-else-not-are_bytes+then-rate-ge256}

pub returns-then-not-are_bytes : goal.returns-then-not-are_bytes
unfolding time_fits
returns-then-not-are_bytes c = λ bytes.
    elim c.then-not-are_bytes.branch [
      | then-not-are_bytes-via-then-not-are_bytes w ↦ rw (← c.are_bytes.ensures, w.if-not-are_bytes.true, and_false)
      | then-not-are_bytes-via-else-not-are_bytes+then-rate-ge256 w ↦ rw (rate_wide c.args.rate w.if-rate-ge256.true)
    ]

pub overflow_cast-a : goal.overflow_cast-a
overflow_cast-a c =
    let a = c.args in
    let v = c.are_bytes in
    let fit = sym v.ensures ∙ c.if-not-are_bytes.false in
    omega (arith, (bytes_below a.a a.b a.c a.d a.e fit).0)

pub overflow_cast-b : goal.overflow_cast-b
overflow_cast-b c =
    let a = c.args in
    let v = c.are_bytes in
    let fit = sym v.ensures ∙ c.if-not-are_bytes.false in
    omega (arith, (bytes_below a.a a.b a.c a.d a.e fit).1)

pub overflow_cast-c : goal.overflow_cast-c
overflow_cast-c c =
    let a = c.args in
    let v = c.are_bytes in
    let fit = sym v.ensures ∙ c.if-not-are_bytes.false in
    omega (arith, (bytes_below a.a a.b a.c a.d a.e fit).2)

pub overflow_cast-d : goal.overflow_cast-d
overflow_cast-d c =
    let a = c.args in
    let v = c.are_bytes in
    let fit = sym v.ensures ∙ c.if-not-are_bytes.false in
    omega (arith, (bytes_below a.a a.b a.c a.d a.e fit).3)

pub overflow_cast-e : goal.overflow_cast-e
overflow_cast-e c =
    let a = c.args in
    let v = c.are_bytes in
    let fit = sym v.ensures ∙ c.if-not-are_bytes.false in
    omega (arith, (bytes_below a.a a.b a.c a.d a.e fit).4)

pub returns : goal.returns
unfolding time_fits
returns c =
    let a = c.args in
    let v = c.are_bytes in
    let fit = sym v.ensures ∙ c.if-not-are_bytes.false in
    let g = rw c.in-Ok.is at c.from_int.ensures in
    let q = rate_given a.rate _ g in
    λ bytes. rw (q.0, fit) (c.time.ensures bytes ∙ ap (λ (n : ℕ). raw_kind (rules_of a.rules) bytes (meta (smpte_offset (time a.a a.b a.c a.d a.e n)))) (sym q.1))

pub returns-in_default : goal.returns-in_default
unfolding time_fits
returns-in_default c =
    let g = rw c.in_default.is at c.from_int.ensures in
    λ bytes. rw (rate_refused c.args.rate _ g)
