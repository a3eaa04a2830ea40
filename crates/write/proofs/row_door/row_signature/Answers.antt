-- `row_signature` meets its contract, where its numbers are bytes.
use mathlib.Core.Path.{sym, ◌∙◌}
use native.Mathlib.Omega.{arith}
use Rattle.write.proofs.Forms.{signature_fits}
use Rattle.write.proofs.RowForms.{bytes_below}
use Rattle.write.proofs.row_door.row_signature.Goals as goal

pub returns-then-not-are_bytes : goal.returns-then-not-are_bytes
returns-then-not-are_bytes c = λ rules bytes. rw (← c.are_bytes.ensures, c.if-not-are_bytes.true)

pub overflow_cast-a : goal.overflow_cast-a
overflow_cast-a c =
    let a = c.args in
    let v = c.are_bytes in
    let fit = sym v.ensures ∙ c.if-not-are_bytes.false in
    omega (arith, (bytes_below a.a a.b a.c a.d 0 fit).0)

pub overflow_cast-b : goal.overflow_cast-b
overflow_cast-b c =
    let a = c.args in
    let v = c.are_bytes in
    let fit = sym v.ensures ∙ c.if-not-are_bytes.false in
    omega (arith, (bytes_below a.a a.b a.c a.d 0 fit).1)

pub overflow_cast-c : goal.overflow_cast-c
overflow_cast-c c =
    let a = c.args in
    let v = c.are_bytes in
    let fit = sym v.ensures ∙ c.if-not-are_bytes.false in
    omega (arith, (bytes_below a.a a.b a.c a.d 0 fit).2)

pub overflow_cast-d : goal.overflow_cast-d
overflow_cast-d c =
    let a = c.args in
    let v = c.are_bytes in
    let fit = sym v.ensures ∙ c.if-not-are_bytes.false in
    omega (arith, (bytes_below a.a a.b a.c a.d 0 fit).3)

pub returns : goal.returns
returns c =
    let a = c.args in
    let v = c.are_bytes in
    let fit = sym v.ensures ∙ c.if-not-are_bytes.false in
    let b = bytes_below a.a a.b a.c a.d 0 fit in
    λ rules bytes. rw (fit, signature_fits rules bytes b.0 b.1 b.2 b.3) (c.signature.ensures bytes)
