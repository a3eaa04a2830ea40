-- `u28::write_varlen` meets its contract: the room is that of the shortest form.
use Prim.Native.Nat.{◌-◌, ◌+◌}
use mathlib.Core.Path.{◌≡◌, ap, ◌∙◌}
use native.Mathlib.Omega.{arith}
use borrow.Author.Rules.{rules}
use Rattle.std.specs.Prelude.{Err}
use lib.ListN.{length}
use Rattle.smf.specs.Number.{encode_number}
use Rattle.smf.proofs.Write.{put_fits, put_full, number_bytes_lem, number_bytes_wide}
use Rattle.base.specs.declared.Refusal.TheVariants as refusal
use Rattle.smf.specs.Write.{over}
use Rattle.number.proofs.PayloadCopy.{ended}
use Rattle.number.proofs.u28.write_varlen.Goals as goal

pub returns-then-self-gt268435455 : goal.returns-then-self-gt268435455
returns-then-self-gt268435455 c = rw (number_bytes_wide c.args.self.0 (omega arith))

pub returns-in_err-end : goal.returns-in_err-end
returns-in_err-end c =
    let e : c.from_residual.result ≡ Err refusal.NoRoom = search rules in
    rw (e, number_bytes_lem c.args.self.0 (omega arith)) (put_full _ _ _ (omega (arith, c.in_err-end.ensures.full)))

pub returns : goal.returns
returns c =
    let a = c.args in
    let e = c.in_ok-end.ensures.fits in
    let here : c.in_ok-end.end - length (encode_number a.self.0) ≡ a.at = omega (arith, e, c.varlen_length.ensures) in
    let behind : c.in_ok-end.end ≡ a.at + length (encode_number a.self.0) = omega (arith, e, c.varlen_length.ensures) in
    rw (number_bytes_lem a.self.0 (omega arith))
    (ended (c.put.ensures ∙ ap (over (encode_number a.self.0) a.out.now) here) behind
    (put_fits (encode_number a.self.0) a.out.now a.at (omega (arith, e, c.varlen_length.ensures))))
