-- `PitchBend::as_f64` meets its contract: the bend that `as_int` gives, as a float, times 1 / 8,192 is the exact quotient.
use mathlib.Core.Path.{◌≡◌}
use Rattle.std.proofs.Common.{rules}
use Rattle.std.specs.Prelude.{Err}
use lib.Ieee.{binary64, of_bits, div, round}
use Rattle.midi.proofs.BendFloats.{given, refused}
use Rattle.midi.proofs.PitchBend.as_f64.Goals as goal

pub returns : goal.returns
unfolding of_bits div round
returns c =
    let g = given binary64 c.args.self.0.0 c.as_int.ensures c.in_ok-as_int.was in
    record { result_value = g.0; exact = g.1 }

pub returns-in_err-as_int : goal.returns-in_err-as_int
returns-in_err-as_int c =
    let e : c.from_residual.result ≡ Err c.in_err-as_int.field-0.0 = search rules in
    let r = refused binary64 c.args.self.0.0 c.as_int.ensures c.in_err-as_int.was in
    rw e (record { result_value = r.0; exact = r.1 })
