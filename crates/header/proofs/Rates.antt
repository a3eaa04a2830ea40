-- Every `Fps` is a rate, and its number is small.
use mathlib.Core.Path.{◌≡◌, refl}
use mathlib.Core.Bool.{true}
use Prim.Native.Nat.{◌<◌, ◌≤◌}
use native.Mathlib.Omega.{arith}
use Rattle.smf.specs.Smpte.{is_rate}
use Rattle.header.specs.Fps.{rate_of}
use Rattle.header.specs.declared.Fps.{Fps}
use Rattle.header.specs.declared.Fps.TheVariants as fps

pub record Rated (f : Fps) : Type 0 where
  pub is : is_rate (rate_of f) ≡ true
  pub some : 0 < rate_of f
  pub small : rate_of f ≤ 30

pub rated : (f : Fps) → Rated f
unfolding is_rate
rated fps.Fps24 = record { is = refl; some = omega arith; small = omega arith }
rated fps.Fps25 = record { is = refl; some = omega arith; small = omega arith }
rated fps.Fps29 = record { is = refl; some = omega arith; small = omega arith }
rated fps.Fps30 = record { is = refl; some = omega arith; small = omega arith }
