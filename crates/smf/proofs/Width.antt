-- One law over the width, for every restricted number.
use mathlib.Core.Path.{◌≡◌}
use Prim.Native.Nat.{ℕ, ◌^◌, ◌<◌, ◌≤◌}
use borrow.Author.Tests.{lt-ltb, le-ltb}
use Rattle.smf.specs.Answer.{gives, refuses}
use Rattle.smf.specs.Width.{try_width}

pub try_in : (w : ℕ) {x : ℕ} → x < 2 ^ w → gives x ≡ try_width w x
unfolding try_width
try_in w {x} h = rw (lt-ltb x (2 ^ w) h)

pub try_out : (w : ℕ) {x : ℕ} → 2 ^ w ≤ x → refuses 18 ≡ try_width w x
unfolding try_width
try_out w {x} h = rw (le-ltb x (2 ^ w) h)
