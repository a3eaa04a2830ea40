-- The two types whose first byte is to be below a limit are read alike.
use mathlib.Core.Path.{◌≡◌}
use mathlib.Core.Bool.{true, false}
use mathlib.Core.List.{List}
use Prim.Native.Nat.{ℕ, ◌%◌, ◌≤◌, ◌<◌}
use native.Mathlib.Omega.{arith}
use lib.Dec.{eqb}
use borrow.Author.Tests.{lt-ltb, le-ltb}
use Rattle.smf.specs.Answer.{pick, gives, refuses, and_then, Rules}
use Rattle.smf.specs.Kind.{byte, from, narrow, midi_channel, midi_port, called_meta}
use Rattle.smf.proofs.CalledAt.{form_channel, form_port}
use Rattle.meta.specs.Narrow.{Narrow, channel, port}

pub form_narrow : {t limit : ℕ} → Narrow t limit → (rules : Rules) (p : List ℕ)
    → called_meta rules t p ≡ from 1 t p (and_then (narrow rules limit (byte p 0)) (λ c. gives (pick (eqb t 0x20) (midi_channel c) (midi_port c))))
form_narrow channel = form_channel
form_narrow port = form_port

pub limit_some : {t limit : ℕ} → Narrow t limit → 0 < limit
limit_some channel = omega arith
limit_some port = omega arith

-- what becomes of a byte
module _ (rules : Rules) (limit b : ℕ) where
  pub narrow_low : b < limit → narrow rules limit b ≡ gives b
  unfolding narrow
  narrow_low h = rw (lt-ltb b limit h)

  pub narrow_strict : limit ≤ b → rules.strict ≡ true → narrow rules limit b ≡ refuses 12
  unfolding narrow
  narrow_strict h t = rw (le-ltb b limit h, t)

  pub narrow_lenient : limit ≤ b → rules.strict ≡ false → narrow rules limit b ≡ gives (b % limit)
  unfolding narrow
  narrow_lenient h t = rw (le-ltb b limit h, t)
