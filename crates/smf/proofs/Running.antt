-- The running statuses: none, or a channel status.
use mathlib.Core.Path.{◌≡◌, refl}
use mathlib.Core.Bool.{Bool, true}
use mathlib.Core.Logic.{◌⊎◌, inl, inr}
use Prim.Native.Nat.{ℕ, ◌≤◌, ◌<◌}
use native.Mathlib.Omega.{arith}
use lib.Dec.{ltb, eqb}
use borrow.Author.Tests.{ltb-true, ltb-false, eqb-true, lt-ltb, le-ltb, ne_eqb}
use Rattle.smf.specs.Running.{is_running}
use Rattle.smf.proofs.Answer.{pick_test}

-- 80..EF
pub record Channel (status : ℕ) : Type 0 where
  pub low : 0x80 ≤ status
  pub high : status < 0xF0

pub channel_runs : (status : ℕ) → Channel status → is_running status ≡ true
unfolding is_running
channel_runs status c = rw (ne_eqb status 0 (omega (arith, c.low)), le-ltb status 0x80 c.low, lt-ltb status 0xF0 c.high)

pub none_runs : is_running 0 ≡ true
unfolding is_running
none_runs = refl

pub running_is : (status : ℕ) → is_running status ≡ true → (status ≡ 0) ⊎ Channel status
unfolding is_running
running_is status =
    pick_test (λ (t : Bool). t ≡ true → (status ≡ 0) ⊎ Channel status) (eqb status 0) (λ e _. inl (eqb-true status 0 e))
    (λ _. pick_test (λ (t : Bool). t ≡ true → (status ≡ 0) ⊎ Channel status) (ltb status 0x80) (λ e h. let z : ◌≡◌ {A = ℕ} 0 1 = cc in absurd (omega arith))
    (λ e h. inr (record { low = ltb-false status 0x80 e; high = ltb-true status 0xF0 h })))
