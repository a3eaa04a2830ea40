-- `is_named` meets its contract, type by type.
use mathlib.Core.Path.{◌≡◌, refl}
use mathlib.Core.Bool.{Bool, true, false, ◌||◌}
use Prim.Native.Nat.{◌≤◌, ◌<◌}
use native.Mathlib.Omega.{arith}
use borrow.Author.Tests.{le-leb, lt-leb, ne_eqb}
use Rattle.smf.specs.Event.{is_named}
use Rattle.write.proofs.make.is_named.Goals as goal

-- a test with nothing behind it
alone : (t : Bool) → (t || false) ≡ t
alone true = refl
alone false = refl

pub returns-in-0-to-9 : goal.returns-in-0-to-9
unfolding is_named
returns-in-0-to-9 c = let low : c.args.type_byte ≤ 9 = omega arith in rw (le-leb _ _ low)

pub returns-in-47 : goal.returns-in-47
unfolding is_named
returns-in-47 c = rw c.in-47.is

pub returns-in-89 : goal.returns-in-89
unfolding is_named
returns-in-89 c = rw c.in-89.is

pub returns-in-127 : goal.returns-in-127
unfolding is_named
returns-in-127 c = rw c.in-127.is

pub returns-in-32 : goal.returns-in-32
unfolding is_named
returns-in-32 c = rw c.in-32.is (simp alone)

pub returns-in-33 : goal.returns-in-33
unfolding is_named
returns-in-33 c = rw c.in-33.is (simp alone)

pub returns-in-81 : goal.returns-in-81
unfolding is_named
returns-in-81 c = rw c.in-81.is (simp alone)

pub returns-in-84 : goal.returns-in-84
unfolding is_named
returns-in-84 c = rw c.in-84.is (simp alone)

pub returns-in-88 : goal.returns-in-88
unfolding is_named
returns-in-88 c = rw c.in-88.is

pub returns-in_default : goal.returns-in_default
unfolding is_named
returns-in_default c =
    let t = c.args.type_byte in
    let n47 : t ≡ 47 → ⊥ = omega arith in
    let n89 : t ≡ 89 → ⊥ = omega arith in
    let n127 : t ≡ 127 → ⊥ = omega arith in
    let n32 : t ≡ 32 → ⊥ = omega arith in
    let n33 : t ≡ 33 → ⊥ = omega arith in
    let n81 : t ≡ 81 → ⊥ = omega arith in
    let n84 : t ≡ 84 → ⊥ = omega arith in
    let n88 : t ≡ 88 → ⊥ = omega arith in
    let high : 9 < t = omega arith in
    rw (lt-leb _ _ high, ne_eqb _ _ n47, ne_eqb _ _ n89, ne_eqb _ _ n127, ne_eqb _ _ n32, ne_eqb _ _ n33, ne_eqb _ _ n81, ne_eqb _ _ n84, ne_eqb _ _ n88)
