-- Elements stored one by one, each behind the one before, are a write of all of them.
use mathlib.Core.Path.{◌≡◌, ◌∙◌}
use mathlib.Core.List.{List, [], ◌∷◌, append_assoc}
use Prim.Native.Nat.{ℕ, suc, ◌+◌, ◌≤◌}
use native.Mathlib.Omega.{arith}
use lib.ListN.{length, take, drop, set}
use lib.Seq.{sets, sets-eq}
use Rattle.smf.specs.Write.{over}

stored : (vs s : List ℕ) (at : ℕ) → at + length vs ≤ length s → sets s at vs ≡ over vs s at
stored vs s at h = sets-eq vs s at h ∙ append_assoc (take at s) vs (drop (at + length vs) s)

pub two_stored : (s : List ℕ) (at a b : ℕ) → at + 2 ≤ length s → set (set s at a) (at + 1) b ≡ over (a ∷ b ∷ []) s at
two_stored s at a b h = let second : at + 1 ≡ suc at = omega arith in rw second (stored (a ∷ b ∷ []) s at h)
