-- A copy of some bytes over a part of a buffer is a write of them.
use mathlib.Core.Path.{◌≡◌}
use mathlib.Core.List.{List, ◌++◌}
use Prim.Native.Nat.{ℕ}
use lib.ListN.{length, take, drop}
use Rattle.std.proofs.Common.{rules}
use Rattle.std.proofs.lemmas.Grind.{common_steps}
use Rattle.smf.specs.Answer.{gives}
use Rattle.smf.specs.Write.{Written, over}

pub copied : (d ys s : List ℕ) (at k : ℕ) → ys ≡ s → k ≡ length s → take at d ++ (ys ++ drop k (drop at d)) ≡ over s d at
copied d ys s at k same long = rw (same, long) (search (rules, common_steps))

-- what was written, and the place behind it
pub ended : {b c : List ℕ} {n m : ℕ} {w : Written} → b ≡ c → n ≡ m → record { buffer = c; answer = gives m } ≡ w → record { buffer = b; answer = gives n } ≡ w
ended p q e = rw (p, q) e
