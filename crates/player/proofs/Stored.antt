-- What a loop keeps that stores the values of a rule one by one: those below the index are there.
use mathlib.Core.Path.{◌≡◌, sym, ◌∙◌}
use mathlib.Core.List.{List, map}
use Prim.Native.Nat.{ℕ, ◌≤◌, ◌<◌}
use native.Mathlib.Omega.{arith}
use lib.ListN.{length, get_or}
use lib.Seq.{ext_get_or}
use Rattle.player.specs.Table.{numbers_from}
use Rattle.player.proofs.Tables.{length_mapped, mapped_at}

module _ (rule : ℕ → ℕ) (n : ℕ) where
  pub record Stored (xs : List ℕ) (i : ℕ) : Type 0 where
    pub within : i ≤ n
    pub long : length xs ≡ n
    pub there : (k : ℕ) → k < i → get_or xs k 0 ≡ rule k

  module _ {xs : List ℕ} {i : ℕ} (s : Stored xs i) where
    pub stored_all : n ≤ i → xs ≡ map rule (numbers_from 0 n)
    stored_all last =
        ext_get_or 0 xs (map rule (numbers_from 0 n)) (s.long ∙ sym (length_mapped rule n))
        (λ k h. s.there k (omega (arith, s.long)) ∙ sym (mapped_at rule n k 0 (omega (arith, s.long))))
