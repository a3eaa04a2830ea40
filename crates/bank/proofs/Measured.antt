-- How long a bank is, by its most bytes: what measuring answers of a size, and what its answer says of it.
use mathlib.Core.Path.{◌≡◌, sym, ◌∙◌}
use Prim.Native.Nat.{ℕ, ◌≤◌, ◌<◌}
use borrow.Author.Tests.{le-leb, lt-leb, leb-true, leb-false}
use lib.Dec.{leb}
use Rattle.smf.specs.Answer.{Answer, gives, refuses, unless}
use Rattle.smf.proofs.Answer.{given, ungiven}
use Rattle.bank.specs.Bank.{most_bytes}

module _ (size : ℕ) where
  abbrev Measured : Answer ℕ
  Measured = unless (leb size most_bytes) 20 (gives size)

  pub measured_over : most_bytes < size → refuses 20 ≡ Measured
  measured_over h = rw (lt-leb size most_bytes h)

  pub measured_fits : (sum : ℕ) → sum ≡ size → sum ≤ most_bytes → gives sum ≡ Measured
  measured_fits sum e h = rw (← e, le-leb sum most_bytes h)

  module _ {r : Answer ℕ} (measured : r ≡ Measured) where
    pub measured_large : {n : ℕ} → r ≡ refuses n → (n ≡ 20) × (most_bytes < size)
    measured_large e = let u = ungiven (leb size most_bytes) size 20 (sym measured ∙ e) in (u.1, leb-false size most_bytes u.0)

    pub measured_small : {n : ℕ} → r ≡ gives n → (size ≡ n) × (size ≤ most_bytes)
    measured_small e = let g = given (leb size most_bytes) size 20 (sym measured ∙ e) in (g.1, leb-true size most_bytes g.0)
