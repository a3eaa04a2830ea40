-- Reading a bank, test by test.
use mathlib.Core.Path.{◌≡◌, ◌∙◌}
use mathlib.Core.List.{List}
use Prim.Native.Nat.{ℕ, ◌≤◌, ◌<◌}
use native.Mathlib.Omega.{arith}
use borrow.Author.Tests.{lt-ltb, le-ltb, le-leb, lt-leb, eq-eqb, ne_eqb}
use lib.ListN.{length}
use Rattle.smf.specs.Answer.{gives, refuses, unless}
use Rattle.bank.specs.Bank.{most_bytes, behind_entries}
use Rattle.bank.specs.Read.{count_of, total_of, entries_of, no_gap, agrees, read_bank}

module _ (most : ℕ) (block : List ℕ) where
  pub no_count : length block < 4 → read_bank most block ≡ refuses 24
  unfolding read_bank
  no_count h = rw (lt-ltb (length block) 4 h, lt-leb (behind_entries (count_of block)) (length block) (omega arith))

  module _ (counted : 4 ≤ length block) where
    pub many : most < count_of block → read_bank most block ≡ refuses 25
    unfolding read_bank
    many h = rw (le-ltb (length block) 4 counted, lt-leb (count_of block) most h)

    module _ (few : count_of block ≤ most) where
      pub short : length block < behind_entries (count_of block) → read_bank most block ≡ refuses 24
      unfolding read_bank
      short h = rw (le-ltb (length block) 4 counted, le-leb (count_of block) most few, lt-leb (behind_entries (count_of block)) (length block) h)

      module _ (long : behind_entries (count_of block) ≤ length block) where
        -- whatever else disagrees is 26
        pub there : read_bank most block ≡ unless (agrees block) 26 (gives (entries_of block))
        unfolding read_bank
        there = rw (le-ltb (length block) 4 counted, le-leb (count_of block) most few, le-leb (behind_entries (count_of block)) (length block) long)

        pub large : most_bytes < length block → read_bank most block ≡ refuses 26
        unfolding agrees
        large h = there ∙ rw (lt-leb (length block) most_bytes h)

        module _ (small : length block ≤ most_bytes) where
          pub other_total : (total_of block ≡ length block → ⊥) → read_bank most block ≡ refuses 26
          unfolding agrees
          other_total h = there ∙ rw (le-leb (length block) most_bytes small, ne_eqb (total_of block) (length block) h)

          pub walked : total_of block ≡ length block
              → read_bank most block ≡ unless (no_gap (behind_entries (count_of block)) (entries_of block) (length block)) 26 (gives (entries_of block))
          unfolding agrees
          walked h = there ∙ rw (le-leb (length block) most_bytes small, eq-eqb (total_of block) (length block) h)
