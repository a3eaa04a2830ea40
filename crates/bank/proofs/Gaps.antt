-- What the reader's loop keeps: the tracks so far stand one behind the other, and whether there is no gap rests on those that are left.
use mathlib.Core.Path.{◌≡◌, sym, ap, ◌∙◌}
use mathlib.Core.Bool.{Bool, true, false, ◌&&◌}
use mathlib.Core.List.{List}
use Prim.Native.Nat.{ℕ, suc, ◌+◌, ◌-◌, ◌*◌, ◌^◌, ◌≤◌, ◌<◌}
use native.Mathlib.Nat.{sub_self, sub-zero}
use native.Mathlib.Omega.{arith}
use borrow.Author.Tests.{eq-eqb, ne_eqb}
use lib.Dec.{eqb}
use lib.ListN.{length, set, replicate}
use Rattle.smf.specs.Answer.{gives, refuses, unless}
use Rattle.smf.specs.Event.{no_span}
use Rattle.base.specs.declared.Range.{Range}
use Rattle.meta.specs.Meta.{span_of}
use Rattle.bank.specs.Bank.{behind_entries}
use Rattle.bank.specs.Read.{wide_from, entry_at, ranges, no_gap}
use Rattle.bank.specs.Answers.{spans_of, BankAnswer, bank_answer}
use Rattle.bank.proofs.Filling.{Filled, filled_none, filled_more, filled_length, filled_held}

module _ (most count : ℕ) (few : count ≤ most) (block : List ℕ) where
  -- whether the tracks have no gap, all of them
  abbrev Whole : Bool
  Whole = no_gap (behind_entries count) (ranges (entry_at block) 0 count) (length block)

  abbrev Asked : BankAnswer
  Asked = bank_answer most (unless Whole 26 (gives (ranges (entry_at block) 0 count)))

  pub record Walked (tracks : List Range) (place index : ℕ) : Type 0 where
    pub within : index ≤ count
    pub small : place ≤ behind_entries count + index * 2 ^ 32
    pub filled : Filled (entry_at block) most tracks index
    pub rest : Whole ≡ no_gap place (ranges (entry_at block) index (count - index)) (length block)

  pub walked_first : (tracks : List Range) → spans_of tracks ≡ replicate most no_span → Walked tracks (behind_entries count) 0
  walked_first tracks h =
      record {
        within = omega arith;
        small = omega arith;
        filled = filled_none (entry_at block) most tracks h;
        rest = ap (λ (n : ℕ). no_gap (behind_entries count) (ranges (entry_at block) 0 n) (length block)) (sym (sub-zero count));
      }

  module _ {tracks : List Range} {place index : ℕ} (w : Walked tracks place index) where
    pub walked_length : length tracks ≡ most
    walked_length = filled_length (entry_at block) most tracks index (omega (arith, w.within)) w.filled

    module _ (more : index < count) where
      -- the next entry, and those behind it
      next : Whole ≡ (eqb (wide_from block (behind_entries index)) place && no_gap (place + wide_from block (behind_entries index + 4)) (ranges (entry_at block) (index + 1) (count - (index + 1))) (length block))
      unfolding ranges no_gap entry_at
      next =
          let left : count - index ≡ suc (count - (index + 1)) = omega arith in
          w.rest ∙ ap (λ (n : ℕ). no_gap place (ranges (entry_at block) index n) (length block)) left

      -- another offset: a gap, or tracks that overlap
      pub walked_apart : (wide_from block (behind_entries index) ≡ place → ⊥) → bank_answer most (refuses 26) ≡ Asked
      walked_apart h = let no : Whole ≡ false = next ∙ rw (ne_eqb (wide_from block (behind_entries index)) place h) in rw no

      pub walked_more : (long : ℕ) (x : Range) → wide_from block (behind_entries index) ≡ place → long ≡ wide_from block (behind_entries index + 4) → long < 2 ^ 32
          → span_of x ≡ record { start = place; length = long } → Walked (set tracks index x) (place + long) (index + 1)
      unfolding entry_at
      walked_more long x at is below own =
          record {
            within = omega arith;
            small = omega (arith, w.small);
            filled = filled_more (entry_at block) most tracks index x (omega arith) w.filled (own ∙ rw (is, at));
            rest = next ∙ rw (eq-eqb (wide_from block (behind_entries index)) place at, is);
          }

    module _ (last : count ≤ index) where
      ended : index ≡ count
      ended = omega (arith, w.within)

      end : Whole ≡ eqb place (length block)
      unfolding ranges no_gap
      end = w.rest ∙ rw (ended, sub_self count)

      pub walked_short : (place ≡ length block → ⊥) → bank_answer most (refuses 26) ≡ Asked
      walked_short h = let no : Whole ≡ false = end ∙ ne_eqb place (length block) h in rw no

      pub walked_all : place ≡ length block → record { bank = record { tracks = spans_of tracks; count = count }; verdict = gives tt } ≡ Asked
      unfolding bank_answer
      walked_all h =
          let yes : Whole ≡ true = end ∙ eq-eqb place (length block) h in
          let all : Filled (entry_at block) most tracks count = rw ended at w.filled in
          rw (yes, filled_held (entry_at block) most tracks count all)
