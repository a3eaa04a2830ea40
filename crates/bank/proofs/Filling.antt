-- What a loop keeps that fills an array of ranges, one by one: those so far are as a rule says, and the others are as they were.
use mathlib.Core.Path.{◌≡◌, refl, sym, ap, ◌∙◌}
use mathlib.Core.List.{List, [], ◌∷◌, ◌++◌, append_assoc, append-nil}
use Prim.Native.Nat.{ℕ, zero, suc, ◌+◌, ◌-◌, ◌≤◌, ◌<◌}
use native.Mathlib.Nat.{add-zero, zero-add, sub_self, sub-zero}
use native.Mathlib.Numerals.{add-one}
use native.Mathlib.Omega.{arith}
use lib.ListN.{length, set, replicate, length-append, length-map, length-replicate}
use lib.Seq.{set_at}
use Rattle.smf.specs.Place.{Span}
use Rattle.smf.specs.Event.{no_span}
use Rattle.base.specs.declared.Range.{Range}
use Rattle.meta.specs.Meta.{span_of}
use Rattle.track.proofs.Held.{map_set}
use Rattle.bank.specs.Read.{ranges}
use Rattle.bank.specs.Answers.{spans_of, held_tracks}

module _ (range : ℕ → Span) where
  pub ranges_length : (i n : ℕ) → length (ranges range i n) ≡ n
  unfolding ranges
  ranges_length i zero = refl
  ranges_length i (suc n) = ap suc (ranges_length (i + 1) n)

  -- the last of them
  pub ranges_last : (i n : ℕ) → ranges range i (suc n) ≡ ranges range i n ++ (range (i + n) ∷ [])
  unfolding ranges
  ranges_last i zero = ap (λ (k : ℕ). range k ∷ []) (sym (add-zero i))
  ranges_last i (suc n) =
      let same : i + 1 + n ≡ i + suc n = omega arith in
      ap (λ (l : List Span). range i ∷ l) (ranges_last (i + 1) n ∙ ap (λ (k : ℕ). ranges range (i + 1) n ++ (range k ∷ [])) same)

  module _ (most : ℕ) where
    -- i of as many ranges are filled in
    abbrev pub Filled : List Range → ℕ → Type 0
    Filled xs i = spans_of xs ≡ ranges range 0 i ++ replicate (most - i) no_span

    pub filled_none : (xs : List Range) → spans_of xs ≡ replicate most no_span → Filled xs 0
    unfolding ranges
    filled_none xs h = h ∙ ap (λ (k : ℕ). replicate k no_span) (sym (sub-zero most))

    pub filled_length : (xs : List Range) (i : ℕ) → i ≤ most → Filled xs i → length xs ≡ most
    filled_length xs i few h =
        sym (length-map xs span_of) ∙ ap length h ∙ length-append (ranges range 0 i) _ ∙ rw (ranges_length 0 i, length-replicate) (omega arith)

    pub filled_more : (xs : List Range) (i : ℕ) (x : Range) → i < most → Filled xs i → span_of x ≡ range i → Filled (set xs i x) (i + 1)
    filled_more xs i x room h own =
        let rest = replicate (most - (i + 1)) no_span in
        let left : most - i ≡ suc (most - (i + 1)) = omega arith in
        let there : spans_of xs ≡ ranges range 0 i ++ (no_span ∷ rest) = h ∙ ap (λ (k : ℕ). ranges range 0 i ++ replicate k no_span) left in
        let next : ranges range 0 (i + 1) ≡ ranges range 0 i ++ (range i ∷ []) =
        ap (ranges range 0) (add-one i) ∙ ranges_last 0 i ∙ ap (λ (k : ℕ). ranges range 0 i ++ (range k ∷ [])) (zero-add i)
        in
        map_set span_of xs i x
        ∙ ap (λ (l : List Span). set l i (span_of x)) there
        ∙ set_at (ranges range 0 i) no_span rest (span_of x) i (ranges_length 0 i)
        ∙ ap (λ (s : Span). ranges range 0 i ++ (s ∷ rest)) own
        ∙ sym (append_assoc (ranges range 0 i) (range i ∷ []) rest)
        ∙ ap (λ (l : List Span). l ++ rest) (sym next)

    pub filled_all : (xs : List Range) → Filled xs most → spans_of xs ≡ ranges range 0 most
    filled_all xs h = h ∙ ap (λ (k : ℕ). ranges range 0 most ++ replicate k no_span) (sub_self most) ∙ append-nil (ranges range 0 most)

    -- as they are held
    pub filled_held : (xs : List Range) (i : ℕ) → Filled xs i → record { tracks = spans_of xs; count = i } ≡ held_tracks most (ranges range 0 i)
    unfolding held_tracks
    filled_held xs i h = rw (h, ranges_length 0 i)
