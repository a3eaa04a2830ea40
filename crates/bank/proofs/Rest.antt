-- What the writer's loops have in common: they go over the ranges of a bank in order, with the place that the next track has, and what is left behind it.
use mathlib.Core.Path.{◌≡◌, refl, sym, ap, ◌∙◌}
use mathlib.Core.Bool.{Bool, true, false}
use mathlib.Core.List.{List, [], ◌∷◌, flatten}
use Prim.Native.Nat.{ℕ, zero, suc, ◌+◌, ◌≤◌, ◌<◌}
use native.Mathlib.Numerals.{add-one}
use native.Mathlib.Omega.{arith}
use lib.ListN.{length, drop, get_or, length-append, length-map, drop_of_length-le, get_or-map}
use lib.Seq.{drop-cons}
use Rattle.std.specs.Bool.{MatchBool}
use Rattle.std.specs.List.{All, AllWithin, HoldsAt}
use Rattle.std.proofs.lemmas.List.Elements.{All-from_all_within}
use Rattle.smf.specs.Place.{Span, inside, bytes_of}
use Rattle.smf.proofs.Answer.{both, by_test}
use Rattle.smf.proofs.Write.{slice_long}
use Rattle.base.specs.declared.Range.{Range}
use Rattle.meta.specs.Meta.{span_of}
use Rattle.bank.specs.Bank.{behind_entries, bank_length}
use Rattle.bank.specs.Write.{all_inside, tracks_of}
use Rattle.bank.specs.Answers.{spans_of}

-- Whether all of them are inside the bytes

module _ (bytes : List ℕ) where
  abbrev pub In : Range → Type 0
  In r = inside bytes (span_of r) ≡ true

  abbrev pub Out : Range → Type 0
  Out r = inside bytes (span_of r) ≡ false

  all_in : (rs : List Range) → All In rs → all_inside bytes (spans_of rs) ≡ true
  unfolding all_inside
  all_in [] h = refl
  all_in (r ∷ rs) h = rw (h 0 r (omega arith)) (all_in rs (λ k d lt. h (suc k) d (omega arith)))

  one_out : (rs : List Range) (k : ℕ) → k < length rs → HoldsAt Out rs k → all_inside bytes (spans_of rs) ≡ false
  unfolding all_inside
  one_out [] k lt h = absurd (omega arith)
  one_out (r ∷ rs) zero lt h = rw (h r)
  one_out (r ∷ rs) (suc k) lt h = rw (one_out rs k (omega arith) h) (by_test (inside bytes (span_of r)) (λ e. rw e) (λ e. rw e))

  -- by what was found out, looking at one behind the other
  pub looked : (rs : List Range) (b : Bool) → MatchBool b (AllWithin In rs 0 (length rs)) ((k : ℕ) × (k < length rs) × HoldsAt Out rs k)
      → b ≡ all_inside bytes (spans_of rs)
  looked rs true h = sym (all_in rs (All-from_all_within In rs h))
  looked rs false h = sym (one_out rs h.0 h.1 h.2)

module _ (bytes : List ℕ) (ranges : List Range) where
  -- the ranges from an index on
  abbrev pub left : ℕ → List Span
  left i = drop i (spans_of ranges)

  -- how long the tracks from an index on are
  abbrev pub left_length : ℕ → ℕ
  left_length i = length (flatten (tracks_of bytes (left i)))

  -- the next of them
  pub next : (i : ℕ) (past : Range) → i < length ranges → left i ≡ span_of (get_or ranges i past) ∷ left (i + 1)
  next i past h =
      drop-cons (spans_of ranges) i (span_of past) (omega (arith, length-map ranges span_of))
      ∙ ap (λ (s : Span). s ∷ drop (suc i) (spans_of ranges)) (get_or-map span_of ranges i past)
      ∙ ap (λ (n : ℕ). span_of (get_or ranges i past) ∷ drop n (spans_of ranges)) (sym (add-one i))

  -- behind the last none is left
  pub none : (i : ℕ) → length ranges ≤ i → left i ≡ []
  none i h = drop_of_length-le (spans_of ranges) {i = i} (omega (arith, length-map ranges span_of))

  -- Where the tracks go

  -- the next track's place and its index
  pub record Rest (place index : ℕ) : Type 0 where
    pub within : index ≤ length ranges
    pub safe : all_inside bytes (left index) ≡ true
    pub sum : place + left_length index ≡ bank_length (tracks_of bytes (spans_of ranges))

  pub rest_first : all_inside bytes (spans_of ranges) ≡ true → Rest (behind_entries (length ranges)) 0
  rest_first all =
      record { within = omega arith; safe = all; sum = omega (arith, length-map (spans_of ranges) (bytes_of bytes), length-map ranges span_of) }

  module _ {place index : ℕ} (r : Rest place index) (past : Range) (more : index < length ranges) where
    abbrev pub range : Span
    range = span_of (get_or ranges index past)

    heads : (inside bytes range ≡ true) × (all_inside bytes (left (index + 1)) ≡ true)
    unfolding all_inside
    heads = let all : all_inside bytes (range ∷ left (index + 1)) ≡ true = rw (next index past more) at r.safe in both (inside bytes range) (all_inside bytes (left (index + 1))) all

    pub rest_inside : inside bytes range ≡ true
    rest_inside = heads.0

    pub rest_long : length (bytes_of bytes range) ≡ range.length
    rest_long = slice_long bytes range [] 0 rest_inside

    pub rest_next : tracks_of bytes (left index) ≡ bytes_of bytes range ∷ tracks_of bytes (left (index + 1))
    rest_next = ap (tracks_of bytes) (next index past more)

    pub rest_split : left_length index ≡ range.length + left_length (index + 1)
    unfolding flatten
    rest_split =
        ap (λ (ts : List (List ℕ)). length (flatten ts)) rest_next
        ∙ length-append (bytes_of bytes range) (flatten (tracks_of bytes (left (index + 1))))
        ∙ ap (λ (n : ℕ). n + left_length (index + 1)) rest_long

    pub rest_more : Rest (place + range.length) (index + 1)
    rest_more = record { within = omega arith; safe = heads.1; sum = omega (arith, r.sum, rest_split) }

    -- the next track ends within the bank
    pub rest_bound : place + range.length ≤ bank_length (tracks_of bytes (spans_of ranges))
    rest_bound = omega (arith, r.sum, rest_split)

  -- behind the last the place is the bank's length
  pub rest_end : {place index : ℕ} → Rest place index → length ranges ≤ index → place ≡ bank_length (tracks_of bytes (spans_of ranges))
  unfolding flatten
  rest_end {place} {index} r last =
      let none_left : left_length index ≡ 0 = ap (λ (l : List Span). length (flatten (tracks_of bytes l))) (none index last) in
      omega (arith, r.sum)
