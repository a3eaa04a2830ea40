-- What the promises of the player tell: by which numbers each refuses, and what it leaves then; and what is given where it is accepted.
use mathlib.Core.Path.{◌≡◌, refl, sym, ap}
use mathlib.Core.Bool.{true, false, true≢false, ◌&&◌}
use mathlib.Core.List.{List, [], ◌∷◌}
use Prim.Native.Nat.{ℕ, zero, suc, ◌+◌, ◌≤◌, ◌<◌}
use native.Mathlib.Omega.{arith}
use borrow.Author.Tests.{leb-true, ltb-true, le-leb, lt-leb, lt-ltb}
use lib.Dec.{leb}
use lib.ListN.{length, take}
use Rattle.smf.specs.Answer.{Answer, gives, refuses, and_then}
use Rattle.smf.specs.Place.{Span}
use Rattle.smf.specs.Write.{Written, put}
use Rattle.smf.specs.Event.{Event}
use Rattle.smf.proofs.Answer.{by_test, pick_both, both, given, said_refused}
use Rattle.rows.specs.RowLists.{are_rows, called_rows}
use Rattle.rows.specs.Sheet.{sheet_of}
use Rattle.player.specs.Table.{channels, keys, Table, key_place}
use Rattle.player.specs.Widths.{within, all_within, accepted}
use Rattle.player.specs.Sounding.{silence, silence_from}
use Rattle.player.specs.Answers.{Beside, with_number, beside}
use Rattle.player.specs.Entries.{rows_accepted, CellsLeft, cells_left, rows_put, silence_left}
use Rattle.claims.specs.Table.{By}
use Rattle.claims.specs.EntrySays.{AnswersBy}
use Rattle.claims.proofs.Refusals.{then_by, one_of_more}

-- Refusals

pub accepted_by : (most : ℕ) (records : List (Event Span)) (count : ℕ) → By (18 ∷ 21 ∷ []) (accepted most records count)
unfolding accepted
accepted_by most records count =
    pick_both (By (18 ∷ 21 ∷ [])) (leb count most) (pick_both (By (18 ∷ 21 ∷ [])) (all_within (take count records)) tt refl) refl

pub rows_accepted_by : (most : ℕ) (cells : List ℕ) (count : ℕ) → By (18 ∷ 21 ∷ []) (rows_accepted most cells count)
unfolding rows_accepted
rows_accepted_by most cells count =
    pick_both (By (18 ∷ 21 ∷ [])) (leb count most)
    (pick_both (By (18 ∷ 21 ∷ [])) (are_rows count cells && all_within (called_rows count cells)) tt refl) refl

pub silence_by : (most : ℕ) (t : Table) (channel key : ℕ) → By (18 ∷ []) (silence most t channel key)
unfolding silence
silence_by most t channel key = pick_both (By (18 ∷ [])) (within 4 channel && within 7 key) tt refl

-- what is given, or what stands in for it and a refusal's number
module _ {A : Type 0} (ns : List ℕ) (other : A) where
  beside_answers : (x : Answer A) → By ns x → AnswersBy ns (beside other x).number ((beside other x).value ≡ other)
  unfolding beside
  beside_answers (gives a) b = tt
  beside_answers (refuses zero) b = absurd (true≢false (sym b))
  beside_answers (refuses (suc n)) b = (b, refl)

  module _ {B : Type 0} (x : Answer B) (f : B → A) {value : A} {number : ℕ} (told : with_number value number ≡ beside other (and_then x (λ (y : B). gives (f y)))) where
    -- it refuses by the numbers that its first part does
    pub answers_beside : By ns x → AnswersBy ns number (value ≡ other)
    answers_beside b =
        rw (ap (λ (w : Beside A). w.number) told, ap (λ (w : Beside A). w.value) told)
        (beside_answers (and_then x (λ (y : B). gives (f y))) (then_by ns x (λ (y : B). gives (f y)) b (λ y. tt)))

-- Acceptance

module _ {A B : Type 0} (other : A) (x : Answer B) (f : B → A) {value : A} {number : ℕ} (told : with_number value number ≡ beside other (and_then x (λ (y : B). gives (f y)))) where
  -- what is given is made of what its first part gives
  pub given_beside : (y : B) → x ≡ gives y → (number ≡ 0) × (value ≡ f y)
  unfolding beside
  given_beside y e = let t = rw e at told in (ap (λ (w : Beside A). w.number) t, ap (λ (w : Beside A). w.value) t)

  pub refused_beside : (n : ℕ) → x ≡ refuses n → (number ≡ n) × (value ≡ other)
  unfolding beside
  refused_beside n e = let t = rw e at told in (ap (λ (w : Beside A). w.number) t, ap (λ (w : Beside A). w.value) t)

-- a refusal of the table is not 0
pub never_nought : {A : Type 0} (ns : List ℕ) (x : Answer A) (n : ℕ) → By ns x → x ≡ refuses n → n ≡ 0 → ⊥
never_nought ns x n b e z = true≢false (sym (said_refused (By ns) b (rw z at e)))

-- a list is accepted where it counts no more than it may hold, each event within its widths
module _ (most : ℕ) (records : List (Event Span)) (count : ℕ) where
  pub accepts : count ≤ most → all_within (take count records) ≡ true → accepted most records count ≡ gives (take count records)
  unfolding accepted
  accepts few fit = rw (le-leb count most few, fit)

  pub accepts_only : (es : List (Event Span)) → accepted most records count ≡ gives es → (count ≤ most) × (all_within es ≡ true) × (take count records ≡ es)
  unfolding accepted
  accepts_only es e =
      by_test (leb count most)
      (λ t.
      let g = given (all_within (take count records)) (take count records) 18 (rw t at e) in
      (leb-true count most t, rw (← g.1) g.0, g.1))
      (λ t. let q : ◌≡◌ {A = Answer (List (Event Span))} (refuses 21) (gives es) = rw t at e in let z : ◌≡◌ {A = ℕ} 0 1 = cc in absurd (omega arith))

  pub accepts_few : most < count → accepted most records count ≡ refuses 21
  unfolding accepted
  accepts_few many = rw (lt-leb count most many)

  pub accepts_within : count ≤ most → all_within (take count records) ≡ false → accepted most records count ≡ refuses 18
  unfolding accepted
  accepts_within few wide = rw (le-leb count most few, wide)

-- and rows, where each is an event's too
module _ (most : ℕ) (cells : List ℕ) (count : ℕ) where
  pub rows_accepts : count ≤ most → are_rows count cells ≡ true → all_within (called_rows count cells) ≡ true → rows_accepted most cells count ≡ gives (called_rows count cells)
  unfolding rows_accepted
  rows_accepts few are fit = rw (le-leb count most few, are, fit)

  pub rows_accepts_few : most < count → rows_accepted most cells count ≡ refuses 21
  unfolding rows_accepted
  rows_accepts_few many = rw (lt-leb count most many)

  pub rows_accepts_within : count ≤ most → (are_rows count cells && all_within (called_rows count cells)) ≡ false → rows_accepted most cells count ≡ refuses 18
  unfolding rows_accepted
  rows_accepts_within few wide = rw (le-leb count most few, wide)

  pub rows_accepts_only : (es : List (Event Span)) → rows_accepted most cells count ≡ gives es
      → (count ≤ most) × ((are_rows count cells && all_within (called_rows count cells)) ≡ true) × (called_rows count cells ≡ es)
  unfolding rows_accepted
  rows_accepts_only es e =
      by_test (leb count most)
      (λ t.
      let g = given (are_rows count cells && all_within (called_rows count cells)) (called_rows count cells) 18 (rw t at e) in
      (leb-true count most t, g.0, g.1))
      (λ t. let q : ◌≡◌ {A = Answer (List (Event Span))} (refuses 21) (gives es) = rw t at e in let z : ◌≡◌ {A = ℕ} 0 1 = cc in absurd (omega arith))

-- a channel and a key within their widths
module _ (most : ℕ) (t : Table) (channel key : ℕ) where
  pub asks : channel < channels → key < keys → silence most t channel key ≡ gives (silence_from most t (key_place channel key))
  unfolding silence
  asks hc hk = rw (lt-ltb channel 16 hc, lt-ltb key 128 hk)

  pub asks_only : (es : List (Event Span)) → silence most t channel key ≡ gives es → (channel < channels) × (key < keys) × (silence_from most t (key_place channel key) ≡ es)
  unfolding silence
  asks_only es e =
      let g = given (within 4 channel && within 7 key) (silence_from most t (key_place channel key)) 18 e in
      let b = both (within 4 channel) (within 7 key) g.0 in
      (ltb-true channel 16 b.0, ltb-true key 128 b.1, g.1)

  pub asks_none : ((channel < channels) × (key < keys) → ⊥) → silence most t channel key ≡ refuses 18
  unfolding silence
  asks_none outside =
      by_test (within 4 channel && within 7 key)
      (λ h. let b = both (within 4 channel) (within 7 key) h in absurd (outside (ltb-true channel 16 b.0, ltb-true key 128 b.1)))
      (λ h. rw h)

-- the rows of a silencing list, handed out
cells_answers : (x : Answer (List (Event Span))) (cells : List ℕ) → By (18 ∷ []) x
    → AnswersBy (18 ∷ 20 ∷ []) (silence_left x cells).number (((silence_left x cells).cells ≡ cells) × ((silence_left x cells).count ≡ 0))
unfolding silence_left put
cells_answers (gives es) cells b =
    pick_both (λ (w : Written). AnswersBy (18 ∷ 20 ∷ []) (rows_put (length es) w).number (((rows_put (length es) w).cells ≡ cells) × ((rows_put (length es) w).count ≡ 0)))
    (leb (0 + length (sheet_of es)) (length cells)) tt (refl, (refl, refl))
cells_answers (refuses zero) cells b = absurd (true≢false (sym b))
cells_answers (refuses (suc n)) cells b = (one_of_more (18 ∷ 20 ∷ []) (18 ∷ []) (suc n) refl b, (refl, refl))

pub rows_answers : (x : Answer (List (Event Span))) (cells : List ℕ) {cells' : List ℕ} {count' number : ℕ} → By (18 ∷ []) x
    → cells_left cells' count' number ≡ silence_left x cells → AnswersBy (18 ∷ 20 ∷ []) number ((cells' ≡ cells) × (count' ≡ 0))
rows_answers x cells b told =
    rw (ap (λ (w : CellsLeft). w.number) told, ap (λ (w : CellsLeft). w.cells) told, ap (λ (w : CellsLeft). w.count) told) (cells_answers x cells b)
