-- What the loop that compares rows keeps: what holds of all rows holds of those that are left, and the other way round.
use mathlib.Core.Path.{◌≡◌, refl, sym, ap, ap₂, ◌∙◌}
use mathlib.Core.Bool.{true}
use mathlib.Core.List.{List, ◌∷◌, map}
use Prim.Native.Nat.{ℕ, ◌+◌, ◌-◌, ◌*◌, ◌<◌, ◌≤◌}
use native.Mathlib.Omega.{arith}
use lib.ListN.{take, drop}
use lib.Seq.{take_all}
use Rattle.smf.specs.Place.{bytes_of}
use Rattle.smf.specs.Event.{Event, map_event}
use Rattle.smf.specs.Lists.{Counted, SameList}
use Rattle.smf.proofs.Answer.{both}
use Rattle.rows.specs.Rows.{width}
use Rattle.rows.specs.RowEvent.{is_row, event_of_row, called_row}
use Rattle.rows.specs.RowLists.{called_rows, are_rows}
use Rattle.rows.proofs.RowsOn.{rows_on, records_on, records_length}
use Rattle.same.specs.OfRows.{SameGiven}

module _ (s a t b : List ℕ) where
  -- so many rows have the same events
  abbrev Alike : ℕ → List ℕ → List ℕ → Type 0
  Alike n xs ys = map (map_event (bytes_of s)) (called_rows n xs) ≡ map (map_event (bytes_of t)) (called_rows n ys)

  abbrev SameRows : ℕ → Type 0
  SameRows n = SameList s (called_rows n a) n t (called_rows n b) n

  taken : (n : ℕ) (cells : List ℕ) → take n (called_rows n cells) ≡ called_rows n cells
  taken n cells = take_all n (called_rows n cells) (omega (arith, records_length n cells))

  pub as_lists : (n : ℕ) → Alike n a b → SameRows n
  as_lists n h = rw (taken n a, taken n b) (ap (λ (l : List (Event (List ℕ))). record { count = n; events = l }) h)

  pub as_rows : (n : ℕ) → SameRows n → Alike n a b
  as_rows n h = ap (λ (c : Counted). c.events) (rw (taken n a, taken n b) at h)

  -- the rows before the place have the same events
  pub record Compared (count at left : ℕ) : Type 0 where
    pub within : at + left * width ≡ count * width
    pub first_rows : are_rows left (drop at a) ≡ true
    pub second-rows : are_rows left (drop at b) ≡ true
    pub to : Alike left (drop at a) (drop at b) → Alike count a b
    pub from : Alike count a b → Alike left (drop at a) (drop at b)

  pub compared_first : (count : ℕ) → are_rows count a ≡ true → are_rows count b ≡ true → Compared count 0 count
  compared_first count p q = record { within = omega arith; first_rows = p; second-rows = q; to = λ h. h; from = λ h. h }

  module _ {count at left : ℕ} (g : Compared count at left) where
    pub compared_last : left ≤ 0 → SameRows count
    unfolding called_rows
    compared_last h =
        let e : left ≡ 0 = omega arith in
        let none : Alike left (drop at a) (drop at b) = rw e refl in
        as_lists count (g.to none)

    module _ (more : 0 < left) where
      abbrev ra : List ℕ
      ra = take width (drop at a)

      abbrev rb : List ℕ
      rb = take width (drop at b)

      first : (is_row ra ≡ true) × (are_rows (left - 1) (drop (at + width) a) ≡ true)
      first = both (is_row ra) (are_rows (left - 1) (drop (at + width) a)) (sym (rows_on a at more) ∙ g.first_rows)

      second : (is_row rb ≡ true) × (are_rows (left - 1) (drop (at + width) b) ≡ true)
      second = both (is_row rb) (are_rows (left - 1) (drop (at + width) b)) (sym (rows_on b at more) ∙ g.second-rows)

      abbrev SameHere : Type 0
      SameHere = map_event (bytes_of s) (called_row ra) ≡ map_event (bytes_of t) (called_row rb)

      here : SameGiven s (event_of_row ra) t (event_of_row rb) → SameHere
      unfolding event_of_row
      here h = rw (first.0, second.0) at h

      given : SameHere → SameGiven s (event_of_row ra) t (event_of_row rb)
      unfolding event_of_row
      given h = rw (first.0, second.0) h

      abbrev Ahead : Type 0
      Ahead = Alike (left - 1) (drop (at + width) a) (drop (at + width) b)

      apart : Alike count a b → SameHere × Ahead
      apart h =
          let e : map (map_event (bytes_of s)) (called_row ra ∷ called_rows (left - 1) (drop (at + width) a)) ≡ map (map_event (bytes_of t)) (called_row rb ∷ called_rows (left - 1) (drop (at + width) b)) = rw (records_on a at more, records_on b at more) at (g.from h) in
          (cc, cc)

      together : SameHere → Ahead → Alike count a b
      together p q = g.to (rw (records_on a at more, records_on b at more) (ap₂ (λ (x : Event (List ℕ)) (l : List (Event (List ℕ))). x ∷ l) p q))

      pub compared_more : SameGiven s (event_of_row ra) t (event_of_row rb) → Compared count (at + width) (left - 1)
      compared_more h =
          record {
            within = omega (arith, g.within);
            first_rows = first.1;
            second-rows = second.1;
            to = λ q. together (here h) q;
            from = λ q. (apart q).1;
          }

      pub compared_differ : (SameGiven s (event_of_row ra) t (event_of_row rb) → ⊥) → SameRows count → ⊥
      compared_differ differ same = differ (given (apart (as_rows count same)).0)
