-- Records and rows as they are judged, one by one: what a loop takes at an index is what the list has there.
use mathlib.Core.Path.{◌≡◌, refl, ap, ◌∙◌}
use mathlib.Core.Bool.{true}
use mathlib.Core.List.{List, [], ◌∷◌, map}
use Prim.Native.Nat.{ℕ, zero, suc, ◌+◌, ◌*◌, ◌<◌}
use native.Mathlib.Omega.{arith}
use lib.ListN.{length, take, drop, get_or, length-map, get_or-map}
use lib.Seq.{drop-drop}
use Rattle.smf.specs.Answer.{Answer, gives, refuses, Rules}
use Rattle.smf.specs.Place.{Span}
use Rattle.smf.specs.Event.{Event, legal}
use Rattle.smf.specs.Lists.{records_judged}
use Rattle.smf.proofs.Legal.{is_legal}
use Rattle.smf.proofs.Answer.{by_answer}
use Rattle.smf.proofs.ListLegality.{given_itself}
use Rattle.track.specs.List.{record_of}
use Rattle.track.specs.declared.list.Record.{Record}
use Rattle.track.proofs.Held.{past}
use Rattle.rows.specs.Rows.{width}
use Rattle.rows.specs.RowEvent.{event_of_row, row_judged}
use Rattle.rows.specs.RowLists.{rows_judged}
use Rattle.rows.proofs.IsRow.{not_there}
use Rattle.write.specs.Raw.{raw_judged}

-- a cell that is there, by any default
there : {A : Type 0} (xs : List A) (i : ℕ) (a b : A) → i < length xs → get_or xs i a ≡ get_or xs i b
there [] i a b h = absurd (omega arith)
there (x ∷ xs) zero a b h = refl
there (x ∷ xs) (suc i) a b h = there xs i a b (omega arith)

-- The records that count

module _ (rules : Rules) (bytes : List ℕ) where
  pub records_length : (records : List Record) → length (records_judged rules bytes (map record_of records)) ≡ length records
  records_length records = omega (arith, length-map (map record_of records) (legal rules bytes), length-map records record_of)

  pub record_at : (records : List Record) (i : ℕ) (d : Answer (Event (List ℕ))) → i < length records
      → get_or (records_judged rules bytes (map record_of records)) i d ≡ legal rules bytes (record_of (get_or records i past))
  record_at records i d h =
      there (records_judged rules bytes (map record_of records)) i d (legal rules bytes (record_of past)) (omega (arith, records_length records))
      ∙ get_or-map (legal rules bytes) (map record_of records) i (record_of past)
      ∙ ap (legal rules bytes) (get_or-map record_of records i past)

  -- a record that is given is legal
  pub record_lawful : (r : Event Span) (e : Event (List ℕ)) → legal rules bytes r ≡ gives e → is_legal rules e ≡ true
  record_lawful r e h = (given_itself rules bytes r e h).1

-- The rows that count

-- the cells of a row, from those of the first on and from those of the second on
row_on : (n : ℕ) (cells : List ℕ) → drop (n * width) (drop width cells) ≡ drop (suc n * width) cells
row_on n cells = let on : width + n * width ≡ suc n * width = omega arith in drop-drop (n * width) width cells ∙ ap (λ (k : ℕ). drop k cells) on

module _ (rules : Rules) (bytes : List ℕ) where
  pub rows_length : (n : ℕ) (cells : List ℕ) → length (rows_judged rules bytes n cells) ≡ n
  unfolding rows_judged
  rows_length zero cells = refl
  rows_length (suc n) cells = ap suc (rows_length n (drop width cells))

  pub rows_at : (n : ℕ) (cells : List ℕ) (i : ℕ) (d : Answer (Event (List ℕ))) → i < n → get_or (rows_judged rules bytes n cells) i d ≡ row_judged rules bytes (take width (drop (i * width) cells))
  unfolding rows_judged
  rows_at zero cells i d h = absurd (omega arith)
  rows_at (suc n) cells zero d h = refl
  rows_at (suc n) cells (suc i) d h = rows_at n (drop width cells) i d (omega arith) ∙ ap (λ (l : List ℕ). row_judged rules bytes (take width l)) (row_on i cells)

  -- a row that is given is a legal event's
  pub row_lawful : (r : List ℕ) (e : Event (List ℕ)) → row_judged rules bytes r ≡ gives e → is_legal rules e ≡ true
  unfolding row_judged
  row_lawful r e h =
      by_answer (event_of_row r) (λ x (k : event_of_row r ≡ gives x). record_lawful rules bytes x e (rw k at h))
      (λ n (k : event_of_row r ≡ refuses n). let q : ◌≡◌ {A = Answer (Event (List ℕ))} (refuses n) (gives e) = rw k at h in let z : ◌≡◌ {A = ℕ} 0 1 = cc in absurd (omega arith))

  -- a row that is not all there is no event's
  pub row_short : (cells : List ℕ) (at : ℕ) → length cells < at + width → refuses 18 ≡ raw_judged (row_judged rules bytes (take width (drop at cells)))
  unfolding raw_judged row_judged
  row_short cells at h = rw (← not_there cells at h)
