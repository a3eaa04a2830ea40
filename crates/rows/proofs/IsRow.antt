-- When cells are the row of an event.
use mathlib.Core.Path.{◌≡◌, refl}
use mathlib.Core.Bool.{Bool, true, false}
use mathlib.Core.List.{List}
use Prim.Native.Nat.{ℕ, ◌+◌, ◌<◌, ◌≤◌, ◌^◌}
use native.Mathlib.Omega.{arith}
use lib.ListN.{length, take, drop, length-take, length-drop}
use borrow.Author.Tests.{le-leb, lt-leb, lt-ltb, le-ltb}
use Rattle.smf.specs.Answer.{pick, gives, refuses}
use Rattle.smf.specs.Place.{Span}
use Rattle.smf.specs.Event.{Event}
use Rattle.smf.proofs.Answer.{given}
use Rattle.rows.specs.Rows.{width}
use Rattle.rows.specs.RowEvent.{fields_fit, cell, is_row, called_row, event_of_row}

module _ (r : List ℕ) (l : length r ≡ width) where
  -- its delta is no number of 32 bits
  pub delta_above : 2 ^ 32 ≤ cell r 0 → refuses 18 ≡ event_of_row r
  unfolding event_of_row is_row
  delta_above h = rw (le-leb width (length r) (omega arith), le-ltb (cell r 0) (2 ^ 32) h)

  module _ (h : cell r 0 < 2 ^ 32) where
    pub fields_above : fields_fit (cell r 1) (cell r 2) (cell r 3) (cell r 4) (cell r 5) (cell r 6) (cell r 7) ≡ false → refuses 18 ≡ event_of_row r
    unfolding event_of_row is_row
    fields_above f = rw (le-leb width (length r) (omega arith), lt-ltb (cell r 0) (2 ^ 32) h, f)

    pub all_fit : fields_fit (cell r 1) (cell r 2) (cell r 3) (cell r 4) (cell r 5) (cell r 6) (cell r 7) ≡ true → gives (called_row r) ≡ event_of_row r
    unfolding event_of_row is_row
    all_fit f = rw (le-leb width (length r) (omega arith), lt-ltb (cell r 0) (2 ^ 32) h, f)

-- a row that is not all there
pub not_there : (cells : List ℕ) (at : ℕ) → length cells < at + width → refuses 18 ≡ event_of_row (take width (drop at cells))
unfolding event_of_row is_row
not_there cells at h =
    let short : length (take width (drop at cells)) < width = simp (length-take, length-drop) (omega arith) in
    rw (lt-leb width (length (take width (drop at cells))) short)

-- what the event of a row says of the row
module _ (r : List ℕ) where
  pub is_event : {e : Event Span} → event_of_row r ≡ gives e → (is_row r ≡ true) × (called_row r ≡ e)
  unfolding event_of_row
  is_event h = given (is_row r) (called_row r) 18 h

  pub is_none : {n : ℕ} → event_of_row r ≡ refuses n → (is_row r ≡ false) × (n ≡ 18)
  unfolding event_of_row
  is_none {n} h = by (is_row r) h where
    by : (t : Bool) → pick t (gives (called_row r)) (refuses 18) ≡ refuses n → (t ≡ false) × (n ≡ 18)
    by true p = let z : ◌≡◌ {A = ℕ} 0 1 = cc in absurd (omega arith)
    by false p = (refl, cc)
