-- What is asked of rows, by what each is, and what rows tell that are events'.
use Rattle.std.specs.Prelude.{Result, Ok, Err}
use Rattle.std.specs.Result.{is_err}
use Rattle.base.specs.declared.Refusal.{Refusal}
use Rattle.event.specs.declared.TrackEvent.{TrackEvent}
use Rattle.rows.specs.RowAnswer.{row_answer}
use mathlib.Core.Path.{◌≡◌, sym, ap}
use mathlib.Core.Bool.{Bool, true, false}
use mathlib.Core.List.{List}
use Prim.Native.Nat.{ℕ, ◌<◌, ◌≤◌}
use lib.Dec.{leb}
use borrow.Author.Tests.{le-leb, lt-leb}
use Rattle.smf.specs.Answer.{Answer, gives, refuses}
use Rattle.smf.specs.Place.{Span}
use Rattle.smf.specs.Event.{Event, Same}
use Rattle.smf.specs.Lists.{Counted, SameList}
use Rattle.smf.proofs.Answer.{by_test}
use Rattle.rows.specs.RowEvent.{is_row, called_row, event_of_row}
use Rattle.rows.specs.RowLists.{are_rows}
use Rattle.rows.proofs.IsRow.{is_event, is_none}
use Rattle.same.specs.Same.{Tells}
use Rattle.same.specs.OfRows.{rows_asked, lists_asked, SameGiven}

-- a row, by whether it gave an event
pub a_row : (r : Result TrackEvent Refusal) (a : List ℕ) → row_answer r ≡ event_of_row a → is_err r ≡ false → is_row a ≡ true
a_row (Ok x) a says e = (is_event a (sym says)).0
a_row (Err n) a says e = cc

pub no_row : (r : Result TrackEvent Refusal) (a : List ℕ) → row_answer r ≡ event_of_row a → is_err r ≡ true → is_row a ≡ false
no_row (Ok x) a says e = cc
no_row (Err n) a says e = (is_none a (sym says)).0

-- two rows
module _ (a b : List ℕ) where
  pub first_no_row : {n : ℕ} → event_of_row a ≡ refuses n → rows_asked a b ≡ refuses n
  unfolding rows_asked
  first_no_row h = rw ((is_none a h).0, (is_none a h).1)

  pub second_no_row : {n : ℕ} → event_of_row b ≡ refuses n → rows_asked a b ≡ refuses n
  unfolding rows_asked
  second_no_row h = rw ((is_none b h).0, (is_none b h).1) (by_test (is_row a) (λ e. rw e) (λ e. rw e))

  module _ {e f : Event Span} (p : event_of_row a ≡ gives e) (q : event_of_row b ≡ gives f) where
    pub both_rows : rows_asked a b ≡ gives tt
    unfolding rows_asked
    both_rows = rw ((is_event a p).0, (is_event b q).0)

    pub rows_tell : (s t : List ℕ) (r : Bool) → Tells r (Same s e t f) → Tells r (Same s (called_row a) t (called_row b))
    rows_tell s t r told = rw ((is_event a p).1, (is_event b q).1) told

-- what rows gave, of which either may be no event
module _ (s : List ℕ) (x : Answer (Event Span)) (t : List ℕ) (y : Answer (Event Span)) where
  pub first_none : {n : ℕ} → x ≡ refuses n → SameGiven s x t y → ⊥
  first_none {n} e same = by y (rw e at same) where
    by : (y : Answer (Event Span)) → SameGiven s (refuses n) t y → ⊥
    by (gives f) same = same
    by (refuses m) same = same

  pub second_none : {n : ℕ} → y ≡ refuses n → SameGiven s x t y → ⊥
  second_none {n} e same = by x (rw e at same) where
    by : (x : Answer (Event Span)) → SameGiven s x t (refuses n) → ⊥
    by (gives f) same = same
    by (refuses m) same = same

  pub both_given : {e f : Event Span} → x ≡ gives e → y ≡ gives f → (r : Bool) → Tells r (Same s e t f) → Tells r (SameGiven s x t y)
  both_given p q r told = rw (p, q) told

-- lists of rows
module _ (most : ℕ) (a : List ℕ) (m : ℕ) (b : List ℕ) (n : ℕ) where
  pub first_many : most < m → lists_asked most a m b n ≡ refuses 21
  unfolding lists_asked
  first_many h = rw (lt-leb m most h)

  pub second_many : most < n → lists_asked most a m b n ≡ refuses 21
  unfolding lists_asked
  second_many h = rw (lt-leb n most h) (by_test (leb m most) (λ e. rw e) (λ e. rw e))

  module _ (p : m ≤ most) (q : n ≤ most) where
    pub first_no_rows : are_rows m a ≡ false → lists_asked most a m b n ≡ refuses 18
    unfolding lists_asked
    first_no_rows h = rw (le-leb m most p, le-leb n most q, h)

    pub second_no_rows : are_rows n b ≡ false → lists_asked most a m b n ≡ refuses 18
    unfolding lists_asked
    second_no_rows h = rw (le-leb m most p, le-leb n most q, h) (by_test (are_rows m a) (λ e. rw e) (λ e. rw e))

    pub all_rows : are_rows m a ≡ true → are_rows n b ≡ true → lists_asked most a m b n ≡ gives tt
    unfolding lists_asked
    all_rows f g = rw (le-leb m most p, le-leb n most q, f, g)

-- lists of other counts differ
pub counts_apart : (s : List ℕ) (es : List (Event Span)) (m : ℕ) (t : List ℕ) (fs : List (Event Span)) (n : ℕ) → (m ≡ n → ⊥) → SameList s es m t fs n → ⊥
counts_apart s es m t fs n differ same = differ (ap (λ (c : Counted). c.count) same)
