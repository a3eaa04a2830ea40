-- What the loop that takes a list from rows keeps: the events so far are those of the rows before the place, which are all events'.
use mathlib.Core.Path.{◌≡◌, refl, sym, ap, ◌∙◌}
use mathlib.Core.Bool.{true, false}
use mathlib.Core.List.{List, [], ◌∷◌, ◌++◌, map, append_assoc, append-nil}
use Prim.Native.Nat.{ℕ, ◌+◌, ◌*◌, ◌-◌, ◌≤◌, ◌<◌}
use native.Mathlib.Omega.{arith}
use lib.ListN.{take, drop, set}
use Rattle.smf.specs.Answer.{unless, gives}
use Rattle.smf.specs.Place.{Span}
use Rattle.smf.specs.Event.{Event}
use Rattle.smf.specs.Lists.{Held, holding}
use Rattle.track.specs.List.{record_of}
use Rattle.track.specs.declared.list.Record.{Record}
use Rattle.track.proofs.Held.{Holds, holds_none, holds_more}
use Rattle.rows.specs.Rows.{width}
use Rattle.rows.specs.RowEvent.{is_row, called_row}
use Rattle.rows.specs.RowLists.{are_rows, called_rows}
use Rattle.rows.proofs.RowsOn.{Looked, looked_first, looked_none, looked_more, looked_last, records_on}
use Rattle.player.specs.Answers.{Beside, with_number, beside, list_beside}

module _ (cap count : ℕ) (cells : List ℕ) where
  -- what is answered of the rows
  abbrev pub RowsTaken : Beside Held
  RowsTaken = list_beside cap (unless (are_rows count cells) 18 (gives (called_rows count cells)))

  -- the rows in front of an index are events', and the records there hold them
  pub record Taking (xs : List Record) (index : ℕ) : Type 0 where
    pub looked : Looked count cells (index * width) (count - index)
    pub passed : index ≤ count
    pub events : List (Event Span)
    pub held : Holds cap xs index events
    pub sofar : called_rows count cells ≡ events ++ called_rows (count - index) (drop (index * width) cells)

  pub taking_first : (xs : List Record) (n : ℕ) → Holds cap xs n [] → Taking xs 0
  taking_first xs n h =
      let front : 0 * width ≡ 0 = omega arith in
      let all : count - 0 ≡ count = omega arith in
      record {
        looked = rw (front, all) (looked_first count cells);
        passed = omega arith;
        events = [];
        held = holds_none cap xs n h;
        sofar = rw (front, all) refl;
      }

  module _ {xs : List Record} {index : ℕ} (g : Taking xs index) where
    pub taking_none : index < count → is_row (take width (drop (index * width) cells)) ≡ false → with_number (holding cap []) 18 ≡ RowsTaken
    unfolding beside
    taking_none more h = rw (sym (looked_none g.looked (omega arith) h))

    called_all : count ≤ index → called_rows count cells ≡ g.events
    unfolding called_rows
    called_all last =
        let none : count - index ≡ 0 = omega arith in
        g.sofar ∙ ap (λ (n : ℕ). g.events ++ called_rows n (drop (index * width) cells)) none ∙ append-nil g.events

    pub taking_all : count ≤ index → with_number (record { records = map record_of xs; count = count }) 0 ≡ RowsTaken
    unfolding beside
    taking_all last =
        let every : index ≡ count = omega (arith, g.passed) in
        rw (← looked_last g.looked (omega arith), called_all last, ← g.held, every)

    pub taking_more : index < count → count ≤ cap → is_row (take width (drop (index * width) cells)) ≡ true → (x : Record)
        → called_row (take width (drop (index * width) cells)) ≡ record_of x → Taking (set xs index x) (index + 1)
    taking_more more cap-holds h x is =
        let some : 0 < count - index = omega arith in
        let at : index * width + width ≡ (index + 1) * width = omega arith in
        let left : count - index - 1 ≡ count - (index + 1) = omega arith in
        record {
          looked = rw (at, left) at (looked_more g.looked some h);
          passed = omega arith;
          events = g.events ++ (record_of x ∷ []);
          held = holds_more cap xs index g.events x (omega arith) g.held;
          sofar =
              g.sofar
              ∙ ap (◌++◌ g.events) (records_on cells (index * width) some)
              ∙ ap (λ (e : Event Span). g.events ++ (e ∷ called_rows (count - index - 1) (drop (index * width + width) cells))) is
              ∙ sym (append_assoc g.events (record_of x ∷ []) (called_rows (count - index - 1) (drop (index * width + width) cells)))
              ∙ rw (at, left);
        }
