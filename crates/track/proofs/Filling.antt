-- What the list reader's loop keeps: the events so far are those that its records hold, and their padding is the sum so far.
use Rattle.std.specs.Prelude.{Err, Ok, Result}
use mathlib.Core.Path.{◌≡◌, ap, sym, subst, ◌∙◌}
use mathlib.Core.Bool.{true, false}
use mathlib.Core.List.{List, [], ◌∷◌, ◌++◌, map}
use Prim.Native.Nat.{ℕ, ◌+◌}
use lib.ListN.{length, set}
use Rattle.smf.specs.Answer.{Rules}
use Rattle.smf.specs.Running.{is_running}
use Rattle.smf.specs.Place.{Span}
use Rattle.smf.specs.Event as smf
use Rattle.smf.specs.Lists.{stopped, ListAt, list_at, Reader, next_at, holding, ListHeld, held_as}
use Rattle.smf.proofs.ListPlaces.{list_invalid}
use Rattle.smf.proofs.Steps.{reader_at}
use Rattle.event.specs.Event.{event_of}
use Rattle.track.specs.List.{record_of}
use Rattle.track.specs.declared.list.Record.{Record}
use Rattle.track.specs.Cursor.{stop_of, reader_of, next_of}
use Rattle.track.specs.declared.cursor.NextEvent.{NextEvent}
use Rattle.track.specs.declared.cursor.Stop.{Stop}
use Rattle.track.specs.Read.{list_read_of}
use Rattle.track.specs.declared.read.ReadList.{ReadList}
use Rattle.track.proofs.Held.{Holds, holds_none, holds_more}
use Rattle.track.proofs.Reading.{Sofar, begun, all, took, again}

pub record Filling (cap : ℕ) (rules : Rules) (s : List ℕ) (at first : ℕ) (xs : List Record) (padding : ℕ) (r : Reader) : Type 0 where
  pub events : List (smf.Event Span)
  pub held : Holds cap xs r.count events
  pub sofar : Sofar cap rules s at first events padding r

module _ (cap : ℕ) (rules : Rules) (s : List ℕ) (at first : ℕ) (xs : List Record) (n : ℕ) (e : Holds cap xs n []) where
  pub invalid : is_running first ≡ false
      → record { list = record { records = map record_of xs; count = 0 }; stop = stopped 1; place = at; running = first; padding = 0 } ≡ held_as cap (list_at rules cap first s at)
  invalid v = rw (list_invalid rules cap first s at v, holds_none cap xs n e)

  pub filling_first : is_running first ≡ true → Filling cap rules s at first xs 0 (reader_at at first)
  filling_first v = record { events = []; held = holds_none cap xs n e; sofar = begun cap rules s at first v }

module _ {cap : ℕ} {rules : Rules} {s : List ℕ} {at first : ℕ} {xs : List Record} {padding : ℕ} {r : Reader} (h : Filling cap rules s at first xs padding r) (n : Result NextEvent Stop) (there : next_of n ≡ next_at rules cap s r) where
  -- the answer, where the step stops
  pub filled : (why : Stop) → n ≡ Err why
      → record { list = record { records = map record_of xs; count = r.count }; stop = stop_of why; place = r.place; running = r.running; padding = padding } ≡ held_as cap (list_at rules cap first s at)
  filled why e = rw (all h.sofar (sym there ∙ ap next_of e), ← h.held)

  pub filling_more : (step : NextEvent) → n ≡ Ok step → (x : Record) → record_of x ≡ event_of step.event → Filling cap rules s at first (set xs r.count x) (padding + step.padding) (reader_of step.cursor)
  filling_more step e x kept =
      let own = event_of step.event in
      let is = sym there ∙ ap next_of e in
      let t = took h.sofar is in
      let more : Holds cap (set xs r.count x) (r.count + 1) (h.events ++ (own ∷ [])) = rw kept at (holds_more cap xs r.count h.events x t.room h.held) in
      record {
        events = h.events ++ (own ∷ []);
        held = subst (λ (k : ℕ). Holds cap (set xs r.count x) k (h.events ++ (own ∷ []))) (sym t.counted) more;
        sofar = again h.sofar is;
      }

-- a list that was read counts its events
pub read_count : (cap : ℕ) (l : ListAt) (r : ReadList) → list_read_of r ≡ held_as cap l → r.list.count ≡ length l.events
unfolding holding
read_count cap l r e = ap (λ (h : ListHeld). h.list.count) e
