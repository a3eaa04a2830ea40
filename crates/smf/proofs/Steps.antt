-- Lists of events taken step by step: what one step says of the list from there on.
use mathlib.Core.Path.{◌≡◌, refl, ap, subst, ◌∙◌}
use mathlib.Core.Bool.{true}
use mathlib.Core.List.{List}
use Prim.Native.Nat.{ℕ, suc, ◌+◌, ◌-◌, ◌≤◌, ◌<◌}
use native.Mathlib.Omega.{arith}
use lib.Dec.{leb}
use lib.ListN.{length, drop}
use borrow.Author.Tests.{leb-true, leb-false}
use Rattle.smf.specs.Answer.{Rules}
use Rattle.smf.specs.Running.{is_running}
use Rattle.smf.specs.Place.{Span}
use Rattle.smf.specs.Event.{Event, EventAt, ReadAt, reads_at, refused_at, event_at}
use Rattle.smf.specs.Lists.{read_more, ListAt, list_placed, list_at, Reader, Next, takes, stops, step_on, next_at}
use Rattle.smf.proofs.Place.{Sited}
use Rattle.smf.proofs.Answer.{pick_test}
use Rattle.smf.proofs.Event.{EventReached, event_reached}
use Rattle.smf.proofs.ListPlaces.{stops_there, in_front, list_begun, more_end, more_full, more_refused, more_step, more_next}

-- the list from a reader on, of one that began at a place
abbrev pub list_from : Rules → ℕ → List ℕ → ℕ → Reader → ListAt
list_from rules most s at r = list_placed s at (read_more rules (most - r.count) r.running (drop r.place s))

-- where a reader begins
abbrev pub reader_at : ℕ → ℕ → Reader
reader_at at running = record { place = at; running = running; count = 0 }

-- an event was taken: it is the next of the list, and the reader moved, within the bytes
pub record Took (rules : Rules) (most : ℕ) (s : List ℕ) (at : ℕ) (r : Reader) (e : Event Span) (padding : ℕ) (r' : Reader) : Type 0 where
  pub room : r.count < most
  pub counted : r'.count ≡ r.count + 1
  pub moved : r.place < r'.place
  pub padded : r.place + padding ≤ r'.place
  pub within : r'.place ≤ length s
  pub site : Sited s at r'.place
  pub list : list_from rules most s at r ≡ in_front e padding (list_from rules most s at r')

-- what a step says of the list
abbrev pub Stepped : Rules → ℕ → List ℕ → ℕ → Reader → Next → Type 0
Stepped rules most s at r (takes e padding r') = Took rules most s at r e padding r'
Stepped rules most s at r (stops why) = list_from rules most s at r ≡ stops_there why r.place r.running

-- an event that is read ends within the bytes
pub event_within_lem : (rules : Rules) (running : ℕ) (s : List ℕ) (p : ℕ) {a : EventAt} → event_at rules running s p ≡ reads_at a → p + a.used ≤ length s
event_within_lem rules running s p {a} e = (subst (EventReached rules running s p) e (event_reached rules running s p)).within

module _ (rules : Rules) (most : ℕ) (s : List ℕ) (at : ℕ) where
  -- the list at a place is the list from the reader that begins there
  pub list_from_lem : (running : ℕ) → is_running running ≡ true → list_at rules most running s at ≡ list_from rules most s at (reader_at at running)
  list_from_lem running v =
      let all : most ≡ most - 0 = omega arith in
      list_begun rules most running s at v ∙ ap (λ (n : ℕ). list_placed s at (read_more rules n running (drop at s))) all

  module _ (r : Reader) (site : Sited s at r.place) where
    one_less : r.count < most → most - r.count ≡ suc (most - (r.count + 1))
    one_less h = omega arith

    event_step : r.place < length s → r.count < most → (a : ReadAt) → event_at rules r.running s r.place ≡ a → Stepped rules most s at r (step_on r a)
    unfolding step_on
    event_step h room (refused_at n used after padding) e = rw (one_less room) (more_refused rules r.running s at r.place site (most - (r.count + 1)) h e)
    event_step h room (reads_at a) e =
        let next = more_next rules r.running s at r.place site h e in
        record {
          room = room;
          counted = refl;
          moved = next.2;
          padded = next.3;
          within = next.1;
          site = next.0;
          list = ap (λ (n : ℕ). list_placed s at (read_more rules n r.running (drop r.place s))) (one_less room) ∙ more_step rules r.running s at r.place site (most - (r.count + 1)) h e;
        }

    pub next_stepped : Stepped rules most s at r (next_at rules most s r)
    unfolding next_at
    next_stepped =
        pick_test (Stepped rules most s at r) (leb (length s) r.place)
        (λ t. more_end rules r.running s at r.place site (most - r.count) (leb-true (length s) r.place t))
        (λ t. let h : r.place < length s = omega (arith, leb-false (length s) r.place t) in
        pick_test (Stepped rules most s at r) (leb most r.count)
        (λ u. let none : most - r.count ≡ 0 = omega (arith, leb-true most r.count u) in rw none (more_full rules r.running s at r.place site h))
        (λ u. event_step h (omega (arith, leb-false most r.count u)) (event_at rules r.running s r.place) refl))
