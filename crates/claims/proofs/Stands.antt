-- The list at a place is the events that stand there, one behind the other, and stops for the reason that it gives.
use mathlib.Core.Path.{◌≡◌, refl, sym, ap, ◌∙◌, subst}
use mathlib.Core.Bool.{true, false, true≢false}
use mathlib.Core.List.{List}
use Prim.Native.Nat.{ℕ, zero, suc, ◌+◌, ◌≤◌, ◌<◌}
use native.Mathlib.Omega.{arith}
use lib.ListN.{length, drop}
use Rattle.smf.specs.Answer.{Rules}
use Rattle.smf.specs.Running.{is_running}
use Rattle.smf.proofs.Place.{Sited}
use Rattle.smf.specs.Event.{EventAt, ReadAt, reads_at, refused_at, event_at}
use Rattle.smf.specs.Lists.{Stop, ended, full, stopped, ListAt, list_placed, read_more, list_at}
use Rattle.smf.proofs.Answer.{by_test, by_lt}
use Rattle.smf.proofs.Place.{site_begun}
use Rattle.smf.proofs.Reading.{event_invalid}
use Rattle.smf.proofs.ListPlaces.{in_front, list_begun, list_invalid, more_end, more_full, more_refused, more_step, more_next}
use Rattle.claims.specs.Stands.{EventOrLeft, Stand, none, next, Why, ListStands}
use Rattle.claims.proofs.ReadLeaves.{event_or_left}

module _ (rules : Rules) (bytes : List ℕ) (at : ℕ) where
  -- so many more, from a place that was reached
  record More (most running place : ℕ) (l : ListAt) : Type 0 where
    pub stand : Stand rules bytes running place l.events l.running l.place l.padding
    pub few : length l.events ≤ most
    pub why : Why rules bytes most l l.stop
    pub before : (n : ℕ) → l.stop ≡ stopped n → l.place < length bytes

  abbrev more : ℕ → ℕ → ℕ → ListAt
  more most running place = list_placed bytes at (read_more rules most running (drop place bytes))

  why_behind : (most : ℕ) (a : EventAt) (l : ListAt) (stop : Stop) → Why rules bytes most l stop → Why rules bytes (suc most) (in_front a.event a.padding l) stop
  why_behind most a l ended w = w
  why_behind most a l full w = (ap suc w.0, w.1)
  why_behind most a l (stopped n) w = w

  at_end : (most running place : ℕ) → Sited bytes at place → length bytes ≤ place → More most running place (more most running place)
  at_end most running place site h =
      rw (more_end rules running bytes at place site most h)
      (record { stand = none; few = omega arith; why = h; before = λ n e. let z : ◌≡◌ {A = ℕ} 0 1 = cc in absurd (omega arith) })

  at_full : (running place : ℕ) → Sited bytes at place → place < length bytes → More zero running place (more zero running place)
  at_full running place site h =
      rw (more_full rules running bytes at place site h) (record { stand = none; few = omega arith; why = (refl, h); before = λ n e. h })

  one : (most running place : ℕ) → Sited bytes at place → place < length bytes
      → ((r p : ℕ) → Sited bytes at p → More most r p (more most r p))
      → (a : ReadAt) → event_at rules running bytes place ≡ a → EventOrLeft rules bytes running place a
      → More (suc most) running place (more (suc most) running place)
  one most running place site h others (refused_at n used after padding) e l =
      rw (more_refused rules running bytes at place site most h e)
      (record { stand = none; few = omega arith; why = (l.0, (after, e ∙ rw (l.1, l.3))); before = λ m q. h })
  one most running place site h others (reads_at a) e l =
      let m = others a.running (place + a.used) (more_next rules running bytes at place site h e).0 in
      rw (more_step rules running bytes at place site most h e)
      (record {
        stand = next a e m.stand;
        few = omega (arith, m.few);
        why = why_behind most a (more most a.running (place + a.used)) (more most a.running (place + a.used)).stop m.why;
        before = m.before;
      })

  mores : (most running place : ℕ) → Sited bytes at place → More most running place (more most running place)
  mores zero running place site =
      by_lt place (length bytes) (at_full running place site) (at_end zero running place site)
  mores (suc most) running place site =
      by_lt place (length bytes)
      (λ h. one most running place site h (mores most) (event_at rules running bytes place) refl (event_or_left rules bytes running place))
      (at_end (suc most) running place site)

  module _ (most running : ℕ) where
    abbrev list : ListAt
    list = list_at rules most running bytes at

    valid : is_running running ≡ true → ListStands rules bytes most running at list
    valid is =
        let m = mores most running at (site_begun bytes at) in
        rw (list_begun rules most running bytes at is)
        (record { stand = m.stand; few = m.few; why = m.why; before = λ _. m.before; invalid = λ not. absurd (true≢false (sym is ∙ not)) })

    not_valid : is_running running ≡ false → ListStands rules bytes most running at list
    not_valid not =
        let e : event_at rules running bytes at ≡ refused_at 1 0 running 0 = sym (event_invalid rules running bytes at not) in
        let l : EventOrLeft rules bytes running at (refused_at 1 0 running 0) = subst (EventOrLeft rules bytes running at) e (event_or_left rules bytes running at) in
        rw (list_invalid rules most running bytes at not)
        (record {
          stand = none;
          few = omega arith;
          why = (l.0, (running, e));
          before = λ is. absurd (true≢false (sym is ∙ not));
          invalid = λ _. refl;
        })

    pub list_stands : ListStands rules bytes most running at list
    list_stands = by_test (is_running running) valid not_valid
