-- Lists of events as a reader at a place takes them: one event after the other, each at the place that the one before it ended at.
use mathlib.Core.Path.{◌≡◌, refl, sym, ap, ◌∙◌, subst}
use mathlib.Core.Bool.{true, false}
use mathlib.Core.List.{List, [], ◌∷◌, map}
use Prim.Native.Nat.{ℕ, zero, suc, ◌+◌, ◌-◌, ◌≤◌, ◌<◌}
use native.Mathlib.Omega.{arith}
use lib.ListN.{length, drop, length-drop, drop_of_length-le}
use lib.Seq.{drop-drop}
use Rattle.smf.specs.Answer.{Rules, leniently}
use Rattle.smf.specs.Running.{is_running}
use Rattle.smf.specs.Place.{Span, place_of, bytes_of}
use Rattle.smf.specs.Wire.{Taken, Reading, reads, refused}
use Rattle.smf.specs.Event.{Event, map_event, read_event, EventAt, event_placed, ReadAt, reads_at, refused_at, placed, event_at}
use Rattle.smf.specs.Lists.{Stop, ended, full, stopped, ListTaken, paddings, ListAt, list_placed, read_more, read_list, events_of, list_at}
use Rattle.smf.proofs.Answer.{by_lt, pick_test}
use Rattle.smf.proofs.Place.{Sited, site_begun}
use Rattle.smf.proofs.Event.{event_read_lem, read_tail, Reached, EventReached, event_reached}
use Rattle.smf.proofs.Lists.{more_none, more_left, more_read, more_not, list_read, list_alike}

-- a list that stops at a place with no event
abbrev pub stops_there : Stop → ℕ → ℕ → ListAt
stops_there stop place running = record { events = []; stop = stop; place = place; running = running; padding = 0 }

-- a record and its padding in front of those of a list
abbrev pub in_front : Event Span → ℕ → ListAt → ListAt
in_front e padding l = record { events = e ∷ l.events; stop = l.stop; place = l.place; running = l.running; padding = padding + l.padding }

-- a place within the bytes is sited from every place before it
pub sited : (s : List ℕ) (at p : ℕ) → at ≤ p → p ≤ length s → Sited s at p
sited s at p h w = omega (arith, length-drop at s, length-drop p s)

-- The list at a place begins there; 1 comes before all else

module _ (rules : Rules) (most running : ℕ) (s : List ℕ) (at : ℕ) where
  pub list_begun : is_running running ≡ true → list_at rules most running s at ≡ list_placed s at (read_more rules most running (drop at s))
  unfolding list_at read_list
  list_begun h = rw h

  pub list_invalid : is_running running ≡ false → list_at rules most running s at ≡ stops_there (stopped 1) at running
  unfolding list_at read_list paddings
  list_invalid h = let q : place_of s at (drop at s) ≡ at = omega arith in rw h (ap (λ (x : ℕ). stops_there (stopped 1) x running) q)

-- and goes on from a place p that was reached from there

module _ (rules : Rules) (running : ℕ) (s : List ℕ) (at p : ℕ) (site : Sited s at p) where
  some : p < length s → 0 < length (drop p s)
  some h = omega (arith, length-drop p s)

  -- no byte is left
  pub more_end : (n : ℕ) → length s ≤ p → list_placed s at (read_more rules n running (drop p s)) ≡ stops_there ended p running
  unfolding paddings
  more_end n h =
      let d : drop p s ≡ [] = drop_of_length-le s h in
      let q : place_of s at [] ≡ p = ap (place_of s at) (sym d) ∙ site in
      rw (d, more_none rules running n) (ap (λ (x : ℕ). stops_there ended x running) q)

  -- bytes are left, and no more events may be read
  pub more_full : p < length s → list_placed s at (read_more rules 0 running (drop p s)) ≡ stops_there full p running
  unfolding paddings
  more_full h = rw (more_left rules running (drop p s) (some h)) (ap (λ (x : ℕ). stops_there full x running) site)

  -- the event there is refused
  pub more_refused : (n : ℕ) {m used after padding : ℕ} → p < length s → event_at rules running s p ≡ refused_at m used after padding
      → list_placed s at (read_more rules (suc n) running (drop p s)) ≡ stops_there (stopped m) p running
  unfolding paddings
  more_refused n {m} {used} {after} h e =
      let r : read_event rules running (drop p s) ≡ refused m after = (subst (EventReached rules running s p) e (event_reached rules running s p)).0 in
      rw (more_not rules running n (drop p s) m after (some h) r) (ap (λ (x : ℕ). stops_there (stopped m) x running) site)

  taken_step : (n : ℕ) (t : Taken (Event (List ℕ))) → p < length s → read_event rules running (drop p s) ≡ reads t → (a : EventAt) → event_placed s p t ≡ a
      → list_placed s at (read_more rules (suc n) running (drop p s)) ≡ in_front a.event a.padding (list_placed s at (read_more rules n a.running (drop (p + a.used) s)))
  unfolding paddings
  taken_step n t h e a q =
      let past = (event_read_lem rules running (drop p s) t e).past in
      let tail : drop (p + (length (drop p s) - length t.rest)) s ≡ t.rest =
      sym (read_tail rules running (drop p s) t e ∙ drop-drop (length (drop p s) - length t.rest) p s)
      in
      let same : place_of s at t.rest ≡ place_of s p t.rest = omega (arith, length-drop at s, length-drop p s) in
      rw (← q, tail, more_read rules running n (drop p s) t (some h) e, same)

  -- the event there is the next of the list
  pub more_step : (n : ℕ) {a : EventAt} → p < length s → event_at rules running s p ≡ reads_at a
      → list_placed s at (read_more rules (suc n) running (drop p s)) ≡ in_front a.event a.padding (list_placed s at (read_more rules n a.running (drop (p + a.used) s)))
  unfolding event_at placed
  more_step n {a} h e = by (read_event rules running (drop p s)) refl e where
    by : (r : Reading (Taken (Event (List ℕ)))) → read_event rules running (drop p s) ≡ r → placed s p r ≡ reads_at a
        → list_placed s at (read_more rules (suc n) running (drop p s)) ≡ in_front a.event a.padding (list_placed s at (read_more rules n a.running (drop (p + a.used) s)))
    by (reads t) q f = taken_step n t h q a (cc)
    by (refused m after) q f = let z : ◌≡◌ {A = ℕ} 0 1 = cc in absurd (omega arith)

  -- and the place after it is reached from there too, within the bytes and behind as many as its padding
  pub more_next : {a : EventAt} → p < length s → event_at rules running s p ≡ reads_at a → Sited s at (p + a.used) × (p + a.used ≤ length s) × (p < p + a.used) × (p + a.padding ≤ p + a.used)
  more_next {a} h e =
      let r : Reached rules running s p a = subst (EventReached rules running s p) e (event_reached rules running s p) in
      (omega (arith, r.within, length-drop at s, length-drop p s, length-drop (p + a.used) s), r.within, omega (arith, r.some), omega (arith, r.padded))

-- The records over the bytes lent are the events

module _ (rules : Rules) (s : List ℕ) (at : ℕ) where
  abbrev Themselves : ListTaken → Type 0
  Themselves l = map (map_event (bytes_of s)) (list_placed s at l).events ≡ events_of l

  one_itself : (n running p : ℕ) → Sited s at p → p < length s
      → ((r q : ℕ) → Sited s at q → Themselves (read_more rules n r (drop q s)))
      → (a : ReadAt) → event_at rules running s p ≡ a → Themselves (read_more rules (suc n) running (drop p s))
  one_itself n running p site h others (refused_at m used after padding) e =
      let r : read_event rules running (drop p s) ≡ refused m after = (subst (EventReached rules running s p) e (event_reached rules running s p)).0 in
      rw (more_not rules running n (drop p s) m after (some rules running s at p site h) r)
  one_itself n running p site h others (reads_at a) e =
      let r : Reached rules running s p a = subst (EventReached rules running s p) e (event_reached rules running s p) in
      let own = map_event (bytes_of s) a.event in
      let more = others a.running (p + a.used) (more_next rules running s at p site h e).0 in
      ap (λ (l : ListAt). map (map_event (bytes_of s)) l.events) (more_step rules running s at p site n h e)
      ∙ ap (λ (l : List (Event (List ℕ))). own ∷ l) more
      ∙ sym (ap events_of (more_read rules running n (drop p s) _ (some rules running s at p site h) r.read))

  more_itself : (n running p : ℕ) → Sited s at p → Themselves (read_more rules n running (drop p s))
  more_itself zero running p site =
      by_lt p (length s) (λ h. rw (more_left rules running (drop p s) (some rules running s at p site h)))
      (λ h. let d : drop p s ≡ [] = drop_of_length-le s h in rw (d, more_none rules running zero))
  more_itself (suc n) running p site =
      by_lt p (length s) (λ h. one_itself n running p site h (more_itself n) (event_at rules running s p) refl)
      (λ h. let d : drop p s ≡ [] = drop_of_length-le s h in rw (d, more_none rules running (suc n)))

-- what is known of a list that was read at a place: its records are, over the bytes lent, the events that they hold there,
-- and its place is that of what is left, not before the place it was read at, and within the bytes
pub record ListReached (rules : Rules) (most running : ℕ) (s : List ℕ) (at : ℕ) : Type 0 where
  pub events : map (map_event (bytes_of s)) (list_at rules most running s at).events ≡ events_of (read_list rules most running (drop at s))
  pub rest : (read_list rules most running (drop at s)).rest ≡ drop (list_at rules most running s at).place s
  pub onward : at ≤ (list_at rules most running s at).place
  pub within : at ≤ length s → (list_at rules most running s at).place ≤ length s

pub list_reached : (rules : Rules) (most running : ℕ) (s : List ℕ) (at : ℕ) → ListReached rules most running s at
unfolding list_at read_list
list_reached rules most running s at =
    let r = list_read rules most running (drop at s) in
    let l = read_list rules most running (drop at s) in
    record {
      events = pick_test (Themselves rules s at) (is_running running) (λ _. more_itself rules s at most running at (site_begun s at)) (λ _. refl);
      rest = r.tail ∙ drop-drop (length (drop at s) - length l.rest) at s;
      onward = omega arith;
      within = λ h. omega (arith, r.within, length-drop at s);
    }

-- what strict reading takes at a place without a refusal, lenient reads alike
pub list_at_alike : (rules : Rules) (most running : ℕ) (s : List ℕ) (at : ℕ) → ((n : ℕ) → (list_at rules most running s at).stop ≡ stopped n → ⊥)
    → list_at (leniently rules) most running s at ≡ list_at rules most running s at
unfolding list_at
list_at_alike rules most running s at not = ap (list_placed s at) (list_alike rules most running (drop at s) (λ r. not r.0 r.1))
