-- The laws of lists of events, for every capacity and all rules: what is written is read back; what every list is that is read, and
-- why it stopped; and what strict reading takes to the end, lenient reads alike.
use mathlib.Core.Path.{◌≡◌, refl, ap, ◌∙◌, subst}
use mathlib.Core.Bool.{true, false}
use mathlib.Core.List.{List, [], ◌∷◌, ◌++◌}
use mathlib.Core.Logic.{◌⊎◌, inl, inr, ⊎_elim}
use Prim.Native.Nat.{ℕ, zero, suc, ◌+◌, ◌-◌, ◌≤◌, ◌<◌}
use native.Mathlib.Omega.{arith}
use lib.ListN.{length, drop, length-append}
use lib.Seq.{drop-drop}
use Rattle.smf.specs.Answer.{Rules, leniently}
use Rattle.smf.specs.Running.{is_running}
use Rattle.smf.specs.Wire.{Taken, taken, Reading, reads, refused, read_raw}
use Rattle.smf.specs.Event.{Event, name_raw, read_event, encode_event, event_after}
use Rattle.smf.specs.Lists.{Stop, ended, full, stopped, ListTaken, stops_at, before, go_on, read_more, read_list, events_of, paddings, encode_list, list_after}
use Rattle.smf.proofs.Answer.{by_test, pick_test}
use Rattle.smf.proofs.Wire.{ReadsAlike}
use Rattle.smf.proofs.Legal.{is_legal, AllLegal}
use Rattle.smf.proofs.Event.{event_reads_back, event_read_lem, read_tail, event_alike}

-- One event of the list

module _ (rules : Rules) (running : ℕ) where
  pub more_none : (n : ℕ) → read_more rules n running [] ≡ stops_at ended [] running
  unfolding read_more
  more_none zero = refl
  more_none (suc n) = refl

  pub more_left : (s : List ℕ) → 0 < length s → read_more rules zero running s ≡ stops_at full s running
  unfolding read_more
  more_left [] h = absurd (omega arith)
  more_left (b ∷ s) h = refl

  pub more_some : (n : ℕ) (s : List ℕ) → 0 < length s → read_more rules (suc n) running s ≡ go_on (read_more rules n) running s (read_event rules running s)
  unfolding read_more
  more_some n [] h = absurd (omega arith)
  more_some n (b ∷ s) h = refl

  pub more_read : (n : ℕ) (s : List ℕ) (t : Taken (Event (List ℕ))) → 0 < length s → read_event rules running s ≡ reads t
      → read_more rules (suc n) running s ≡ before t (read_more rules n t.running t.rest)
  unfolding go_on
  more_read n s t h e = more_some n s h ∙ ap (go_on (read_more rules n) running s) e

  pub more_not : (n : ℕ) (s : List ℕ) (m after : ℕ) → 0 < length s → read_event rules running s ≡ refused m after
      → read_more rules (suc n) running s ≡ stops_at (stopped m) s running
  unfolding go_on
  more_not n s m after h e = more_some n s h ∙ ap (go_on (read_more rules n) running s) e

-- Written lists are read back

-- all bytes are used, by these events, with no padding, and the running status is the one after them
pub record ReadsBack (l : ListTaken) (running : ℕ) (es : List (Event (List ℕ))) : Type 0 where
  pub events : events_of l ≡ es
  pub stop : l.stop ≡ ended
  pub rest : l.rest ≡ []
  pub after : l.running ≡ list_after running es
  pub padding : paddings l.events ≡ 0

module _ (rules : Rules) where
  none_back : (most running : ℕ) → ReadsBack (read_more rules most running []) running []
  unfolding list_after paddings
  none_back most running = rw (more_none rules running most) (record { events = refl; stop = refl; rest = refl; after = refl; padding = refl })

  -- an event in front
  one_back : (most running : ℕ) (e : Event (List ℕ)) (es : List (Event (List ℕ))) → is_running running ≡ true → is_legal rules e ≡ true
      → (is_running (event_after e) ≡ true → ReadsBack (read_more rules most (event_after e) (encode_list (event_after e) es)) (event_after e) es)
      → ReadsBack (read_more rules (suc most) running (encode_list running (e ∷ es))) running (e ∷ es)
  unfolding encode_list list_after paddings
  one_back most running e es is h others =
      let rest = encode_list (event_after e) es in
      let t = taken e rest (event_after e) 0 in
      let back = event_reads_back rules running e rest is h in
      let read = event_read_lem rules running (encode_event running e ++ rest) t back in
      let l = others read.runs in
      rw (more_read rules running most (encode_event running e ++ rest) t (omega (arith, read.past)) back)
      (record { events = ap (λ (x : List (Event (List ℕ))). e ∷ x) l.events; stop = l.stop; rest = l.rest; after = l.after; padding = omega (arith, l.padding) })

  more_back : (most running : ℕ) (es : List (Event (List ℕ))) → is_running running ≡ true → AllLegal rules es → length es ≤ most
      → ReadsBack (read_more rules most running (encode_list running es)) running es
  unfolding encode_list
  more_back zero running [] is h few = none_back zero running
  more_back (suc most) running [] is h few = none_back (suc most) running
  more_back zero running (e ∷ es) is h few = absurd (omega arith)
  more_back (suc most) running (e ∷ es) is h few =
      one_back most running e es is h.0 (λ runs. more_back most (event_after e) es runs h.1 (omega arith))

  pub list_reads_back : (most running : ℕ) (es : List (Event (List ℕ))) → is_running running ≡ true → AllLegal rules es → length es ≤ most
      → ReadsBack (read_list rules most running (encode_list running es)) running es
  unfolding read_list
  list_reads_back most running es is h few = rw is (more_back most running es is h few)

-- What is read

-- why a list of at most so many events stopped: at the end, no byte is left; full, as many were read, and bytes are left;
-- refused, by the number that the event has that stands there
abbrev pub Stops : Rules → ℕ → ListTaken → Stop → Type 0
Stops rules most l ended = l.rest ≡ []
Stops rules most l full = (length l.events ≡ most) × (0 < length l.rest)
Stops rules most l (stopped n) = (after : ℕ) × (read_event rules l.running l.rest ≡ refused n after)

-- what every list is that is read of the bytes s, in either mode, however it stopped
pub record ListRead (rules : Rules) (most running : ℕ) (s : List ℕ) (l : ListTaken) : Type 0 where
  -- its events are legal, and no more than may be
  pub legal : AllLegal rules (events_of l)
  pub count : length l.events ≤ most
  -- the running status is the one after them
  pub after : l.running ≡ list_after running (events_of l)
  pub runs : is_running running ≡ true → is_running l.running ≡ true
  -- what is left is the end of the bytes
  pub within : length l.rest ≤ length s
  pub tail : l.rest ≡ drop (length s - length l.rest) s
  -- read strictly, it took no fewer bytes than are written for it; leniently, at most one fewer, and that only at the end of the bytes
  pub shortest : rules.strict ≡ true → length (encode_list running (events_of l)) + length l.rest ≤ length s
  pub fewest : (length (encode_list running (events_of l)) + length l.rest ≤ length s) ⊎ ((l.rest ≡ []) × (length (encode_list running (events_of l)) ≤ length s + 1))
  pub why : Stops rules most l l.stop

-- the end of the end of the bytes is an end of them
tail_tail : (s t u : List ℕ) → t ≡ drop (length s - length t) s → u ≡ drop (length t - length u) t → length t ≤ length s → length u ≤ length t → u ≡ drop (length s - length u) s
tail_tail s t u e f h g =
    let n : length s - length t + (length t - length u) ≡ length s - length u = omega arith in
    f ∙ ap (drop (length t - length u)) e ∙ drop-drop (length t - length u) (length s - length t) s ∙ ap (λ (x : ℕ). drop x s) n

module _ (rules : Rules) where
  -- no event
  nothing : (most running : ℕ) (s : List ℕ) (stop : Stop) → Stops rules most (stops_at stop s running) stop → ListRead rules most running s (stops_at stop s running)
  unfolding encode_list list_after
  nothing most running s stop h =
      let z : length s - length s ≡ 0 = omega arith in
      record {
        legal = tt;
        count = omega arith;
        after = refl;
        runs = λ is. is;
        within = omega arith;
        tail = rw z;
        shortest = λ _. omega arith;
        fewest = inl (omega arith);
        why = h;
      }

  stops_before : (most : ℕ) (t : Taken (Event (List ℕ))) (l : ListTaken) (stop : Stop) → Stops rules most l stop → Stops rules (suc most) (before t l) stop
  stops_before most t l ended h = h
  stops_before most t l full h = (ap suc h.0, h.1)
  stops_before most t l (stopped n) h = h

  -- an event and the list behind it
  one_more : (most running : ℕ) (s : List ℕ) (t : Taken (Event (List ℕ))) → read_event rules running s ≡ reads t
      → ListRead rules most t.running t.rest (read_more rules most t.running t.rest)
      → ListRead rules (suc most) running s (before t (read_more rules most t.running t.rest))
  unfolding encode_list list_after
  one_more most running s t e r =
      let l = read_more rules most t.running t.rest in
      let one = event_read_lem rules running s t e in
      let es = events_of l in
      let own = encode_event running t.value in
      let others = encode_list (event_after t.value) es in
      let same : encode_list t.running es ≡ others = ap (λ (x : ℕ). encode_list x es) one.after in
      let size : length (own ++ others) ≡ length own + length (encode_list t.running es) = length-append own others ∙ rw same in
      let end : (t.rest ≡ []) → (length (encode_list t.running es) ≡ 0) × (l.rest ≡ []) = λ z. rw (z, more_none rules t.running most) (refl, refl) in
      record {
        legal = (one.legal, r.legal);
        count = omega (arith, r.count);
        after = r.after ∙ ap (λ (x : ℕ). list_after x es) one.after;
        runs = λ _. r.runs one.runs;
        within = omega (arith, one.past, r.within);
        tail = tail_tail s t.rest l.rest (read_tail rules running s t e) r.tail (omega (arith, one.past)) r.within;
        shortest = λ strict. omega (arith, one.shortest strict, r.shortest strict);
        fewest = ⊎_elim
            (λ f. ⊎_elim (λ g. inl (omega (arith, size))) (λ g. inr (g.0, omega (arith, size, ap length g.0, g.1))) r.fewest)
            (λ f. inr ((end f.0).1, omega (arith, size, (end f.0).0, f.1)))
            one.fewest;
        why = stops_before most t l l.stop r.why;
      }

  by_event : (most running : ℕ) (s : List ℕ) → ((r : ℕ) (rest : List ℕ) → ListRead rules most r rest (read_more rules most r rest))
      → (a : Reading (Taken (Event (List ℕ)))) → read_event rules running s ≡ a → ListRead rules (suc most) running s (go_on (read_more rules most) running s a)
  unfolding go_on
  by_event most running s others (refused n after) e = nothing (suc most) running s (stopped n) (after, e)
  by_event most running s others (reads t) e = one_more most running s t e (others t.running t.rest)

  more_is : (most running : ℕ) (s : List ℕ) → ListRead rules most running s (read_more rules most running s)
  unfolding read_more
  more_is zero running [] = nothing zero running [] ended refl
  more_is zero running (b ∷ s) = nothing zero running (b ∷ s) full (refl, omega arith)
  more_is (suc most) running [] = nothing (suc most) running [] ended refl
  more_is (suc most) running (b ∷ s) = by_event most running (b ∷ s) (more_is most) (read_event rules running (b ∷ s)) refl

  -- 1, of an invalid running status
  event_none : (running : ℕ) (s : List ℕ) → is_running running ≡ false → read_event rules running s ≡ refused 1 running
  unfolding read_event name_raw read_raw
  event_none running s h = rw h

  pub list_read : (most running : ℕ) (s : List ℕ) → ListRead rules most running s (read_list rules most running s)
  unfolding read_list
  list_read most running s =
      pick_test (ListRead rules most running s) (is_running running) (λ is. more_is most running s)
      (λ is. nothing most running s (stopped 1) (running, event_none running s is))

module _ (rules : Rules) (most running : ℕ) (s : List ℕ) where
  abbrev list : ListTaken
  list = read_list rules most running s

  -- in either mode, at most one byte fewer was read than is written
  pub list_fewer : length (encode_list running (events_of list)) + length list.rest ≤ length s + 1
  list_fewer = ⊎_elim (λ f. omega arith) (λ f. omega (arith, ap length f.0, f.1)) (list_read rules most running s).fewest

  because : {stop : Stop} → list.stop ≡ stop → Stops rules most list stop
  because e = subst (Stops rules most list) e (list_read rules most running s).why

  -- a list is read to the end only from a running status
  pub list_valid : list.stop ≡ ended → is_running running ≡ true
  unfolding read_list
  list_valid e = by_test (is_running running) (λ is. is) (λ is. let q : stopped 1 ≡ ended = rw is at e in let z : ◌≡◌ {A = ℕ} 0 1 = cc in absurd (omega arith))

  -- why it stopped
  pub list_ended : list.stop ≡ ended → list.rest ≡ []
  list_ended e = because e

  pub list_full : list.stop ≡ full → (length list.events ≡ most) × (0 < length list.rest)
  list_full e = because e

  pub list_refused : (n : ℕ) → list.stop ≡ stopped n → (after : ℕ) × (read_event rules list.running list.rest ≡ refused n after)
  list_refused n e = because e

-- What strict reading takes without a refusal, lenient reads alike

abbrev pub Refuses : ListTaken → Type 0
Refuses l = (n : ℕ) × (l.stop ≡ stopped n)

module _ (rules : Rules) where
  step_alike : (most running : ℕ) (s : List ℕ)
      → ((r : ℕ) (rest : List ℕ) → (Refuses (read_more rules most r rest) → ⊥) → read_more (leniently rules) most r rest ≡ read_more rules most r rest)
      → (a b : Reading (Taken (Event (List ℕ)))) → ReadsAlike a b → (Refuses (go_on (read_more rules most) running s a) → ⊥)
      → go_on (read_more (leniently rules) most) running s b ≡ go_on (read_more rules most) running s a
  unfolding go_on
  step_alike most running s others (reads t) b h not = rw h (ap (before t) (others t.running t.rest not))
  step_alike most running s others (refused n after) b h not = absurd (not (n, refl))

  more_alike : (most running : ℕ) (s : List ℕ) → (Refuses (read_more rules most running s) → ⊥) → read_more (leniently rules) most running s ≡ read_more rules most running s
  unfolding read_more
  more_alike zero running [] not = refl
  more_alike zero running (b ∷ s) not = refl
  more_alike (suc most) running [] not = refl
  more_alike (suc most) running (b ∷ s) not =
      step_alike most running (b ∷ s) (more_alike most) (read_event rules running (b ∷ s)) (read_event (leniently rules) running (b ∷ s)) (event_alike rules running (b ∷ s)) not

  pub list_alike : (most running : ℕ) (s : List ℕ) → (Refuses (read_list rules most running s) → ⊥) → read_list (leniently rules) most running s ≡ read_list rules most running s
  unfolding read_list
  list_alike most running s not = by_test (is_running running) (λ is. rw is (more_alike most running s (rw is at not))) (λ is. rw is)
