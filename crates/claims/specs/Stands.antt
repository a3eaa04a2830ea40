-- What stands in bytes. Document 01, "Refusal numbers" and "Lists": what a refused read of an event leaves; events one behind the other,
-- and why reading a list of them stops.
use Rattle.std.specs.Prelude.{◌≡◌, true, false, List, [], ◌∷◌, ℕ, ◌+◌, ◌≤◌, ◌<◌, ltb, length, drop}
use Rattle.smf.specs.Answer.{pick, Answer, gives, refuses, Rules}
use Rattle.smf.specs.Running.{is_running}
use Rattle.smf.specs.Number.{Numeral, read_number}
use Rattle.smf.specs.Place.{Span}
use Rattle.smf.specs.Event.{Event, EventAt, ReadAt, reads_at, refused_at, event_at}
use Rattle.smf.specs.Lists.{Stop, ended, full, stopped, ListAt}
use Rattle.claims.specs.Table.{among, OneOf, of_event}

-- the status of an event, from its delta on: the byte there, or the running status where that is a data byte
abbrev pub status_of : ℕ → List ℕ → ℕ
status_of running [] = running
status_of running (b ∷ s) = pick (ltb b 0x80) running b

-- document 01: the running status that a refused read leaves, by what its delta reads as: as before for 2, 3 in a delta and for 1, 4..7;
-- the status for 8, 9; none for 2, 3 in a length and 10..14
abbrev pub status_left : ℕ → Answer Numeral → ℕ → ℕ
status_left running (refuses m) n = running
status_left running (gives delta) n =
    pick (among (1 ∷ 4 ∷ 5 ∷ 6 ∷ 7 ∷ []) n) running (pick (among (8 ∷ 9 ∷ []) n) (status_of running delta.rest) 0)

module _ (rules : Rules) (bytes : List ℕ) where
  -- an event of some of the bytes there; or a refusal by one of the numbers, which leaves that running status, uses no byte and has no padding
  abbrev pub EventOrLeft : ℕ → ℕ → ReadAt → Type 0
  EventOrLeft running at (reads_at a) = (0 < a.used) × (at + a.used ≤ length bytes)
  EventOrLeft running at (refused_at n used after padding) =
      OneOf (of_event rules.strict) n × (used ≡ 0) × (after ≡ status_left running (read_number rules (drop at bytes)) n) × (padding ≡ 0)

  -- records from a place and a running status on, to the place and the running status behind the last: each is the event that stands where
  -- the one before it ended, read from the running status that it left; and the sum of their paddings
  pub data Stand : (running place : ℕ) → List (Event Span) → (after end padding : ℕ) → Type 0 where
    none : {running place : ℕ} → Stand running place [] running place 0
    next : {running place after end padding : ℕ} {es : List (Event Span)} (a : EventAt) → event_at rules running bytes place ≡ reads_at a
        → Stand a.running (place + a.used) es after end padding → Stand running place (a.event ∷ es) after end (a.padding + padding)

  -- document 01: reading stops at the end, or full (as many read as a list holds, and bytes left), or at an event that is refused there, by
  -- one of the numbers; its place is that of the refused delta, and the running status the one before it
  abbrev pub Why : ℕ → ListAt → Stop → Type 0
  Why most l ended = length bytes ≤ l.place
  Why most l full = (length l.events ≡ most) × (l.place < length bytes)
  Why most l (stopped n) = OneOf (of_event rules.strict) n × ((after : ℕ) × (event_at rules l.running bytes l.place ≡ refused_at n 0 after 0))

  -- a list of at most so many events from a place on
  pub record ListStands (most running at : ℕ) (l : ListAt) : Type 0 where
    -- the records, those before a refusal among them, are the events that stand there, up to the place and the running status of the answer, with its
    -- padding
    pub stand : Stand running at l.events l.running l.place l.padding
    pub few : length l.events ≤ most
    pub why : Why most l l.stop
    -- a refused delta stands before the end
    pub before : is_running running ≡ true → (n : ℕ) → l.stop ≡ stopped n → l.place < length bytes
    -- document 01: 1 gives count 0, and the place and the running status as given; document 02, Q-2: and padding 0
    pub invalid : is_running running ≡ false → l ≡ record { events = []; stop = stopped 1; place = at; running = running; padding = 0 }
