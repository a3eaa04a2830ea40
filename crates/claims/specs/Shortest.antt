-- Point 3 for one event: no bytes that `TrackEvent::read` reads strictly as an event are fewer than those that `write_event` writes for it.
use Rattle.std.specs.Prelude.{◌≡◌, Bool, true, false, List, [], ◌∷◌, ℕ, ◌+◌, ◌≤◌}
use Rattle.smf.specs.Answer.{gives}
use Rattle.smf.specs.Event.{EventAt, reads_at, Same}
use Rattle.event.specs.Event.{event_of, event_read}
use Rattle.write.specs.Wrote.{wrote_event}
use Rattle.claims.specs.Calls.{TrackEventRead, WriteEvent}

-- the same event, written from a running status: how far its bytes reach
abbrev pub WrittenFor : ℕ → List ℕ → EventAt → (ℕ → ℕ → Type 0) → Type 0
WrittenFor running raw a Reaches =
    WriteEvent (λ event running' rules bytes out at r end. Same bytes (event_of event) raw a.event → running'.status ≡ running
    → (n : ℕ) → (wrote_event r end).written.answer ≡ gives n → Reaches at n)

-- whatever bytes are read as an event, strictly or leniently: no more are written for it from the same running status, by whatever rules
abbrev pub ShortestWhere : Bool → Type 0
ShortestWhere strict =
    TrackEventRead (λ raw at running rules r. (a : EventAt) → rules.strict ≡ strict → event_read r ≡ reads_at a
    → WrittenFor running.status raw a (λ from n. n ≤ from + a.used))

-- it holds of strict reading
abbrev pub Shortest : Type 0
Shortest = ShortestWhere true

-- document 01, "What the bench would be fooled by": not of lenient reading, P7's bytes are a counterexample. Two are read, three are written
abbrev pub NotLenient : Type 0
NotLenient =
    TrackEventRead (λ raw at running rules r. raw ≡ 0x00 ∷ 0xF0 ∷ [] → at ≡ 0 → running.status ≡ 0 → rules.strict ≡ false
    → (a : EventAt) × (event_read r ≡ reads_at a) × (a.used ≡ 2) × WrittenFor 0 raw a (λ from n. n ≡ from + 3))
