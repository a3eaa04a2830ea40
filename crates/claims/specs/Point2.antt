-- Point 2: from every running status, none included, what is read and written is what the definitions of `smf` say, in both modes. They are
-- written from SMF 1.0 and document 01, and the oracle compares them with midly 0.5.3. And three readers that this shuts out.
use Rattle.std.specs.Prelude.{◌≡◌, true, List, [], ◌∷◌, ◌++◌, ℕ, ◌+◌, ◌≤◌, length, drop, get_or}
use Rattle.smf.specs.Answer.{gives}
use Rattle.smf.specs.Running.{is_running}
use Rattle.smf.specs.Number.{is_number, value_from, beyond_fewest}
use Rattle.smf.specs.Place.{NumberAt, Span}
use Rattle.smf.specs.Write.{over}
use Rattle.smf.specs.Event.{Event, event_at, legal, encode_event, event_after, EventWritten, write_event, Same}
use Rattle.smf.specs.Lists.{list_at, filler, held_as, ended}
use Rattle.base.specs.Rules.{rules_of}
use Rattle.number.specs.Varlen.{number_read_of}
use Rattle.base.specs.declared.Rules.{Rules}
use Rattle.base.specs.declared.Running.{Running}
use Rattle.event.specs.Event.{event_of, event_read}
use Rattle.track.specs.List.{capacity}
use Rattle.track.specs.Read.{list_read_of}
use Rattle.track.specs.declared.read.ReadList.{ReadList}
use Rattle.rows.specs.RowEvent.{row_judged}
use Rattle.write.specs.Wrote.{wrote_event}
use Rattle.claims.specs.Calls.{ReadU7, TrackEventRead, EventListRead, WriteEvent, WriteRow}

-- an event's own bytes at a place of a buffer, and the running status after them
abbrev pub own_written : ℕ → Event (List ℕ) → List ℕ → ℕ → EventWritten
own_written running e out at =
    record {
      written = record { buffer = over (encode_event running e) out at; answer = gives (at + length (encode_event running e)) };
      running = event_after e;
    }

-- document 01: P1's bytes, P2's, which go on from P1's running status, and P3's
abbrev pub p1 : List ℕ
p1 = 0x00 ∷ 0x90 ∷ 0x3C ∷ 0x40 ∷ []

abbrev pub p2 : List ℕ
p2 = 0x00 ∷ 0x3C ∷ 0x00 ∷ []

abbrev pub p3 : List ℕ
p3 = 0x00 ∷ 0xFF ∷ 0x51 ∷ 0x03 ∷ 0x07 ∷ 0xA1 ∷ 0x20 ∷ []

-- a record of the list that was read
abbrev pub nth : ReadList → ℕ → Event Span
nth r i = get_or (list_read_of r).list.records i filler

-- P1's bytes and P2's behind them, from no running status, are two different events, read to the end
pub record TwoEvents (raw : List ℕ) (r : ReadList) : Type 0 where
  -- a reader that refuses everything is shut out
  pub all : (list_read_of r).stop ≡ ended
  pub count : (list_read_of r).list.count ≡ 2
  pub place : (list_read_of r).place ≡ 7
  pub status : (list_read_of r).running ≡ 0x90
  -- and one that reads its first event and copies it on
  pub differ : Same raw (nth r 0) raw (nth r 1) → ⊥

-- another list, of P3's bytes: its event is another, so that a reader that returns one event always is shut out
abbrev pub OtherEvent : List ℕ → ReadList → List ℕ → ℕ → Running → Rules → ReadList → Type 0
OtherEvent raw r raw' at running rules r' =
    raw' ≡ p3 → at ≡ 0 → running.status ≡ 0 → ((list_read_of r').list.count ≡ 1) × (Same raw (nth r 0) raw' (nth r' 0) → ⊥)

pub record Point2 : Type 0 where
  -- one event, read at a place
  pub reads : TrackEventRead (λ raw at running rules r. event_read r ≡ event_at (rules_of rules) running.status raw at)
  -- a list, read at a place
  pub reads_lists : EventListRead (λ raw at running rules r. list_read_of r ≡ held_as capacity (list_at (rules_of rules) capacity running.status raw at))
  -- one event, written at a place
  pub writes : WriteEvent (λ event running rules bytes out at r end.
      wrote_event r end ≡ write_event running.status (legal (rules_of rules) bytes (event_of event)) out at)
  -- one row's event, written at a place
  pub writes_rows : WriteRow (λ row running rules bytes out at r end.
      wrote_event r end ≡ write_event running.status (row_judged (rules_of rules) bytes row) out at)
  -- a legal event, from a running status and with room: its shortest bytes, no other byte changed, and the running status after it
  pub writes_legal : WriteEvent (λ event running rules bytes out at r end. (e : Event (List ℕ))
      → is_running running.status ≡ true → legal (rules_of rules) bytes (event_of event) ≡ gives e → at + length (encode_event running.status e) ≤ length out
      → wrote_event r end ≡ own_written running.status e out at)
  -- SMF: bytes that are a number's, whatever follows, are read as the number that they stand for
  pub smf_numbers : ReadU7 (λ raw at rules r. (n rest : List ℕ) → is_number 4 n ≡ true → drop at raw ≡ n ++ rest
      → number_read_of r ≡ gives (record { value = value_from 0 n; next = at + length n; padding = beyond_fewest (length n) (value_from 0 n) }))
  -- and strictly, nothing else is read as a number
  pub smf_only : ReadU7 (λ raw at rules r. (m : NumberAt) → rules.strict ≡ true → number_read_of r ≡ gives m
      → (n : List ℕ) × (is_number 4 n ≡ true) × (m.value ≡ value_from 0 n) × (drop at raw ≡ n ++ drop m.next raw))
  -- what is shut out, by whatever rules is read
  pub two_events : EventListRead (λ raw at running rules r. raw ≡ p1 ++ p2 → at ≡ 0 → running.status ≡ 0 → TwoEvents raw r)
  pub other_event : EventListRead (λ raw at running rules r. raw ≡ p1 → at ≡ 0 → running.status ≡ 0
      → ((list_read_of r).list.count ≡ 1) × EventListRead (OtherEvent raw r))
