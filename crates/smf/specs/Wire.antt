-- One event as its bytes say it, before anything is named. SMF 1.0 and document 01, "Bytes of an event":
-- a delta, then a status, or a data byte under running status; then the status's data.
use Rattle.std.specs.Prelude.{List, [], ◌∷◌, ◌++◌, ℕ, ◌+◌, ◌/◌, ltb, eqb}
use Rattle.smf.specs.Answer.{pick, Answer, gives, refuses, Rules}
use Rattle.smf.specs.Running.{is_running}
use Rattle.smf.specs.Number.{Numeral, read_number, padding_of, encode_number}
use Rattle.smf.specs.Payload.{Payload, read_payload, encode_payload}

-- what stands behind the delta
pub data Raw : Type 0 where
  one : ℕ → ℕ → Raw  -- a channel status and its data byte
  two : ℕ → ℕ → ℕ → Raw  -- a channel status and its two data bytes
  system : ℕ → List ℕ → Raw  -- F0 or F7, and the payload
  typed : ℕ → List ℕ → Raw  -- FF: the type, and the payload

-- an event as its bytes say it
pub record RawEvent : Type 0 where
  pub delta : ℕ
  pub raw : Raw

-- the event of a delta and what stands behind it
abbrev pub raw_event : ℕ → Raw → RawEvent
raw_event delta raw = record { delta = delta; raw = raw }

-- what was read, the bytes after it, the running status after it, and the padding of its numbers
pub record Taken (A : Type 0) : Type 0 where
  pub value : A
  pub rest : List ℕ
  pub running : ℕ
  pub padding : ℕ

-- what was read, with what it leaves and the padding of its numbers
abbrev pub taken : {A : Type 0} → A → List ℕ → ℕ → ℕ → Taken A
taken value rest running padding = record { value = value; rest = rest; running = running; padding = padding }

-- a delta that was read: its value, and its padding
pub record Delta : Type 0 where
  pub value : ℕ
  pub padding : ℕ

-- the delta of a number that the bytes begin with
abbrev pub delta_read : List ℕ → Numeral → Delta
delta_read bytes n = record { value = n.value; padding = padding_of bytes n }

-- what reading an event answers: what was read, or a refusal by its number and the running status that it leaves
pub data Reading (A : Type 0) : Type 0 where
  reads : A → Reading A
  refused : ℕ → ℕ → Reading A

-- SMF: C and D take one data byte, the other channel statuses two
unfoldable pub data_length : ℕ → ℕ
data_length status = pick (eqb (status / 16) 0xC) 1 (pick (eqb (status / 16) 0xD) 1 2)

-- how many data bytes any status byte takes, by its upper half: 0 for those that are no channel status
unfoldable pub table_length : ℕ → ℕ
table_length status = pick (ltb (status / 16) 0x8) 0 (pick (ltb (status / 16) 0xF) (data_length status) 0)

-- document 01: 80..EF set the running status before their data is read; 8 data too short, before 9 a data byte with bit 7 set
unfoldable pub read_one : ℕ → Delta → List ℕ → Reading (Taken RawEvent)
read_one status delta [] = refused 8 status
read_one status delta (a ∷ s) = pick (ltb a 0x80) (reads (taken (raw_event delta.value (one status a)) s status delta.padding)) (refused 9 status)

-- two data bytes: 8 where not both are there, before 9 where one has bit 7 set
unfoldable pub read_two : ℕ → Delta → List ℕ → Reading (Taken RawEvent)
read_two status delta [] = refused 8 status
read_two status delta (a ∷ []) = refused 8 status
read_two status delta (a ∷ b ∷ s) =
    pick (ltb a 0x80)
    (pick (ltb b 0x80) (reads (taken (raw_event delta.value (two status a b)) s status delta.padding)) (refused 9 status))
    (refused 9 status)

-- the data of a channel status, one byte or two
unfoldable pub read_channel : ℕ → Delta → List ℕ → Reading (Taken RawEvent)
read_channel status delta s = pick (eqb (data_length status) 1) (read_one status delta s) (read_two status delta s)

-- document 01: FF, F0 and F7 clear the running status before theirs. Document 02, Q-2: an event's padding is the sum over its delta and its length
abbrev pub with_payload : Delta → (List ℕ → Raw) → Answer Payload → Reading (Taken RawEvent)
with_payload delta of (gives p) = reads (taken (raw_event delta.value (of p.bytes)) p.rest 0 (delta.padding + p.padding))
with_payload delta of (refuses n) = refused n 0

-- 10 where no type byte stands
unfoldable pub read_meta : Rules → Delta → List ℕ → Reading (Taken RawEvent)
read_meta rules delta [] = refused 10 0
read_meta rules delta (t ∷ s) = with_payload delta (typed t) (read_payload rules s)

-- from a status byte on, which was read: F1..F6 and F8..FE leave the running status, 6 and 7
unfoldable pub read_status : Rules → ℕ → Delta → ℕ → List ℕ → Reading (Taken RawEvent)
read_status rules running delta status s =
    pick (ltb status 0xF0) (read_channel status delta s)
    (pick (eqb status 0xFF) (read_meta rules delta s)
    (pick (eqb status 0xF0) (with_payload delta (system status) (read_payload rules s))
    (pick (eqb status 0xF7) (with_payload delta (system status) (read_payload rules s))
    (pick (ltb status 0xF7) (refused 6 running) (refused 7 running)))))

-- behind the delta: 4 where no byte stands, 5 a data byte and no running status
unfoldable pub read_body : Rules → ℕ → Delta → List ℕ → Reading (Taken RawEvent)
read_body rules running delta [] = refused 4 running
read_body rules running delta (b ∷ s) =
    pick (ltb b 0x80) (pick (eqb running 0) (refused 5 running) (read_channel running delta (b ∷ s)))
    (read_status rules running delta b s)

-- behind a delta that the bytes begin with; one that was refused leaves the running status as it was
unfoldable pub after_delta : Rules → ℕ → List ℕ → Answer Numeral → Reading (Taken RawEvent)
after_delta rules running s (gives n) = read_body rules running (delta_read s n) n.rest
after_delta rules running s (refuses m) = refused m running

-- the event that the bytes begin with, from a running status; 1 where that is invalid
unfoldable pub read_raw : Rules → ℕ → List ℕ → Reading (Taken RawEvent)
read_raw rules running s = pick (is_running running) (after_delta rules running s (read_number rules s)) (refused 1 running)

-- the shortest bytes: the status byte is left out exactly when it is the running status
unfoldable pub encode_raw : ℕ → Raw → List ℕ
encode_raw running (one status a) = pick (eqb running status) (a ∷ []) (status ∷ a ∷ [])
encode_raw running (two status a b) = pick (eqb running status) (a ∷ b ∷ []) (status ∷ a ∷ b ∷ [])
encode_raw running (system status p) = status ∷ encode_payload p
encode_raw running (typed t p) = 0xFF ∷ t ∷ encode_payload p

-- the running status after an event
abbrev pub running_after : Raw → ℕ
running_after (one status a) = status
running_after (two status a b) = status
running_after (system status p) = 0
running_after (typed t p) = 0

-- the shortest bytes of a raw event
unfoldable pub encode_raw_event : ℕ → RawEvent → List ℕ
encode_raw_event running e = encode_number e.delta ++ encode_raw running e.raw
