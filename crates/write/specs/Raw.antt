-- The raw form of an event that may be written: SMF's, as the code holds it over the bytes lent, and document 01's legality.
use Rattle.base.specs.declared.Refusal.{Refusal}
use Rattle.write.specs.declared.raw.RawEvent.{RawEvent}
use Rattle.std.specs.Prelude.{◌≡◌, Bool, true, false, ◌&&◌, ◌||◌, List, [], ◌∷◌, ℕ, ◌+◌, ◌/◌, ◌%◌, ◌^◌, ◌<◌, ◌≤◌, ltb, leb, eqb, length, take, Err, Ok, Result, ⊤}
use Rattle.smf.specs.Answer.{pick, Answer, gives, refuses, and_then, Rules}
use Rattle.smf.specs.Number.{encode_number}
use Rattle.smf.specs.Place.{Span, inside, bytes_of}
use Rattle.smf.specs.Wire as wire
use Rattle.smf.specs.Wire.{raw_event}
use Rattle.smf.specs.Kind.{Kind, raw_of}
use Rattle.smf.specs.Event.{Event, event, legal}
use Rattle.base.specs.Refusal.{number_of}
use Rattle.base.specs.Said.{said}
use Rattle.meta.specs.Meta.{span_of}
use Rattle.write.specs.declared.raw.Channel.{Channel}
use Rattle.write.specs.declared.raw.Own.{Own}
use Rattle.write.specs.declared.raw.Raw.{Raw}
use Rattle.write.specs.declared.raw.Raw.TheVariants as raw
use Rattle.write.specs.declared.row_door.Data.{Data}

-- the raw event of an event that was judged; the number of one that is forbidden stays what it is
unfoldable pub raw_judged : Answer (Event (List ℕ)) → Answer wire.RawEvent
raw_judged judged = and_then judged (λ e. gives (raw_event e.delta (raw_of e.kind)))

-- the raw form of a kind that is legal over given payload bytes, as if it had no delta; 18, 19, 22, 23 in that order
unfoldable pub raw_kind : Rules → List ℕ → Kind Span → Answer wire.Raw
raw_kind rules bytes k = and_then (legal rules bytes (event 0 k)) (λ l. gives (raw_of l.kind))

-- document 01, refusals 19 and 22: a range inside the bytes lent, and not above 268,435,455 bytes
unfoldable pub lent : {A : Type 0} → List ℕ → Span → A → Answer A
lent bytes span x = pick (inside bytes span) (pick (ltb span.length (2 ^ 28)) (gives x) (refuses 22)) (refuses 19)

-- What the code's values say

-- a channel message by its status and its data
abbrev pub channel_raw : Channel → wire.Raw
channel_raw c = pick c.pair (wire.two c.status c.a c.b) (wire.one c.status c.a)

-- a payload of its own: the first n of five bytes
abbrev pub own_of : ℕ → ℕ → ℕ → ℕ → ℕ → ℕ → Own
own_of n a b c d e = record { n = n; bytes = a ∷ b ∷ c ∷ d ∷ e ∷ [] }

-- the five bytes of a payload of its own
abbrev pub own_list : Own → List ℕ
own_list own = own.bytes

-- the bytes of it that count
abbrev pub own_bytes : Own → List ℕ
own_bytes own = take own.n (own_list own)

-- the raw event that a value is over the bytes lent
unfoldable pub wire_of : List ℕ → Raw → wire.Raw
wire_of bytes (raw.Channel c) = channel_raw c
wire_of bytes (raw.System status load) = wire.system status (bytes_of bytes (span_of load))
wire_of bytes (raw.Typed t load) = wire.typed t (bytes_of bytes (span_of load))
wire_of bytes (raw.Fixed t own) = wire.typed t (own_bytes own)

-- whether a range is inside the bytes lent, and short enough for a number
unfoldable pub is_lent : List ℕ → Span → Bool
is_lent bytes span = inside bytes span && ltb span.length (2 ^ 28)

-- whether a value's payload is there
unfoldable pub is_sound : List ℕ → Raw → Bool
is_sound bytes (raw.Channel c) = true
is_sound bytes (raw.System status load) = is_lent bytes (span_of load)
is_sound bytes (raw.Typed t load) = is_lent bytes (span_of load)
is_sound bytes (raw.Fixed t own) = leb own.n 5 && leb own.n (length own.bytes)

-- a value whose payload is not there says nothing: 0 is no refusal's number, so that no promise permits one
abbrev pub made_said : List ℕ → Result Raw Refusal → Answer wire.Raw
made_said bytes (Ok r) = pick (is_sound bytes r) (gives (wire_of bytes r)) (refuses 0)
made_said bytes (Err n) = refuses (number_of n)

-- what looking for a payload says
abbrev pub looked_said : Result ⊤ Refusal → Answer (Unit {0})
looked_said = said (λ _. tt)

-- what a door says: the raw event, or the number that forbids it
abbrev pub judged_said : List ℕ → Result RawEvent Refusal → Answer wire.RawEvent
judged_said bytes (Ok e) =
    pick (ltb e.delta.0 (2 ^ 28) && is_sound bytes e.raw) (gives (raw_event e.delta.0 (wire_of bytes e.raw))) (refuses 0)
judged_said bytes (Err n) = refuses (number_of n)

-- How many bytes

-- SMF: the status byte is left out where it is the running status; one data byte, or two
abbrev pub status_bytes : ℕ → ℕ → List ℕ
status_bytes running status = pick (eqb running status) [] (status ∷ [])

-- the data bytes of a channel message
abbrev pub data_bytes : Channel → List ℕ
data_bytes c = pick c.pair (c.a ∷ c.b ∷ []) (c.a ∷ [])

-- a payload's length with its number's
abbrev pub load_length : ℕ → ℕ
load_length n = length (encode_number n) + n

-- how many bytes a raw form has behind its delta
unfoldable pub raw_length : ℕ → Raw → ℕ
raw_length running (raw.Channel c) = length (status_bytes running c.status) + pick c.pair 2 1
raw_length running (raw.System status load) = 1 + load_length load.length
raw_length running (raw.Typed t load) = 2 + load_length load.length
raw_length running (raw.Fixed t own) = 2 + load_length own.n

-- the running status after it
unfoldable pub raw_after : Raw → ℕ
raw_after (raw.Channel c) = c.status
raw_after (raw.System status load) = 0
raw_after (raw.Typed t load) = 0
raw_after (raw.Fixed t own) = 0

-- What the steps behind the doors go by

-- an event that a door let through has a short delta, and its payload is there
abbrev pub LetThrough : List ℕ → Result RawEvent Refusal → Type 0
LetThrough bytes (Ok e) = (e.delta.0 < 2 ^ 28) × (is_sound bytes e.raw ≡ true)
LetThrough bytes (Err n) = Unit

-- a range that is inside the bytes lent, and short enough for a number
pub record Inside (bytes : List ℕ) (span : Span) : Type 0 where
  pub within : span.start + span.length ≤ length bytes
  pub short : span.length < 2 ^ 28

-- a payload that a number can say the length of
unfoldable pub Short : Raw → Type 0
Short (raw.Channel c) = Unit
Short (raw.System status load) = load.length < 2 ^ 28
Short (raw.Typed t load) = load.length < 2 ^ 28
Short (raw.Fixed t own) = own.n < 2 ^ 28

-- SMF: the data bytes by a row's number, which is its status's upper half, of its two fields behind the channel: a bend, 14, is one number in a row and low seven bits first in bytes; a program, 12, and a channel's aftertouch, 13, have one byte; the others have two
unfoldable pub data_of : ℕ → ℕ → ℕ → Data
data_of n a b =
    pick (eqb n 14) (record { pair = true; a = a % 128; b = a / 128 })
    (pick (eqb n 12 || eqb n 13) (record { pair = false; a = a; b = 0 })
    (record { pair = true; a = a; b = b }))
