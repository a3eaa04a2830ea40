-- Short events: channel messages with a delta of one byte, which the readers into rows take at once. Nothing new is defined here: what is said is
-- that the short way answers what `event_at` of `smf` does.
use Rattle.std.specs.Prelude.{◌≡◌, List, ℕ, Option, None, Some, ◌/◌, ◌%◌, ◌≤◌, ◌<◌, length, drop, get_or}
use Rattle.smf.specs.Answer.{Rules}
use Rattle.smf.specs.Place.{Span}
use Rattle.smf.specs.Wire.{Delta, read_channel}
use Rattle.smf.specs.Kind.{midi}
use Rattle.smf.specs.Event.{Event, event, placed, name_raw, event_at}
use Rattle.smf.proofs.Place.{Sited}
use Rattle.smf.proofs.Reading.{told, message_with}
use Rattle.rows.specs.declared.short.Short.{Short}

-- the event of a delta, a channel status and its data
abbrev pub short_event : ℕ → ℕ → ℕ → ℕ → Event Span
short_event delta status a b = event delta (midi (status % 16) (message_with status a b))

-- the data of a channel status that stands at a place, of an event that began at another: what was found is what is read there
pub record DataRead (s : List ℕ) (at place status used st a b : ℕ) : Type 0 where
  pub same : st ≡ status
  pub single : st / 32 ≡ 6 → b ≡ 0
  pub read : (rules : Rules) (delta : Delta) → Sited s at place
      → told (short_event delta.value st a b) used st delta.padding ≡ placed s at (name_raw rules (read_channel st delta (drop place s)))

-- where any was found
abbrev pub ShortData : List ℕ → ℕ → ℕ → ℕ → Option Short → Type 0
ShortData s at place status None = Unit {0}
ShortData s at place status (Some found) = DataRead s at place status found.used found.status found.a found.b

-- a short event that was found at a place is the event that is read there
pub record ShortRead (s : List ℕ) (at running used status a b : ℕ) : Type 0 where
  pub there : at < length s
  pub channel : (0x80 ≤ status) × (status < 0xF0)
  pub single : status / 32 ≡ 6 → b ≡ 0
  pub read : (rules : Rules) → told (short_event (get_or s at 0) status a b) used status 0 ≡ event_at rules running s at

-- where one was found
abbrev pub ShortAt : List ℕ → ℕ → ℕ → Option Short → Type 0
ShortAt s at running None = Unit {0}
ShortAt s at running (Some found) = ShortRead s at running found.used found.status found.a found.b
