-- A row of a list as it stands among the list's cells: the channel message that it is, and when that is legal.
use Rattle.std.specs.Prelude.{◌≡◌, List, ℕ, ◌+◌, ◌*◌, ◌^◌, ◌<◌, ◌≤◌, length, get_or, Option, Some, None}
use Rattle.smf.specs.Answer.{Answer, gives}
use Rattle.smf.specs.Wire.{RawEvent, encode_raw_event}
use Rattle.rows.specs.Rows.{width}
use Rattle.write.specs.Raw.{data_of}
use Rattle.write.specs.declared.raw.Channel.{Channel}
use Rattle.write.specs.declared.row_door.Data.{Data}

-- a channel message of its number, which is its status's upper half, its channel and its data
abbrev pub packed_of : ℕ → ℕ → Data → Channel
packed_of n channel d = record { status = n * 16 + channel; pair = d.pair; a = d.a; b = d.b }

-- the data of the row that starts at a cell
abbrev pub data_at : List ℕ → ℕ → Data
data_at rows at = data_of (get_or rows (at + 1) 0) (get_or rows (at + 3) 0) (get_or rows (at + 4) 0)

-- its channel message
abbrev pub message_at : List ℕ → ℕ → Channel
message_at rows at = packed_of (get_or rows (at + 1) 0) (get_or rows (at + 2) 0) (data_at rows at)

-- the row that starts at a cell is all there, a channel message's, and within its widths
pub record Direct (rows : List ℕ) (at : ℕ) : Type 0 where
  pub there : at + width ≤ length rows
  pub delta : get_or rows at 0 < 2 ^ 28
  pub low : 8 ≤ get_or rows (at + 1) 0
  pub high : get_or rows (at + 1) 0 < 15
  pub channel : get_or rows (at + 2) 0 < 16
  pub first : (data_at rows at).a < 128
  pub second : (data_at rows at).b < 128

-- a channel message that was taken from a row is the row's, and legal
abbrev pub Taken : List ℕ → ℕ → Option Channel → Type 0
Taken rows at (Some c) = Direct rows at × (c ≡ message_at rows at)
Taken rows at None = Unit {0}

-- an event that was judged legal, and whose bytes have room at a place
abbrev pub RoomAt : ℕ → Answer RawEvent → ℕ → ℕ → Type 0
RoomAt running judged place room = (e : RawEvent) × (judged ≡ gives e) × (place + length (encode_raw_event running e) ≤ room)
