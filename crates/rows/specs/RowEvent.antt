-- The event of a row, by the layout of `Rows`: the delta, the kind's number, six fields, the payload's start and length.
-- What a kind does not use of a row is not looked at. A row is no event's where a number is above what an event's field can hold: that is wider
-- than what is legal, so that an event which no writer takes can still be handed over and compared.
use Rattle.std.specs.Prelude.{Bool, true, ◌&&◌, ◌||◌, not, List, ℕ, ◌-◌, ◌^◌, ltb, leb, eqb, length, get_or}
use Rattle.smf.specs.Answer.{pick, Answer, gives, refuses, and_then, Rules}
use Rattle.smf.specs.Place.{Span}
use Rattle.smf.specs.Signed.{signed_byte}
use Rattle.smf.specs.Smpte.{time, is_rate}
use Rattle.smf.specs.Kind as kind
use Rattle.smf.specs.Kind.{is_text}
use Rattle.smf.specs.Event.{Event, event, legal}
use Rattle.rows.specs.Rows.{width}

-- What fits

-- whether five numbers are bytes; 0 stands for a field that is not used
unfoldable pub are_bytes : ℕ → ℕ → ℕ → ℕ → ℕ → Bool
are_bytes a b c d e = ltb a 256 && (ltb b 256 && (ltb c 256 && (ltb d 256 && ltb e 256)))

-- an SMPTE time: five bytes, and one of the four rates
unfoldable pub time_fits : ℕ → ℕ → ℕ → ℕ → ℕ → ℕ → Bool
time_fits a b c d e rate = is_rate rate && are_bytes a b c d e

-- whether the numbers that a kind uses are within what their integers hold: bytes, but for bends, track numbers and tempos;
-- a number that is no kind's has none
unfoldable pub fields_fit : ℕ → ℕ → ℕ → ℕ → ℕ → ℕ → ℕ → Bool
fields_fit n a b c d e f =
    pick (eqb n 8) (are_bytes a b c 0 0)
    (pick (eqb n 9) (are_bytes a b c 0 0)
    (pick (eqb n 10) (are_bytes a b c 0 0)
    (pick (eqb n 11) (are_bytes a b c 0 0)
    (pick (eqb n 12) (are_bytes a b 0 0 0)
    (pick (eqb n 13) (are_bytes a b 0 0 0)
    (pick (eqb n 14) (ltb b 65536 && ltb a 256)
    (pick (eqb n 0xF0) true
    (pick (eqb n 0xF7) true
    (pick (eqb n 0x100) (eqb a 0 || ltb b 65536)
    (pick (eqb n 0x120) (ltb a 256)
    (pick (eqb n 0x121) (ltb a 256)
    (pick (eqb n 0x12F) true
    (pick (eqb n 0x151) (ltb a (2 ^ 32))
    (pick (eqb n 0x154) (time_fits a b c d e f)
    (pick (eqb n 0x158) (are_bytes a b c d 0)
    (pick (eqb n 0x159) (ltb a 256)
    (pick (eqb n 0x17F) true
    (pick (eqb n 0x200) (ltb a 256)
    (is_text (n - 0x100))))))))))))))))))))

-- a cell of a row
abbrev pub cell : List ℕ → ℕ → ℕ
cell r i = get_or r i 0

-- whether cells are the row of an event: all of them there, the delta a number of 32 bits, and the fields fit
unfoldable pub is_row : List ℕ → Bool
is_row r =
    leb width (length r)
    && (ltb (cell r 0) (2 ^ 32) && fields_fit (cell r 1) (cell r 2) (cell r 3) (cell r 4) (cell r 5) (cell r 6) (cell r 7))

-- What it is called

-- a track number that is there, or none
unfoldable pub row_number_of : ℕ → ℕ → kind.Meta Span
row_number_of there n = pick (eqb there 0) kind.no_track_number (kind.track_number n)

-- a meta message by 256 and its type, an unknown one by 512 with its type as a field
unfoldable pub row_meta : ℕ → ℕ → ℕ → ℕ → ℕ → ℕ → ℕ → Span → kind.Meta Span
row_meta n a b c d e f span =
    pick (eqb n 0x100) (row_number_of a b)
    (pick (eqb n 0x120) (kind.midi_channel a)
    (pick (eqb n 0x121) (kind.midi_port a)
    (pick (eqb n 0x12F) kind.end_of_track
    (pick (eqb n 0x151) (kind.tempo a)
    (pick (eqb n 0x154) (kind.smpte_offset (time a b c d e f))
    (pick (eqb n 0x158) (kind.time_signature a b c d)
    (pick (eqb n 0x159) (kind.key_signature (signed_byte a) (not (eqb b 0)))
    (pick (eqb n 0x17F) (kind.sequencer_specific span)
    (pick (eqb n 0x200) (kind.unknown a span)
    (kind.text (n - 0x100) span))))))))))

-- a channel message by its status's upper half, of its one or two numbers behind the channel
unfoldable pub row_message : ℕ → ℕ → ℕ → kind.Message
row_message n a b =
    pick (eqb n 8) (kind.note_off a b)
    (pick (eqb n 9) (kind.note_on a b)
    (pick (eqb n 10) (kind.aftertouch a b)
    (pick (eqb n 11) (kind.controller a b)
    (pick (eqb n 12) (kind.program_change a)
    (pick (eqb n 13) (kind.channel_aftertouch a)
    (kind.pitch_bend a))))))

-- a channel message has the channel first
unfoldable pub row_kind : ℕ → ℕ → ℕ → ℕ → ℕ → ℕ → ℕ → Span → kind.Kind Span
row_kind n a b c d e f span =
    pick (ltb n 15) (kind.midi a (row_message n b c))
    (pick (eqb n 0xF0) (kind.sys_ex span)
    (pick (eqb n 0xF7) (kind.escape span)
    (kind.meta (row_meta n a b c d e f span))))

-- the range of a payload, in the last two cells
abbrev pub row_span : List ℕ → Span
row_span r = record { start = cell r 8; length = cell r 9 }

-- the event of cells that are an event's row
unfoldable pub called_row : List ℕ → Event Span
called_row r =
    event (cell r 0) (row_kind (cell r 1) (cell r 2) (cell r 3) (cell r 4) (cell r 5) (cell r 6) (cell r 7) (row_span r))

-- the event of a row; 18 where cells are no event's row
unfoldable pub event_of_row : List ℕ → Answer (Event Span)
event_of_row r = pick (is_row r) (gives (called_row r)) (refuses 18)

-- what writers make of a row: the event that it is over given payload bytes, or the number that forbids it
unfoldable pub row_judged : Rules → List ℕ → List ℕ → Answer (Event (List ℕ))
row_judged rules bytes r = and_then (event_of_row r) (legal rules bytes)
