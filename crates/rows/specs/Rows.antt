-- An event as a row of numbers.
use Rattle.std.specs.Prelude.{List, [], ◌∷◌, ℕ, ◌+◌}
use Rattle.smf.specs.Answer.{pick}
use Rattle.smf.specs.Place.{Span}
use Rattle.smf.specs.Signed.{byte_of_signed}
use Rattle.smf.specs.Kind as kind
use Rattle.smf.specs.Event.{Event}
use Rattle.rows.specs.declared.Row.{Row}

-- how many cells a row has
abbrev pub width : ℕ
width = 10

-- a row's numbers behind its delta: the kind's number, six fields, the payload's start and length
abbrev pub row_numbers : Row → List ℕ
row_numbers r = r.kind ∷ r.a ∷ r.b ∷ r.c ∷ r.d ∷ r.e ∷ r.f ∷ r.start ∷ r.length ∷ []

-- the row of a kind that carries no payload
abbrev pub row : ℕ → ℕ → ℕ → ℕ → ℕ → ℕ → ℕ → List ℕ
row number a b c d e f = number ∷ a ∷ b ∷ c ∷ d ∷ e ∷ f ∷ 0 ∷ 0 ∷ []

-- the row of a kind that carries a payload, and of an unknown one its type
abbrev pub row_load : ℕ → ℕ → Span → List ℕ
row_load number a span = number ∷ a ∷ 0 ∷ 0 ∷ 0 ∷ 0 ∷ 0 ∷ span.start ∷ span.length ∷ []

-- a channel message by its status's upper half, 8 to 14, with the channel first
abbrev pub midi_row : ℕ → kind.Message → List ℕ
midi_row ch (kind.note_off key vel) = row 8 ch key vel 0 0 0
midi_row ch (kind.note_on key vel) = row 9 ch key vel 0 0 0
midi_row ch (kind.aftertouch key vel) = row 10 ch key vel 0 0 0
midi_row ch (kind.controller number value) = row 11 ch number value 0 0 0
midi_row ch (kind.program_change program) = row 12 ch program 0 0 0 0
midi_row ch (kind.channel_aftertouch vel) = row 13 ch vel 0 0 0 0
midi_row ch (kind.pitch_bend raw) = row 14 ch raw 0 0 0 0

-- a meta message by 256 and its type, an unknown one by 512 with its type as a field; a track number that is there by 1 and the number;
-- the sharps of a key as their byte; yes 1, no 0; an SMPTE rate last
abbrev pub meta_row : kind.Meta Span → List ℕ
meta_row (kind.track_number n) = row 0x100 1 n 0 0 0 0
meta_row kind.no_track_number = row 0x100 0 0 0 0 0 0
meta_row (kind.text t p) = row_load (0x100 + t) 0 p
meta_row (kind.midi_channel c) = row 0x120 c 0 0 0 0 0
meta_row (kind.midi_port c) = row 0x121 c 0 0 0 0 0
meta_row kind.end_of_track = row 0x12F 0 0 0 0 0 0
meta_row (kind.tempo v) = row 0x151 v 0 0 0 0 0
meta_row (kind.smpte_offset t) = row 0x154 t.hour t.minute t.second t.frame t.subframe t.rate
meta_row (kind.time_signature a b c d) = row 0x158 a b c d 0 0
meta_row (kind.key_signature sharps minor) = row 0x159 (byte_of_signed sharps) (pick minor 1 0) 0 0 0 0
meta_row (kind.sequencer_specific p) = row_load 0x17F 0 p
meta_row (kind.unknown t p) = row_load 0x200 t p

-- the row of a kind; F0 and F7 by their status
abbrev pub kind_row : kind.Kind Span → List ℕ
kind_row (kind.midi channel message) = midi_row channel message
kind_row (kind.sys_ex p) = row_load 0xF0 0 p
kind_row (kind.escape p) = row_load 0xF7 0 p
kind_row (kind.meta m) = meta_row m

-- the row of an event: the delta first
abbrev pub event_row : Event Span → List ℕ
event_row e = e.delta ∷ kind_row e.kind
