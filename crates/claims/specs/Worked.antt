-- Document 01, "Bytes worked by hand": P1 to P12 as one table, a row for each line, and one statement over it.
use Rattle.std.specs.Prelude.{◌≡◌, true, List, [], ◌∷◌, map, ℕ, pos, neg_ℤ}
use Rattle.smf.specs.Answer.{Answer, gives, Rules, leniently}
use Rattle.smf.specs.Number.{Numeral, numeral, encode_number, read_number}
use Rattle.smf.specs.Place.{Span}
use Rattle.smf.specs.Smpte.{time}
use Rattle.smf.specs.Kind.{note_on, tempo, unknown, key_signature, smpte_offset, Kind, midi, sys_ex, meta}
use Rattle.smf.specs.Event.{event, ReadAt, reads_at, refused_at, event_at}

-- the rules of strict and of lenient reading
abbrev pub strict_rules : Rules
strict_rules = record { strict = true }

abbrev pub lenient_rules : Rules
lenient_rules = leniently strict_rules

-- what is worked by hand
pub data WorkedLine : Type 0 where
  read : (running : ℕ) → List ℕ → (lenient strict : ReadAt) → WorkedLine  -- bytes read as an event from a running status
  written : ℕ → List ℕ → WorkedLine  -- a number, and its bytes

-- bytes that are answered the same in both modes
abbrev pub read_alike : ℕ → List ℕ → ReadAt → WorkedLine
read_alike running bytes answer = read running bytes answer answer

-- an event: its delta and kind, the bytes used, the running status after it; none of these has padding
abbrev pub gave : ℕ → Kind Span → ℕ → ℕ → ReadAt
gave delta kind used running = reads_at (record { event = event delta kind; used = used; running = running; padding = 0 })

-- a payload in the bytes: its start and length
abbrev pub span_from : ℕ → ℕ → Span
span_from start length = record { start = start; length = length }

-- no running status
abbrev pub no_status : ℕ
no_status = 0

-- P1 to P12, in their order; `refused_at` has the number, the bytes used, the running status that is left, and the padding
abbrev pub table : List WorkedLine
table =
    -- P1
    read_alike no_status (0x00 ∷ 0x90 ∷ 0x3C ∷ 0x40 ∷ []) (gave 0 (midi 0 (note_on 60 64)) 4 0x90)
    -- P2
    ∷ read_alike 0x90 (0x00 ∷ 0x3C ∷ 0x00 ∷ []) (gave 0 (midi 0 (note_on 60 0)) 3 0x90)
    -- P3
    ∷ read_alike no_status (0x00 ∷ 0xFF ∷ 0x51 ∷ 0x03 ∷ 0x07 ∷ 0xA1 ∷ 0x20 ∷ []) (gave 0 (meta (tempo 500000)) 7 no_status)
    -- P4
    ∷ read_alike no_status (0x00 ∷ 0xFF ∷ 0x51 ∷ 0x02 ∷ 0x07 ∷ 0xA1 ∷ []) (gave 0 (meta (unknown 0x51 (span_from 4 2))) 6 no_status)
    -- P5
    ∷ read_alike no_status (0x00 ∷ 0xFF ∷ 0x59 ∷ 0x01 ∷ 0x00 ∷ []) (refused_at 14 0 no_status 0)
    -- P6
    ∷ read_alike no_status (0x00 ∷ 0xFF ∷ 0x59 ∷ 0x02 ∷ 0xFE ∷ 0x01 ∷ []) (gave 0 (meta (key_signature (neg_ℤ (pos 2)) true)) 6 no_status)
    -- P7
    ∷ read no_status (0x00 ∷ 0xF0 ∷ []) (gave 0 (sys_ex (span_from 2 0)) 2 no_status) (refused_at 2 0 no_status 0)
    -- P8
    ∷ read no_status (0xFF ∷ 0xFF ∷ 0xFF ∷ 0xFF ∷ 0x90 ∷ 0x3C ∷ 0x40 ∷ []) (gave 268435455 (midi 0 (note_on 60 64)) 7 0x90) (refused_at 3 0 no_status 0)
    -- P9, its two lines
    ∷ read_alike no_status (0x00 ∷ 0x90 ∷ 0x80 ∷ []) (refused_at 8 0 0x90 0)
    ∷ read_alike no_status (0x00 ∷ 0x90 ∷ 0x3C ∷ 0x80 ∷ []) (refused_at 9 0 0x90 0)
    -- P10
    ∷ read_alike 0x90 (0x00 ∷ 0xF8 ∷ []) (refused_at 7 0 0x90 0)
    -- P11, and with 41 for 61
    ∷ read_alike no_status (0x00 ∷ 0xFF ∷ 0x54 ∷ 0x05 ∷ 0x61 ∷ 0x00 ∷ 0x00 ∷ 0x1D ∷ 0x00 ∷ []) (gave 0 (meta (smpte_offset (time 1 0 0 29 0 30))) 9 no_status)
    ∷ read_alike no_status (0x00 ∷ 0xFF ∷ 0x54 ∷ 0x05 ∷ 0x41 ∷ 0x00 ∷ 0x00 ∷ 0x1D ∷ 0x00 ∷ []) (refused_at 13 0 no_status 0)
    -- P12, its four numbers
    ∷ written 128 (0x81 ∷ 0x00 ∷ [])
    ∷ written 16383 (0xFF ∷ 0x7F ∷ [])
    ∷ written 16384 (0x81 ∷ 0x80 ∷ 0x00 ∷ [])
    ∷ written 2097152 (0x81 ∷ 0x80 ∷ 0x80 ∷ 0x00 ∷ [])
    ∷ []

-- what a row asks of the definitions, in both modes: an event, or a number's bytes and what is read of them
pub data Answered : Type 0 where
  reading : (lenient strict : ReadAt) → Answered
  writing : List ℕ → (lenient strict : Answer Numeral) → Answered

-- what the definitions answer
abbrev pub computed : WorkedLine → Answered
computed (read running bytes lenient strict) = reading (event_at lenient_rules running bytes 0) (event_at strict_rules running bytes 0)
computed (written n bytes) = writing (encode_number n) (read_number lenient_rules bytes) (read_number strict_rules bytes)

-- what document 01 says
abbrev pub expected : WorkedLine → Answered
expected (read running bytes lenient strict) = reading lenient strict
expected (written n bytes) = writing bytes (gives (numeral n [])) (gives (numeral n []))

abbrev pub AsWorked : Type 0
AsWorked = map computed table ≡ map expected table
