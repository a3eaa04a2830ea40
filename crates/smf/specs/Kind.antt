-- The named kinds of events: what a raw event is called, and the raw event of a kind. SMF 1.0 defines the forms; document 01,
-- "Bytes of an event", says what becomes of short and long ones, and which are refused.
use Rattle.std.specs.Prelude.{Bool, false, not, List, [], ◌∷◌, ℕ, ◌+◌, ◌*◌, ◌/◌, ◌%◌, ltb, leb, eqb, ℤ, length, get_or}
use Rattle.smf.specs.Answer.{pick, Answer, gives, refuses, and_then, Rules}
use Rattle.smf.specs.Signed.{signed_byte, byte_of_signed}
use Rattle.smf.specs.Header.{word, two_bytes_of}
use Rattle.smf.specs.Smpte.{Time, time_of, time_bytes}
use Rattle.smf.specs.Wire.{Raw, one, two, system, typed}

-- the seven channel messages
pub data Message : Type 0 where
  note_off : (key vel : ℕ) → Message
  note_on : (key vel : ℕ) → Message
  aftertouch : (key vel : ℕ) → Message
  controller : (controller value : ℕ) → Message
  program_change : (program : ℕ) → Message
  channel_aftertouch : (vel : ℕ) → Message
  pitch_bend : (raw : ℕ) → Message

-- the meta messages, over what stands for a payload: its bytes, or its start and length in the bytes lent
pub data Meta (P : Type 0) : Type 0 where
  track_number : ℕ → Meta P
  no_track_number : Meta P
  text : ℕ → P → Meta P  -- the text kinds, by their type: 01 Text, 02 Copyright, 03 TrackName, 04 InstrumentName, 05 Lyric, 06 Marker, 07 CuePoint, 08 ProgramName, 09 DeviceName
  midi_channel : ℕ → Meta P
  midi_port : ℕ → Meta P
  end_of_track : Meta P
  tempo : ℕ → Meta P
  smpte_offset : Time → Meta P
  time_signature : ℕ → ℕ → ℕ → ℕ → Meta P
  key_signature : ℤ → Bool → Meta P
  sequencer_specific : P → Meta P
  unknown : ℕ → P → Meta P

-- what stands behind a delta: a channel message with its channel, F0, F7, or a meta message
pub data Kind (P : Type 0) : Type 0 where
  midi : (channel : ℕ) → Message → Kind P
  sys_ex : P → Kind P
  escape : P → Kind P
  meta : Meta P → Kind P

-- the byte at a place of a payload; modulo 256, so that no law needs to say that its elements are bytes
abbrev pub byte : List ℕ → ℕ → ℕ
byte p i = get_or p i 0 % 256

-- SMF: the message of a channel status's upper half with one data byte, and with two; a bend is low seven bits first
unfoldable pub message_one : ℕ → ℕ → Message
message_one upper a = pick (eqb upper 0xC) (program_change a) (channel_aftertouch a)

-- the message with two data bytes; a bend is low seven bits first
unfoldable pub message_two : ℕ → ℕ → ℕ → Message
message_two upper a b =
    pick (eqb upper 0x8) (note_off a b)
    (pick (eqb upper 0x9) (note_on a b)
    (pick (eqb upper 0xA) (aftertouch a b)
    (pick (eqb upper 0xB) (controller a b)
    (pitch_bend (a + 128 * b)))))

-- document 01: 01..09 the text kinds
unfoldable pub is_text : ℕ → Bool
is_text t = pick (leb 0x01 t) (leb t 0x09) false

-- document 01: 00, the first two bytes big-endian, or none under two bytes
unfoldable pub track_number_of : List ℕ → Meta (List ℕ)
track_number_of p = pick (leb 2 (length p)) (track_number (word (byte p 0) (byte p 1))) no_track_number

-- a kind that is named from so many bytes up; shorter becomes `Unknown`
abbrev pub from : ℕ → ℕ → List ℕ → Answer (Meta (List ℕ)) → Answer (Meta (List ℕ))
from n t p named = pick (leb n (length p)) named (gives (unknown t p))

-- document 01: lenient keeps the low bits of a channel or a port; strict refuses more, 12
unfoldable pub narrow : Rules → ℕ → ℕ → Answer ℕ
narrow rules limit b = pick (ltb b limit) (gives b) (pick rules.strict (refuses 12) (gives (b % limit)))

-- SMF: three bytes, the highest first
abbrev pub tempo_of : List ℕ → Meta (List ℕ)
tempo_of p = tempo (byte p 0 * 65536 + byte p 1 * 256 + byte p 2)

-- document 01: 54, the five bytes of an SMPTE time; 13 outside its ranges
abbrev pub time_in : Rules → List ℕ → Answer Time
time_in rules p = time_of rules (byte p 0) (byte p 1) (byte p 2) (byte p 3) (byte p 4)

-- SMF: 58, the four bytes of a time signature
abbrev pub signature_of : List ℕ → Meta (List ℕ)
signature_of p = time_signature (byte p 0) (byte p 1) (byte p 2) (byte p 3)

-- document 01: the first byte as a signed byte, minor when the second isn't 0
abbrev pub key_of : List ℕ → Meta (List ℕ)
key_of p = key_signature (signed_byte (byte p 0)) (not (eqb (byte p 1) 0))

-- document 01, meta types: 20 and 21 from one byte up, 51 from three, 54 from five, 58 from four, 59 under two bytes refused, 14
unfoldable pub called_meta : Rules → ℕ → List ℕ → Answer (Meta (List ℕ))
called_meta rules t p =
    pick (eqb t 0x00) (gives (track_number_of p))
    (pick (is_text t) (gives (text t p))
    (pick (eqb t 0x20) (from 1 t p (and_then (narrow rules 16 (byte p 0)) (λ c. gives (midi_channel c))))
    (pick (eqb t 0x21) (from 1 t p (and_then (narrow rules 128 (byte p 0)) (λ c. gives (midi_port c))))
    (pick (eqb t 0x2F) (gives end_of_track)
    (pick (eqb t 0x51) (from 3 t p (gives (tempo_of p)))
    (pick (eqb t 0x54) (from 5 t p (and_then (time_in rules p) (λ time. gives (smpte_offset time))))
    (pick (eqb t 0x58) (from 4 t p (gives (signature_of p)))
    (pick (eqb t 0x59) (pick (leb 2 (length p)) (gives (key_of p)) (refuses 14))
    (pick (eqb t 0x7F) (gives (sequencer_specific p))
    (gives (unknown t p)))))))))))

-- what a raw event is called
unfoldable pub called : Rules → Raw → Answer (Kind (List ℕ))
called rules (one status a) = gives (midi (status % 16) (message_one (status / 16) a))
called rules (two status a b) = gives (midi (status % 16) (message_two (status / 16) a b))
called rules (system status p) = gives (pick (eqb status 0xF0) (sys_ex p) (escape p))
called rules (typed t p) = and_then (called_meta rules t p) (λ m. gives (meta m))

-- SMF: the raw event of a channel message
unfoldable pub raw_message : ℕ → Message → Raw
raw_message channel (note_off key vel) = two (0x80 + channel) key vel
raw_message channel (note_on key vel) = two (0x90 + channel) key vel
raw_message channel (aftertouch key vel) = two (0xA0 + channel) key vel
raw_message channel (controller number value) = two (0xB0 + channel) number value
raw_message channel (program_change program) = one (0xC0 + channel) program
raw_message channel (channel_aftertouch vel) = one (0xD0 + channel) vel
raw_message channel (pitch_bend raw) = two (0xE0 + channel) (raw % 128) (raw / 128)

-- SMF: the raw event of a meta message, with no more bytes than it needs; a minor key is written as 1
unfoldable pub raw_meta : Meta (List ℕ) → Raw
raw_meta (track_number n) = typed 0x00 (two_bytes_of n)
raw_meta no_track_number = typed 0x00 []
raw_meta (text t p) = typed t p
raw_meta (midi_channel c) = typed 0x20 (c ∷ [])
raw_meta (midi_port c) = typed 0x21 (c ∷ [])
raw_meta end_of_track = typed 0x2F []
raw_meta (tempo v) = typed 0x51 (v / 256 / 256 ∷ v / 256 % 256 ∷ v % 256 ∷ [])
raw_meta (smpte_offset time) = typed 0x54 (time_bytes time)
raw_meta (time_signature a b c d) = typed 0x58 (a ∷ b ∷ c ∷ d ∷ [])
raw_meta (key_signature sharps minor) = typed 0x59 (byte_of_signed sharps ∷ pick minor 1 0 ∷ [])
raw_meta (sequencer_specific p) = typed 0x7F p
raw_meta (unknown t p) = typed t p

-- the raw event of a kind
unfoldable pub raw_of : Kind (List ℕ) → Raw
raw_of (midi channel message) = raw_message channel message
raw_of (sys_ex p) = system 0xF0 p
raw_of (escape p) = system 0xF7 p
raw_of (meta m) = raw_meta m
