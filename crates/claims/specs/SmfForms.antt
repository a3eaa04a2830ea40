-- Point 2, the clauses of SMF: bytes in SMF's own form are read as what they stand for, in both modes, and what is written is in that form and
-- in no longer one. The forms are written from Standard MIDI Files 1.0; where it has none, from document 01, "Bytes of an event".
use Rattle.std.specs.Prelude.{◌≡◌, Bool, true, false, List, [], ◌∷◌, ◌++◌, ℕ, ◌+◌, ◌-◌, ◌*◌, ◌≤◌, ◌<◌, ℤ, pos, neg_ℤ, length, take, drop}
use Rattle.smf.specs.Answer.{gives}
use Rattle.smf.specs.Running.{is_running}
use Rattle.smf.specs.Number.{is_number, value_from, beyond_fewest}
use Rattle.smf.specs.Header as smf
use Rattle.smf.specs.Smpte.{time}
use Rattle.smf.specs.Kind as kind
use Rattle.smf.specs.Kind.{Message, Meta, Kind}
use Rattle.smf.specs.Event.{Event, event, map_kind, span_before, reads_at, legal}
use Rattle.base.specs.Rules.{rules_of}
use Rattle.number.specs.Varlen.{written_to}
use Rattle.number.specs.Payload.{slice_read}
use Rattle.header.proofs as header
use Rattle.header.specs.Format.{format_of, format_read_of}
use Rattle.header.specs.Timing.{timing_of, timing_read, timing_encoded}
use Rattle.event.specs.Event.{event_of, event_read}
use Rattle.write.specs.Wrote.{wrote_event}
use Rattle.claims.specs.Calls.{Always, WriteVarlen, ReadVarlenSlice, WriteVarlenSlice, TrackEventRead, WriteEvent}
use Rattle.claims.specs.Table.{among}

-- SMF: one to four bytes of seven bits, highest first, bit 7 set on all but the last, and the number that they stand for
pub record NumberForm (v : ℕ) (n : List ℕ) : Type 0 where
  pub is : is_number 4 n ≡ true
  pub stands : value_from 0 n ≡ v

-- SMF: a length, in whichever of its forms, and that many bytes
pub record PayloadForm (p bytes : List ℕ) : Type 0 where
  pub number : List ℕ
  pub counts : NumberForm (length p) number
  pub whole : bytes ≡ number ++ p

-- SMF: a channel message's status byte, and its data bytes, each below 80; a bend is low seven bits first
pub data ChannelForm (channel : ℕ) : Message → (status : ℕ) → (bytes : List ℕ) → Type 0 where
  note_off : {key vel : ℕ} → key < 0x80 → vel < 0x80 → ChannelForm channel (kind.note_off key vel) (0x80 + channel) (key ∷ vel ∷ [])
  note_on : {key vel : ℕ} → key < 0x80 → vel < 0x80 → ChannelForm channel (kind.note_on key vel) (0x90 + channel) (key ∷ vel ∷ [])
  aftertouch : {key vel : ℕ} → key < 0x80 → vel < 0x80 → ChannelForm channel (kind.aftertouch key vel) (0xA0 + channel) (key ∷ vel ∷ [])
  controller : {number value : ℕ} → number < 0x80 → value < 0x80 → ChannelForm channel (kind.controller number value) (0xB0 + channel) (number ∷ value ∷ [])
  program_change : {program : ℕ} → program < 0x80 → ChannelForm channel (kind.program_change program) (0xC0 + channel) (program ∷ [])
  channel_aftertouch : {vel : ℕ} → vel < 0x80 → ChannelForm channel (kind.channel_aftertouch vel) (0xD0 + channel) (vel ∷ [])
  pitch_bend : {low high : ℕ} → low < 0x80 → high < 0x80 → ChannelForm channel (kind.pitch_bend (high * 128 + low)) (0xE0 + channel) (low ∷ high ∷ [])

-- SMF: the two-bit code of a rate
pub data RateCode : (code rate : ℕ) → Type 0 where
  fps24 : RateCode 0 24
  fps25 : RateCode 1 25
  fps29 : RateCode 2 29
  fps30 : RateCode 3 30

-- SMF: a key's sharps, or its flats as a negative number in a byte; 0 a major key, 1 a minor one
pub data KeyByte : ℤ → ℕ → Type 0 where
  sharps : {n : ℕ} → n < 128 → KeyByte (pos n) n
  flats : {n : ℕ} → 0 < n → n ≤ 128 → KeyByte (neg_ℤ (pos n)) (256 - n)

pub data ModeByte : Bool → ℕ → Type 0 where
  major : ModeByte false 0
  minor : ModeByte true 1

-- document 01: a type that has no name, and one whose payload is too short for its name
pub data Unnamed : (type length : ℕ) → Type 0 where
  other : {t n : ℕ} → 0x09 < t → among (0x20 ∷ 0x21 ∷ 0x2F ∷ 0x51 ∷ 0x54 ∷ 0x58 ∷ 0x59 ∷ 0x7F ∷ []) t ≡ false → Unnamed t n
  channel : {n : ℕ} → n < 1 → Unnamed 0x20 n
  port : {n : ℕ} → n < 1 → Unnamed 0x21 n
  tempo : {n : ℕ} → n < 3 → Unnamed 0x51 n
  smpte : {n : ℕ} → n < 5 → Unnamed 0x54 n
  signature : {n : ℕ} → n < 4 → Unnamed 0x58 n

-- a meta message's type, and its payload. SMF: sequence number, text 01..07, channel prefix, end of track, tempo, SMPTE offset, time and key
-- signature, sequencer-specific; document 01: text 08 and 09, port, an empty number, and what has no name
pub data MetaForm : Meta (List ℕ) → (type : ℕ) → (bytes : List ℕ) → Type 0 where
  sequence_number : {high low : ℕ} → high < 256 → low < 256 → MetaForm (kind.track_number (high * 256 + low)) 0x00 (high ∷ low ∷ [])
  no_number : MetaForm kind.no_track_number 0x00 []
  text : {t : ℕ} {p : List ℕ} → 0x01 ≤ t → t ≤ 0x09 → MetaForm (kind.text t p) t p
  channel_prefix : {c : ℕ} → c < 16 → MetaForm (kind.midi_channel c) 0x20 (c ∷ [])
  port : {c : ℕ} → c < 128 → MetaForm (kind.midi_port c) 0x21 (c ∷ [])
  end_of_track : MetaForm kind.end_of_track 0x2F []
  tempo : {a b c : ℕ} → a < 256 → b < 256 → c < 256 → MetaForm (kind.tempo (a * 65536 + b * 256 + c)) 0x51 (a ∷ b ∷ c ∷ [])
  smpte_offset : {code rate hour minute second frame subframe : ℕ} → RateCode code rate → hour < 24 → minute < 60 → second < 60 → frame < rate → subframe < 100
      → MetaForm (kind.smpte_offset (time hour minute second frame subframe rate)) 0x54 ((code * 32 + hour) ∷ minute ∷ second ∷ frame ∷ subframe ∷ [])
  time_signature : {a b c d : ℕ} → a < 256 → b < 256 → c < 256 → d < 256 → MetaForm (kind.time_signature a b c d) 0x58 (a ∷ b ∷ c ∷ d ∷ [])
  key_signature : {z : ℤ} {minor : Bool} {a b : ℕ} → KeyByte z a → ModeByte minor b → MetaForm (kind.key_signature z minor) 0x59 (a ∷ b ∷ [])
  sequencer_specific : {p : List ℕ} → MetaForm (kind.sequencer_specific p) 0x7F p
  unknown : {t : ℕ} {p : List ℕ} → Unnamed t (length p) → MetaForm (kind.unknown t p) t p

-- what stands behind the delta, from a running status on, and the running status after it: a channel status is left out where it is the
-- running status already, F0, F7 and FF end it
pub data BodyForm (running : ℕ) : Kind (List ℕ) → (bytes : List ℕ) → (after : ℕ) → Type 0 where
  channel : {c status : ℕ} {m : Message} {s : List ℕ} → c < 16 → ChannelForm c m status s → BodyForm running (kind.midi c m) (status ∷ s) status
  under : {c : ℕ} {m : Message} {s : List ℕ} → c < 16 → ChannelForm c m running s → BodyForm running (kind.midi c m) s running
  sys_ex : {p s : List ℕ} → PayloadForm p s → BodyForm running (kind.sys_ex p) (0xF0 ∷ s) 0
  escape : {p s : List ℕ} → PayloadForm p s → BodyForm running (kind.escape p) (0xF7 ∷ s) 0
  meta : {m : Meta (List ℕ)} {t : ℕ} {p s : List ℕ} → MetaForm m t p → PayloadForm p s → BodyForm running (kind.meta m) (0xFF ∷ t ∷ s) 0

-- SMF: a delta and what stands behind it
pub record EventForm (running : ℕ) (e : Event (List ℕ)) (after : ℕ) (bytes : List ℕ) : Type 0 where
  pub delta : List ℕ
  pub body : List ℕ
  pub ticks : NumberForm e.delta delta
  pub stands : BodyForm running e.kind body after
  pub whole : bytes ≡ delta ++ body

-- Document 02, Q-2, of these forms: the padding of a payload is its length's; of an event its delta's and, where it has a payload, its length's
abbrev pub payload_padding : {p bytes : List ℕ} → PayloadForm p bytes → ℕ
payload_padding {p} f = beyond_fewest (length f.number) (length p)

abbrev pub body_padding : {running : ℕ} {k : Kind (List ℕ)} {bytes : List ℕ} {after : ℕ} → BodyForm running k bytes after → ℕ
body_padding (channel low f) = 0
body_padding (under low f) = 0
body_padding (sys_ex f) = payload_padding f
body_padding (escape f) = payload_padding f
body_padding (meta m f) = payload_padding f

abbrev pub event_padding : {running : ℕ} {e : Event (List ℕ)} {after : ℕ} {bytes : List ℕ} → EventForm running e after bytes → ℕ
event_padding {e = e} f = beyond_fewest (length f.delta) e.delta + body_padding f.stands

-- SMF: the two bytes of a format, and of a division: bit 15 clear, ticks in a quarter-note; set, minus the frames in a second, and ticks in a frame
pub data FormatForm : ℕ → (high low : ℕ) → Type 0 where
  format : {f : ℕ} → f ≤ 2 → FormatForm f 0 f

pub data TimingForm : smf.Timing → (high low : ℕ) → Type 0 where
  metrical : {high low : ℕ} → high < 128 → low < 256 → TimingForm (smf.metrical (high * 256 + low)) high low
  timecode : {code rate subframe : ℕ} → RateCode code rate → subframe < 256 → TimingForm (smf.timecode rate subframe) (256 - rate) subframe

-- bytes of a form, and none of that form are fewer
pub record Fewest (Form : List ℕ → Type 0) (bytes : List ℕ) : Type 0 where
  pub form : Form bytes
  pub fewest : (others : List ℕ) → Form others → length bytes ≤ length others

-- the bytes of a buffer from one place to another
abbrev pub between : ℕ → ℕ → List ℕ → List ℕ
between at next s = drop at (take next s)

pub record SmfForms : Type 0 where
  -- numbers and payloads, written; payloads read. Point 2's `smf_numbers` says how a number is read
  pub number_written : WriteVarlen (λ self out at r end. (n : ℕ) → written_to r ≡ gives n → Fewest (NumberForm self.0) (between at n end))
  pub payload_read : ReadVarlenSlice (λ raw at rules r. (p s rest : List ℕ) (f : PayloadForm p s) → drop at raw ≡ s ++ rest
      → slice_read r ≡ gives (record { span = record { start = at + length s - length p; length = length p }; padding = payload_padding f }))
  pub payload_written : WriteVarlenSlice (λ bytes slice out at r end. (n : ℕ) → written_to r ≡ gives n
      → Fewest (PayloadForm (take slice.length (drop slice.start bytes))) (between at n end))
  -- an event, from any running status: its payload ends where it ends
  pub event_read_lem : TrackEventRead (λ raw at running rules r. (e : Event (List ℕ)) (after : ℕ) (s rest : List ℕ)
      → is_running running.status ≡ true → (f : EventForm running.status e after s) → drop at raw ≡ s ++ rest
      → event_read r ≡ reads_at (record { event = event e.delta (map_kind (span_before (at + length s)) e.kind); used = length s; running = after; padding = event_padding f }))
  pub event_written_lem : WriteEvent (λ event running rules bytes out at r end. (n : ℕ) → (wrote_event r end).written.answer ≡ gives n
      → (e : Event (List ℕ)) × (legal (rules_of rules) bytes (event_of event) ≡ gives e)
      × Fewest (EventForm running.status e (wrote_event r end).running) (between at n end))
  -- format and timing; bytes beyond the two are ignored
  pub format_read : Always header.format.Format.read.Reads.Learnt (λ κs a r e.
      (f high low : ℕ) (more : List ℕ) → FormatForm f high low → a.0.now ≡ high ∷ low ∷ more → format_read_of r ≡ gives f)
  pub format_written : Always header.format.Format.encode.Reads.Learnt (λ κs a r e.
      (high : ℕ) × (low : ℕ) × FormatForm (format_of a.0) high low × (r ≡ high ∷ low ∷ []))
  pub timing_read_lem : Always header.timing.Timing.read.Reads.Learnt (λ κs a r e.
      (t : smf.Timing) (high low : ℕ) (more : List ℕ) → TimingForm t high low → a.0.now ≡ high ∷ low ∷ more → timing_read r ≡ gives t)
  pub timing_written : Always header.timing.Timing.encode.Reads.Learnt (λ κs a r e.
      (bytes : List ℕ) → timing_encoded r ≡ gives bytes → (high : ℕ) × (low : ℕ) × TimingForm (timing_of a.0) high low × (bytes ≡ high ∷ low ∷ []))
