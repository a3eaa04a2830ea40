-- One event, named: read from bytes, and the bytes of a legal one. Document 01, "Bytes of an event", "Refusal numbers" and "Lists".
use Rattle.std.specs.Prelude.{◌≡◌, Bool, true, false, ◌&&◌, ◌||◌, not, List, ℕ, ◌-◌, ◌^◌, ltb, leb, eqb, length, drop}
use Rattle.std.specs.Int.Signed.{mag}
use Rattle.smf.specs.Answer.{pick, Answer, gives, refuses, unless, Rules}
use Rattle.smf.specs.Running.{is_running}
use Rattle.smf.specs.Place.{Span, place_of, inside, bytes_of}
use Rattle.smf.specs.Smpte.{is_time}
use Rattle.smf.specs.Write.{Written, left, put}
use Rattle.smf.specs.Wire.{RawEvent, raw_event, Taken, taken, Reading, reads, refused, read_raw, encode_raw_event, running_after}
use Rattle.smf.specs.Kind.{Message, note_off, note_on, aftertouch, controller, program_change, channel_aftertouch, pitch_bend}
use Rattle.smf.specs.Kind.{Meta, track_number, no_track_number, text, midi_channel, midi_port, end_of_track, tempo, smpte_offset, time_signature, key_signature, sequencer_specific, unknown}
use Rattle.smf.specs.Kind.{Kind, midi, sys_ex, escape, meta, is_text, called, raw_of}

-- a delta and a kind, over what stands for a payload
pub record Event (P : Type 0) : Type 0 where
  pub delta : ℕ
  pub kind : Kind P

-- the event of a delta and a kind
abbrev pub event : {P : Type 0} → ℕ → Kind P → Event P
event delta kind = record { delta = delta; kind = kind }

-- a meta message with something else standing for its payload
unfoldable pub map_meta : {P Q : Type 0} → (P → Q) → Meta P → Meta Q
map_meta f (track_number n) = track_number n
map_meta f no_track_number = no_track_number
map_meta f (text t p) = text t (f p)
map_meta f (midi_channel c) = midi_channel c
map_meta f (midi_port c) = midi_port c
map_meta f end_of_track = end_of_track
map_meta f (tempo v) = tempo v
map_meta f (smpte_offset time) = smpte_offset time
map_meta f (time_signature a b c d) = time_signature a b c d
map_meta f (key_signature sharps minor) = key_signature sharps minor
map_meta f (sequencer_specific p) = sequencer_specific (f p)
map_meta f (unknown t p) = unknown t (f p)

-- a kind with something else standing for its payload
unfoldable pub map_kind : {P Q : Type 0} → (P → Q) → Kind P → Kind Q
map_kind f (midi channel message) = midi channel message
map_kind f (sys_ex p) = sys_ex (f p)
map_kind f (escape p) = escape (f p)
map_kind f (meta m) = meta (map_meta f m)

-- an event with something else standing for its payload; its delta stays what it is
unfoldable pub map_event : {P Q : Type 0} → (P → Q) → Event P → Event Q
map_event f e = event e.delta (map_kind f e.kind)

-- Reading

-- an event named: 12, 13 and 14 leave no running status, as every meta event does
unfoldable pub named : Taken RawEvent → Answer (Kind (List ℕ)) → Reading (Taken (Event (List ℕ)))
named t (gives kind) = reads (taken (event t.value.delta kind) t.rest t.running t.padding)
named t (refuses n) = refused n t.running

-- a raw event that was read, named; a refusal stays what it is
unfoldable pub name_raw : Rules → Reading (Taken RawEvent) → Reading (Taken (Event (List ℕ)))
name_raw rules (reads t) = named t (called rules t.value.raw)
name_raw rules (refused n running) = refused n running

-- the event that the bytes begin with
unfoldable pub read_event : Rules → ℕ → List ℕ → Reading (Taken (Event (List ℕ)))
read_event rules running s = name_raw rules (read_raw rules running s)

-- an event read at a place: payloads as start and length in the bytes lent, the bytes used, the running status after, the padding of its numbers
pub record EventAt : Type 0 where
  pub event : Event Span
  pub used : ℕ
  pub running : ℕ
  pub padding : ℕ

-- a payload ends where its event ends
abbrev pub span_before : ℕ → List ℕ → Span
span_before end p = record { start = end - length p; length = length p }

-- an event that was read from a place on, with its payload as a range of the bytes lent
abbrev pub event_placed : List ℕ → ℕ → Taken (Event (List ℕ)) → EventAt
event_placed s at t =
    record {
      event = map_event (span_before (place_of s at t.rest)) t.value;
      used = length (drop at s) - length t.rest;
      running = t.running;
      padding = t.padding;
    }

-- what reading an event at a place answers: the event; or the number of a refusal, the bytes used, the running status that it leaves and the padding
pub data ReadAt : Type 0 where
  reads_at : EventAt → ReadAt
  refused_at : (number used running padding : ℕ) → ReadAt

-- document 01: a refused read of one event gives the number, 0 bytes used and the running status the Rust is left with; document 02, Q-2: and padding 0
unfoldable pub placed : List ℕ → ℕ → Reading (Taken (Event (List ℕ))) → ReadAt
placed s at (reads t) = reads_at (event_placed s at t)
placed s at (refused n running) = refused_at n 0 running 0

-- the event at a place
unfoldable pub event_at : Rules → ℕ → List ℕ → ℕ → ReadAt
event_at rules running s at = placed s at (read_event rules running (drop at s))

-- Writing

-- document 01, refusal 18: each restricted field within its width, an SMPTE time within its ranges; an `Unknown`'s type is a byte of the record, and is not tested
unfoldable pub message_fits : Rules → Message → Bool
message_fits rules (note_off key vel) = ltb key 128 && ltb vel 128
message_fits rules (note_on key vel) = ltb key 128 && ltb vel 128
message_fits rules (aftertouch key vel) = ltb key 128 && ltb vel 128
message_fits rules (controller number value) = ltb number 128 && ltb value 128
message_fits rules (program_change program) = ltb program 128
message_fits rules (channel_aftertouch vel) = ltb vel 128
message_fits rules (pitch_bend raw) = ltb raw 16384

-- whether the fields of a meta message are within their widths, and an SMPTE time within its ranges
unfoldable pub meta_fits : {P : Type 0} → Rules → Meta P → Bool
meta_fits rules (track_number n) = ltb n 65536
meta_fits rules no_track_number = true
meta_fits rules (text t p) = is_text t
meta_fits rules (midi_channel c) = ltb c 16
meta_fits rules (midi_port c) = ltb c 128
meta_fits rules end_of_track = true
meta_fits rules (tempo v) = ltb v 16777216
meta_fits rules (smpte_offset time) = is_time rules time
meta_fits rules (time_signature a b c d) = ltb a 256 && ltb b 256 && ltb c 256 && ltb d 256
meta_fits rules (key_signature sharps minor) = ltb (mag sharps) 128
meta_fits rules (sequencer_specific p) = true
meta_fits rules (unknown t p) = true

-- whether the fields of a kind are within their widths: a channel has four bits
unfoldable pub kind_fits : {P : Type 0} → Rules → Kind P → Bool
kind_fits rules (midi channel message) = ltb channel 16 && message_fits rules message
kind_fits rules (sys_ex p) = true
kind_fits rules (escape p) = true
kind_fits rules (meta m) = meta_fits rules m

-- what a kind carries: no payload; one under the kind's own name; or one that an `Unknown` names by its type
pub data Carried (P : Type 0) : Type 0 where
  nothing : Carried P
  owned : P → Carried P
  untold : ℕ → P → Carried P

-- what a meta message carries
unfoldable pub meta_carries : {P : Type 0} → Meta P → Carried P
meta_carries (track_number n) = nothing
meta_carries no_track_number = nothing
meta_carries (text t p) = owned p
meta_carries (midi_channel c) = nothing
meta_carries (midi_port c) = nothing
meta_carries end_of_track = nothing
meta_carries (tempo v) = nothing
meta_carries (smpte_offset time) = nothing
meta_carries (time_signature a b c d) = nothing
meta_carries (key_signature sharps minor) = nothing
meta_carries (sequencer_specific p) = owned p
meta_carries (unknown t p) = untold t p

-- what a kind carries
unfoldable pub carries : {P : Type 0} → Kind P → Carried P
carries (midi channel message) = nothing
carries (sys_ex p) = owned p
carries (escape p) = owned p
carries (meta m) = meta_carries m

-- what stands for the payload, where there is one; else another
abbrev pub load_or : {P : Type 0} → P → Carried P → P
load_or none nothing = none
load_or none (owned p) = p
load_or none (untold t p) = p

-- what stands for the payload of a kind
abbrev pub kind_load : {P : Type 0} → P → Kind P → P
kind_load none k = load_or none (carries k)

-- document 01, refusal 23: types 00..09, 2F, 59, 7F always, and 20, 21, 51, 54, 58 at the lengths where they are named
unfoldable pub is_named : Rules → ℕ → ℕ → Bool
is_named rules t n =
    leb t 0x09
    || eqb t 0x2F
    || eqb t 0x59
    || eqb t 0x7F
    || (eqb t 0x20 && leb 1 n)
    || (eqb t 0x21 && leb 1 n)
    || (eqb t 0x51 && leb 3 n)
    || (eqb t 0x54 && leb 5 n)
    || (eqb t 0x58 && leb 4 n)

-- an `Unknown` that would read as a named kind, or be refused as 59 is, by its payload's length
abbrev pub misnamed : {P : Type 0} → Rules → (P → ℕ) → Carried P → Bool
misnamed rules size nothing = false
misnamed rules size (owned p) = false
misnamed rules size (untold t p) = is_named rules t (size p)

-- whether a kind is an `Unknown` that would be read as another, or be refused
abbrev pub kind_misnamed : {P : Type 0} → Rules → (P → ℕ) → Kind P → Bool
kind_misnamed rules size k = misnamed rules size (carries k)

-- the range that stands for no payload: it is inside any bytes
abbrev pub no_span : Span
no_span = record { start = 0; length = 0 }

-- how long the payload of a range is
abbrev pub span_length : Span → ℕ
span_length span = span.length

-- the event that a record is over given payload bytes; where it is none, the first of these numbers whose test does not hold
unfoldable pub legal : Rules → List ℕ → Event Span → Answer (Event (List ℕ))
legal rules bytes e =
    unless (ltb e.delta (2 ^ 28) && kind_fits rules e.kind) 18
    (unless (inside bytes (kind_load no_span e.kind)) 19
    (unless (ltb (span_length (kind_load no_span e.kind)) (2 ^ 28)) 22
    (unless (not (kind_misnamed rules span_length e.kind)) 23
    (gives (map_event (bytes_of bytes) e)))))

-- the shortest bytes of an event, from a running status
unfoldable pub encode_event : ℕ → Event (List ℕ) → List ℕ
encode_event running e = encode_raw_event running (raw_event e.delta (raw_of e.kind))

-- the running status after an event
abbrev pub event_after : Event (List ℕ) → ℕ
event_after e = running_after (raw_of e.kind)

-- what writing an event leaves in the buffer and answers, and the running status after it; as given where it is refused
pub record EventWritten : Type 0 where
  pub written : Written
  pub running : ℕ

-- the running status that a write leaves: the one after the event, or as given where it was refused
abbrev pub running_left : ℕ → ℕ → Answer ℕ → ℕ
running_left before after (gives n) = after
running_left before after (refuses n) = before

-- a write of an event, from the running status before it to the one after it
abbrev pub event_written : ℕ → ℕ → Written → EventWritten
event_written before after w = record { written = w; running = running_left before after w.answer }

-- a refused write changes no byte and no running status
abbrev pub event_left : ℕ → List ℕ → ℕ → EventWritten
event_left running buffer n = record { written = left buffer n; running = running }

-- an event as it was judged: what forbids it comes before 20, where there is no room for it
unfoldable pub write_judged : ℕ → Answer (Event (List ℕ)) → List ℕ → ℕ → EventWritten
write_judged running (gives e) buffer at = event_written running (event_after e) (put (encode_event running e) buffer at)
write_judged running (refuses n) buffer at = event_left running buffer n

-- document 01: 1 comes first
unfoldable pub write_event : ℕ → Answer (Event (List ℕ)) → List ℕ → ℕ → EventWritten
write_event running judged buffer at = pick (is_running running) (write_judged running judged buffer at) (event_left running buffer 1)

-- document 01, "Lists": two events are the same when deltas, kinds, fields and payload bytes agree; starts don't count
abbrev pub Same : List ℕ → Event Span → List ℕ → Event Span → Type 0
Same bytes e bytes' e' = map_event (bytes_of bytes) e ≡ map_event (bytes_of bytes') e'
