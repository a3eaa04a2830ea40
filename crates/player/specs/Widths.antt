-- Which lists a player takes. Document 02, Q-1: 21, then 18 for a delta or restricted field of any event above its width. An SMPTE time and a payload's
-- range are no restricted fields, and are not looked at.
use Rattle.std.specs.Prelude.{Bool, true, ◌&&◌, List, [], ◌∷◌, ℕ, ◌^◌, ltb, leb, take}
use Rattle.smf.specs.Answer.{Answer, gives, unless}
use Rattle.smf.specs.Kind.{Message, note_off, note_on, aftertouch, controller, program_change, channel_aftertouch, pitch_bend}
use Rattle.smf.specs.Kind.{Meta, track_number, no_track_number, text, midi_channel, midi_port, end_of_track, tempo, smpte_offset, time_signature, key_signature, sequencer_specific, unknown}
use Rattle.smf.specs.Kind.{Kind, midi, sys_ex, escape, meta}
use Rattle.smf.specs.Event.{Event}

-- whether a number is one of so many bits
abbrev pub within : ℕ → ℕ → Bool
within w x = ltb x (2 ^ w)

-- module 1 of document 01: keys and other data bytes are u7, bends u14
unfoldable pub message_within : Message → Bool
message_within (note_off key vel) = within 7 key && within 7 vel
message_within (note_on key vel) = within 7 key && within 7 vel
message_within (aftertouch key vel) = within 7 key && within 7 vel
message_within (controller number value) = within 7 number && within 7 value
message_within (program_change program) = within 7 program
message_within (channel_aftertouch vel) = within 7 vel
message_within (pitch_bend raw) = within 14 raw

-- a channel is u4, a port u7, a tempo u24; no other meta message has a restricted field
unfoldable pub meta_within : {P : Type 0} → Meta P → Bool
meta_within (track_number n) = true
meta_within no_track_number = true
meta_within (text t p) = true
meta_within (midi_channel c) = within 4 c
meta_within (midi_port c) = within 7 c
meta_within end_of_track = true
meta_within (tempo v) = within 24 v
meta_within (smpte_offset time) = true
meta_within (time_signature a b c d) = true
meta_within (key_signature sharps minor) = true
meta_within (sequencer_specific p) = true
meta_within (unknown t p) = true

-- a channel is u4
unfoldable pub kind_within : {P : Type 0} → Kind P → Bool
kind_within (midi channel message) = within 4 channel && message_within message
kind_within (sys_ex p) = true
kind_within (escape p) = true
kind_within (meta m) = meta_within m

-- a delta is u28
unfoldable pub event_within : {P : Type 0} → Event P → Bool
event_within e = within 28 e.delta && kind_within e.kind

-- whether all events are within their widths
unfoldable pub all_within : {P : Type 0} → List (Event P) → Bool
all_within [] = true
all_within (e ∷ es) = event_within e && all_within es

-- the events that a list counts: 21 above what it may hold, then 18; what stands past the count is not looked at
unfoldable pub accepted : {P : Type 0} → ℕ → List (Event P) → ℕ → Answer (List (Event P))
accepted most records count =
    unless (leb count most) 21 (unless (all_within (take count records)) 18 (gives (take count records)))
