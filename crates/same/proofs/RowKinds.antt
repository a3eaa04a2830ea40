-- From the numbers of a row and the bytes of its payload back to the kind: kinds are the same where their numbers and bytes agree,
-- and nowhere else.
use Rattle.std.specs.Prelude.{None, Some}
use mathlib.Core.Path.{◌≡◌, refl, sym, ap, ap₂, subst, ◌∙◌}
use mathlib.Core.Bool.{Bool, true, false}
use mathlib.Core.List.{List, []}
use Prim.Native.Nat.{ℕ, ◌-◌, ◌<◌}
use lib.Dec.{ltb, eqb}
use lib.IntN.{ℤ}
use lib.Signed.{mag}
use lib.ListN.{take, get_or}
use mir.Val.{Val}
use denote.Laws.{Is}
use denote.Enum.Declared.{row}
use borrow.Author.Rules.{rules}
use Rattle.smf.specs.Answer.{pick}
use Rattle.smf.specs.Place.{Span, bytes_of}
use Rattle.smf.specs.Signed.{signed_byte}
use Rattle.smf.specs.Smpte.{time}
use Rattle.smf.specs.Kind as kind
use Rattle.smf.specs.Event.{map_meta, map_kind, meta_carries, carries, kind_load, no_span}
use Rattle.smf.proofs.Signed.{signed_back}
use Rattle.midi.specs.declared.MidiMessage.TheVariants as midi
use Rattle.meta.specs.declared.MetaMessage.TheVariants as meta
use Rattle.event.specs.Event.{kind_of}
use Rattle.event.specs.declared.TrackEventKind.{TrackEventKind}
use Rattle.event.specs.declared.TrackEventKind.TheVariants as track
use Rattle.event.specs.contracts.TrackEventKind.{the_type}
use Rattle.rows.specs.Rows.{row_numbers, kind_row}
use Rattle.rows.specs.declared.Row.{Row}
use Rattle.same.specs.Same.{Tells, span, row_fields, load_span}
use Rattle.same.proofs.SameTests.{tells_too}

-- of a row's numbers behind its delta, the first seven are compared, and the last two say where the payload is
abbrev fields : List ℕ → List ℕ
fields = take 7

abbrev place : List ℕ → Span
place l = span (get_or l 7 0) (get_or l 8 0)

-- the way back, over the kind's number, its fields and its payload bytes
back_message : ℕ → ℕ → ℕ → kind.Message
back_message number b c =
    pick (eqb number 8) (kind.note_off b c)
    (pick (eqb number 9) (kind.note_on b c)
    (pick (eqb number 10) (kind.aftertouch b c)
    (pick (eqb number 11) (kind.controller b c)
    (pick (eqb number 12) (kind.program_change b)
    (pick (eqb number 13) (kind.channel_aftertouch b)
    (kind.pitch_bend b))))))

back_meta : ℕ → ℕ → ℕ → ℕ → ℕ → ℕ → ℕ → List ℕ → kind.Meta (List ℕ)
back_meta type a b c d e f p =
    pick (eqb type 0x00) (pick (eqb a 0) kind.no_track_number (kind.track_number b))
    (pick (ltb type 0x0A) (kind.text type p)
    (pick (eqb type 0x20) (kind.midi_channel a)
    (pick (eqb type 0x21) (kind.midi_port a)
    (pick (eqb type 0x2F) kind.end_of_track
    (pick (eqb type 0x51) (kind.tempo a)
    (pick (eqb type 0x54) (kind.smpte_offset (time a b c d e f))
    (pick (eqb type 0x58) (kind.time_signature a b c d)
    (pick (eqb type 0x59) (kind.key_signature (signed_byte a) (eqb b 1))
    (kind.sequencer_specific p)))))))))

back_kind : ℕ → ℕ → ℕ → ℕ → ℕ → ℕ → ℕ → List ℕ → kind.Kind (List ℕ)
back_kind number a b c d e f p =
    pick (ltb number 0xF0) (kind.midi a (back_message number b c))
    (pick (eqb number 0xF0) (kind.sys_ex p)
    (pick (eqb number 0xF7) (kind.escape p)
    (pick (eqb number 0x200) (kind.meta (kind.unknown a p))
    (kind.meta (back_meta (number - 0x100) a b c d e f p)))))

back : List ℕ → List ℕ → kind.Kind (List ℕ)
back l = back_kind (get_or l 0 0) (get_or l 1 0) (get_or l 2 0) (get_or l 3 0) (get_or l 4 0) (get_or l 5 0) (get_or l 6 0)

-- it leads back from every kind that the code has: its text kinds have the types 01 to 09, and its sharps are those of a signed byte
small : (sharps : ℤ) (minor : Bool) (vs : List Val) → Is (row the_type) (track.Meta (meta.KeySignature sharps minor)) vs → mag sharps < 128
small sharps minor vs h = search rules

abbrev Back : List ℕ → TrackEventKind → Type 0
Back s k = back (fields (kind_row (kind_of k))) (bytes_of s (place (kind_row (kind_of k)))) ≡ map_kind (bytes_of s) (kind_of k)

key_back : (s : List ℕ) (sharps : ℤ) (minor : Bool) → mag sharps < 128 → Back s (track.Meta (meta.KeySignature sharps minor))
unfolding back back_kind back_meta map_kind map_meta
key_back s sharps true h = ap (λ (z : ℤ). kind.meta (kind.key_signature z true)) (signed_back sharps h)
key_back s sharps false h = ap (λ (z : ℤ). kind.meta (kind.key_signature z false)) (signed_back sharps h)

kind_back : (s : List ℕ) (k : TrackEventKind) (vs : List Val) → Is (row the_type) k vs → Back s k
unfolding back back_kind back_message back_meta map_kind map_meta
kind_back s (track.Midi channel (midi.NoteOff key vel)) vs h = refl
kind_back s (track.Midi channel (midi.NoteOn key vel)) vs h = refl
kind_back s (track.Midi channel (midi.Aftertouch key vel)) vs h = refl
kind_back s (track.Midi channel (midi.Controller number value)) vs h = refl
kind_back s (track.Midi channel (midi.ProgramChange program)) vs h = refl
kind_back s (track.Midi channel (midi.ChannelAftertouch vel)) vs h = refl
kind_back s (track.Midi channel (midi.PitchBend bend)) vs h = refl
kind_back s (track.SysEx r) vs h = refl
kind_back s (track.Escape r) vs h = refl
kind_back s (track.Meta (meta.TrackNumber (Some n))) vs h = refl
kind_back s (track.Meta (meta.TrackNumber None)) vs h = refl
kind_back s (track.Meta (meta.Text r)) vs h = refl
kind_back s (track.Meta (meta.Copyright r)) vs h = refl
kind_back s (track.Meta (meta.TrackName r)) vs h = refl
kind_back s (track.Meta (meta.InstrumentName r)) vs h = refl
kind_back s (track.Meta (meta.Lyric r)) vs h = refl
kind_back s (track.Meta (meta.Marker r)) vs h = refl
kind_back s (track.Meta (meta.CuePoint r)) vs h = refl
kind_back s (track.Meta (meta.ProgramName r)) vs h = refl
kind_back s (track.Meta (meta.DeviceName r)) vs h = refl
kind_back s (track.Meta (meta.MidiChannel c)) vs h = refl
kind_back s (track.Meta (meta.MidiPort c)) vs h = refl
kind_back s (track.Meta meta.EndOfTrack) vs h = refl
kind_back s (track.Meta (meta.Tempo v)) vs h = refl
kind_back s (track.Meta (meta.SmpteOffset time)) vs h = refl
kind_back s (track.Meta (meta.TimeSignature a b c d)) vs h = refl
kind_back s (track.Meta (meta.KeySignature sharps minor)) vs h = key_back s sharps minor (small sharps minor vs h)
kind_back s (track.Meta (meta.SequencerSpecific r)) vs h = refl
kind_back s (track.Meta (meta.Unknown t r)) vs h = refl

-- The numbers do not depend on the payload, and so are those of the kind over its bytes
fields_of : kind.Kind (List ℕ) → List ℕ
fields_of k = fields (kind_row (map_kind (λ (p : List ℕ). no_span) k))

meta_fields : (f : Span → List ℕ) (m : kind.Meta Span) → fields_of (map_kind f (kind.meta m)) ≡ fields (kind_row (kind.meta m))
unfolding fields_of map_kind map_meta
meta_fields f (kind.track_number n) = refl
meta_fields f kind.no_track_number = refl
meta_fields f (kind.text t p) = refl
meta_fields f (kind.midi_channel c) = refl
meta_fields f (kind.midi_port c) = refl
meta_fields f kind.end_of_track = refl
meta_fields f (kind.tempo v) = refl
meta_fields f (kind.smpte_offset t) = refl
meta_fields f (kind.time_signature a b c d) = refl
meta_fields f (kind.key_signature sharps minor) = refl
meta_fields f (kind.sequencer_specific p) = refl
meta_fields f (kind.unknown t p) = refl

kind_fields : (f : Span → List ℕ) (k : kind.Kind Span) → fields_of (map_kind f k) ≡ fields (kind_row k)
unfolding fields_of map_kind
kind_fields f (kind.midi channel message) = refl
kind_fields f (kind.sys_ex p) = refl
kind_fields f (kind.escape p) = refl
kind_fields f (kind.meta m) = meta_fields f m

-- the payload's bytes are the kind's own; none where it has no payload
abbrev Load : List ℕ → kind.Kind Span → Type 0
Load s k = kind_load [] (map_kind (bytes_of s) k) ≡ bytes_of s (place (kind_row k))

midi_load : (s : List ℕ) (channel : ℕ) (m : kind.Message) → Load s (kind.midi channel m)
unfolding map_kind carries bytes_of
midi_load s channel (kind.note_off key vel) = refl
midi_load s channel (kind.note_on key vel) = refl
midi_load s channel (kind.aftertouch key vel) = refl
midi_load s channel (kind.controller number value) = refl
midi_load s channel (kind.program_change program) = refl
midi_load s channel (kind.channel_aftertouch vel) = refl
midi_load s channel (kind.pitch_bend raw) = refl

meta_load : (s : List ℕ) (m : kind.Meta Span) → Load s (kind.meta m)
unfolding map_kind map_meta carries meta_carries bytes_of
meta_load s (kind.track_number n) = refl
meta_load s kind.no_track_number = refl
meta_load s (kind.text t p) = refl
meta_load s (kind.midi_channel c) = refl
meta_load s (kind.midi_port c) = refl
meta_load s kind.end_of_track = refl
meta_load s (kind.tempo v) = refl
meta_load s (kind.smpte_offset t) = refl
meta_load s (kind.time_signature a b c d) = refl
meta_load s (kind.key_signature sharps minor) = refl
meta_load s (kind.sequencer_specific p) = refl
meta_load s (kind.unknown t p) = refl

kind_load_lem : (s : List ℕ) (k : kind.Kind Span) → Load s k
unfolding map_kind carries
kind_load_lem s (kind.midi channel message) = midi_load s channel message
kind_load_lem s (kind.sys_ex p) = refl
kind_load_lem s (kind.escape p) = refl
kind_load_lem s (kind.meta m) = meta_load s m

-- the same of a row that has the numbers of a kind
module _ (s : List ℕ) (k : TrackEventKind) (r : Row) (numbers : row_numbers r ≡ kind_row (kind_of k)) where
  row_back : (vs : List Val) → Is (row the_type) k vs → back (row_fields r) (bytes_of s (load_span r)) ≡ map_kind (bytes_of s) (kind_of k)
  row_back vs h = ap (λ (l : List ℕ). back (fields l) (bytes_of s (place l))) numbers ∙ kind_back s k vs h

  row_fields_lem : fields_of (map_kind (bytes_of s) (kind_of k)) ≡ row_fields r
  row_fields_lem = kind_fields (bytes_of s) (kind_of k) ∙ ap fields (sym numbers)

  row_load_lem : kind_load [] (map_kind (bytes_of s) (kind_of k)) ≡ bytes_of s (load_span r)
  row_load_lem = kind_load_lem s (kind_of k) ∙ ap (λ (l : List ℕ). bytes_of s (place l)) (sym numbers)

module _ (s t : List ℕ) (k l : TrackEventKind) (q r : Row) (numbers : row_numbers q ≡ kind_row (kind_of k)) (numbers' : row_numbers r ≡ kind_row (kind_of l)) where
  abbrev SameKind : Type 0
  SameKind = map_kind (bytes_of s) (kind_of k) ≡ map_kind (bytes_of t) (kind_of l)

  abbrev SameFields : Type 0
  SameFields = row_fields q ≡ row_fields r

  abbrev SameLoad : Type 0
  SameLoad = bytes_of s (load_span q) ≡ bytes_of t (load_span r)

  fields_agree : SameKind → SameFields
  fields_agree e = sym (row_fields_lem s k q numbers) ∙ ap fields_of e ∙ row_fields_lem t l r numbers'

  load_agrees : SameKind → SameLoad
  load_agrees e = sym (row_load_lem s k q numbers) ∙ ap (kind_load []) e ∙ row_load_lem t l r numbers'

  -- a test of the fields that fails tells the kinds apart; where it holds, the payload's test tells
  pub fields_differ : (b : Bool) → Tells b SameFields → b ≡ false → SameKind → ⊥
  fields_differ b told e same = subst (λ (x : Bool). Tells x SameFields) e told (fields_agree same)

  pub load_tells : (vs ws : List Val) → Is (row the_type) k vs → Is (row the_type) l ws
      → (b c : Bool) → Tells b SameFields → b ≡ true → Tells c SameLoad → Tells c SameKind
  load_tells vs ws h h' b c told e loads =
      let f : SameFields = subst (λ (x : Bool). Tells x SameFields) e told in
      tells_too SameLoad SameKind c loads (λ p. sym (row_back s k q numbers vs h) ∙ ap₂ back f p ∙ row_back t l r numbers' ws h') load_agrees
