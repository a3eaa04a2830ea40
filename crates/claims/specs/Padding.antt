-- Document 02, Q-2: what is written has no padding, and a number has none exactly where it stands in its shortest form. What padding is of SMF's forms is
-- said with those, in `SmfForms.antt`; that a list's is the sum over its events, with what stands in bytes, in `Stands.antt`.
use Rattle.std.specs.Prelude.{◌≡◌, true, ◌↔◌, List, [], ◌∷◌, ◌++◌, map, ℕ, ◌*◌, ◌≤◌, length, take, drop}
use Rattle.smf.specs.Answer.{Answer, gives, refuses, strict_of}
use Rattle.smf.specs.Number.{encode_number}
use Rattle.smf.specs.Place.{NumberAt, number_at}
use Rattle.smf.specs.Kind.{note_on, text, tempo, midi, meta}
use Rattle.smf.specs.Event.{event, EventAt, ReadAt, reads_at, refused_at, event_at}
use Rattle.smf.specs.Lists.{stopped, list_at, wrote}
use Rattle.base.specs.Rules.{rules_of}
use Rattle.number.specs.Varlen.{number_read_of, written_to}
use Rattle.event.specs.Event.{event_read}
use Rattle.track.specs.List.{capacity}
use Rattle.rows.specs.Rows.{width}
use Rattle.write.specs.Wrote.{wrote_event}
use Rattle.write.specs.ListAnswers.{wrote_list}
use Rattle.loader.specs.Entry.{from_bits}
use Rattle.loader.proofs as loader
use Rattle.loader_track.proofs as loader_track
use Rattle.claims.specs.Calls.{Always, ReadU7, WriteVarlen, TrackEventRead, WriteEvent, EventListRead, WriteList}
use Rattle.claims.specs.EntryCalls.{number_read_entry, number_write_entry, event_read_entry, event_write_entry, list_read_entry, list_write_entry}
use Rattle.claims.specs.Worked.{strict_rules, lenient_rules, span_from, no_status}
use Rattle.claims.specs.Point3.{Bytes}
use Rattle.claims.specs.SmfForms.{between}

-- Worked by hand

-- the paddings of the numbers that bytes begin with, read leniently; 99 would be a refusal
abbrev pub padding_read : Answer NumberAt → ℕ
padding_read (gives m) = m.padding
padding_read (refuses n) = 99

abbrev pub paddings_read : List (List ℕ) → List ℕ
paddings_read bytes = map (λ s. padding_read (number_at lenient_rules s 0)) bytes

-- no byte at all; 80 and 80 80, cut off; four bytes that go on; 0 in two bytes; 128 in its own two, and in four
abbrev pub NumbersWorked : Type 0
NumbersWorked =
    paddings_read
    ([]
    ∷ (0x80 ∷ [])
    ∷ (0x80 ∷ 0x80 ∷ [])
    ∷ (0x80 ∷ 0x80 ∷ 0x80 ∷ 0x80 ∷ [])
    ∷ (0x80 ∷ 0x00 ∷ [])
    ∷ (0x81 ∷ 0x00 ∷ [])
    ∷ (0x80 ∷ 0x80 ∷ 0x81 ∷ 0x00 ∷ [])
    ∷ [])
    ≡ 0 ∷ 0 ∷ 1 ∷ 3 ∷ 1 ∷ 0 ∷ 2 ∷ []

-- an event of these bytes, read strictly from no running status
abbrev pub read_strictly : List ℕ → ReadAt
read_strictly bytes = event_at strict_rules no_status bytes 0

-- a note behind a delta of two bytes for 0; a tempo whose delta and length have a byte too many each; the first without its second data byte
abbrev pub EventsWorked : Type 0
EventsWorked =
    map read_strictly
    ((0x80 ∷ 0x00 ∷ 0x90 ∷ 0x3C ∷ 0x40 ∷ [])
    ∷ (0x80 ∷ 0x00 ∷ 0xFF ∷ 0x51 ∷ 0x80 ∷ 0x03 ∷ 0x07 ∷ 0xA1 ∷ 0x20 ∷ [])
    ∷ (0x80 ∷ 0x00 ∷ 0x90 ∷ 0x3C ∷ [])
    ∷ [])
    ≡ reads_at (record { event = event 0 (midi 0 (note_on 60 64)); used = 5; running = 0x90; padding = 1 })
    ∷ reads_at (record { event = event 0 (meta (tempo 500000)); used = 9; running = no_status; padding = 2 })
    ∷ refused_at 8 0 0x90 0
    ∷ []

-- a text of five bytes by its length, 80 05, of which two are there: lenient reading takes these, and the length's padding counts
abbrev pub CutWorked : Type 0
CutWorked =
    event_at lenient_rules no_status (0x80 ∷ 0x00 ∷ 0xFF ∷ 0x01 ∷ 0x80 ∷ 0x05 ∷ 0x61 ∷ 0x62 ∷ []) 0
    ≡ reads_at (record { event = event 0 (meta (text 1 (span_from 6 2))); used = 8; running = no_status; padding = 2 })

-- two notes with a padded delta each, and a third, its delta padded by two, that is refused
abbrev pub ListWorked : Type 0
ListWorked =
    list_at lenient_rules capacity no_status (0x80 ∷ 0x00 ∷ 0x90 ∷ 0x3C ∷ 0x40 ∷ 0x80 ∷ 0x00 ∷ 0x3C ∷ 0x00 ∷ 0x80 ∷ 0x80 ∷ 0x00 ∷ 0x3C ∷ []) 0
    ≡ record { events = event 0 (midi 0 (note_on 60 64)) ∷ event 0 (midi 0 (note_on 60 0)) ∷ []; stop = stopped 8; place = 9; running = 0x90; padding = 2 }

pub record PaddingWorked : Type 0 where
  pub numbers : NumbersWorked
  pub events : EventsWorked
  pub cut : CutWorked
  pub list : ListWorked

-- Whatever is read and written

-- a number that is read strictly has none exactly where its bytes are the shortest that hold it
abbrev pub ShortestExactly : Type 0
ShortestExactly =
    ReadU7 (λ raw at rules r. (m : NumberAt) → rules.strict ≡ true → Bytes raw → number_read_of r ≡ gives m
    → (m.padding ≡ 0) ↔ (between at m.next raw ≡ encode_number m.value))

-- what is written has none, wherever its bytes stand and whatever follows: a number
abbrev pub NumberUnpadded : Type 0
NumberUnpadded =
    WriteVarlen (λ self out at r end. (n : ℕ) → written_to r ≡ gives n
    → ReadU7 (λ raw at' rules r'. (rest : List ℕ) → drop at' raw ≡ between at n end ++ rest
    → (m : NumberAt) × (number_read_of r' ≡ gives m) × (m.value ≡ self.0) × (m.padding ≡ 0)))

-- an event, from the same running status and by the same rules, strict or not
abbrev pub EventUnpadded : Type 0
EventUnpadded =
    WriteEvent (λ event running rules bytes out at r end. (n : ℕ) → (wrote_event r end).written.answer ≡ gives n
    → TrackEventRead (λ raw at' running' rules' r'. (rest : List ℕ) → drop at' raw ≡ between at n end ++ rest
    → running'.status ≡ running.status → strict_of (rules_of rules') ≡ strict_of (rules_of rules)
    → (a : EventAt) × (event_read r' ≡ reads_at a) × (a.padding ≡ 0)))

-- a list, read strictly
abbrev pub ListUnpadded : Type 0
ListUnpadded =
    WriteList (λ list running rules bytes out r end. (n : ℕ) → (wrote_list r end).answer ≡ wrote n
    → EventListRead (λ raw at running' rules' r'. raw ≡ take n end → at ≡ 0 → running'.status ≡ running.status
    → rules_of rules' ≡ strict_of (rules_of rules) → r'.padding ≡ 0))

pub record Padding : Type 0 where
  pub worked : PaddingWorked
  pub number : ShortestExactly
  pub written_number : NumberUnpadded
  pub written_event : EventUnpadded
  pub written_list : ListUnpadded

-- The same of the exported entries, which is what is linked

abbrev pub EntryShortestExactly : Type 0
EntryShortestExactly =
    Always loader.numbers.apk_number_read.Reads.Learnt (number_read_entry (λ bytes at bits value next padding r.
    r ≡ 0 → (from_bits bits).strict ≡ true → Bytes bytes → (padding.after ≡ 0) ↔ (between at next.after bytes ≡ encode_number value.after)))

abbrev pub EntryNumberUnpadded : Type 0
EntryNumberUnpadded =
    Always loader.numbers.apk_number_write.Reads.Learnt (number_write_entry (λ value out at next r.
    r ≡ 0 → Always loader.numbers.apk_number_read.Reads.Learnt (number_read_entry (λ bytes at' bits value' next' padding r'.
    (rest : List ℕ) → drop at' bytes ≡ between at next.after out.after ++ rest
    → (r' ≡ 0) × (value'.after ≡ value) × (padding.after ≡ 0)))))

abbrev pub EntryEventUnpadded : Type 0
EntryEventUnpadded =
    Always loader_track.events.apk_event_write.Reads.Learnt (event_write_entry (λ row payload running bits out at next after r.
    r ≡ 0 → Always loader_track.events.apk_event_read.Reads.Learnt (event_read_entry (λ bytes at' running' bits' row' used after' padding r'.
    (rest : List ℕ) → drop at' bytes ≡ between at next.after out.after ++ rest → running' ≡ running
    → strict_of (from_bits bits') ≡ strict_of (from_bits bits) → (r' ≡ 0) × (padding.after ≡ 0)))))

-- a list, into cells enough for its rows
abbrev pub EntryListUnpadded : Type 0
EntryListUnpadded =
    Always loader_track.list_write.apk_list_write.Reads.Learnt (list_write_entry (λ rows count payload running bits out long after index r.
    r ≡ 0 → Always loader_track.list_read.apk_list_read.Reads.Learnt (list_read_entry (λ bytes at running' bits' cells count' place after' padding r'.
    bytes ≡ take long.after out.after → at ≡ 0 → running' ≡ running → from_bits bits' ≡ strict_of (from_bits bits)
    → count * width ≤ length cells.before → padding.after ≡ 0))))

pub record EntryPadding : Type 0 where
  pub number : EntryShortestExactly
  pub written_number : EntryNumberUnpadded
  pub written_event : EntryEventUnpadded
  pub written_list : EntryListUnpadded
