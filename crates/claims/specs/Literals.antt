-- The numbers, orders and forms that document 01 prints and no other claim names, each as a literal: of whatever a function's promise permits.
use Rattle.event.specs.declared.read.EventRefused.{EventRefused}
use Rattle.event.specs.declared.read.EventAt.{EventAt}
use Rattle.std.specs.Prelude.{◌≡◌, true, false, List, [], ◌∷◌, ◌++◌, map, ℕ, ◌+◌, ◌-◌, ◌*◌, ◌%◌, ◌≤◌, ◌<◌, leb, pos, ◌-ℤ◌, length, take, drop, replicate, Result}
use Rattle.std.specs.Float.{binary32}
use Rattle.std.specs.Float.Ieee.{to_bits}
use Rattle.smf.specs.Answer.{pick, Answer, gives, refuses}
use Rattle.smf.specs.Number.{read_number}
use Rattle.smf.specs.Place.{Span}
use Rattle.smf.specs.Running.{is_running}
use Rattle.smf.specs.Kind.{meta, end_of_track, unknown}
use Rattle.smf.specs.Event.{Event, event, ReadAt, reads_at, refused_at, event_at, legal, encode_event}
use Rattle.smf.specs.Lists.{records_judged, encode_list, ListAnswer, refuses_at}
use Rattle.base.specs.Restricted.{tried_u2, tried_u4, tried_u7, tried_u14, tried_u15, tried_u24}
use Rattle.base.specs.Rules.{rules_of}
use Rattle.base.specs.declared.Rules.{Rules}
use Rattle.base.specs.declared.Running.{Running}
use Rattle.base.proofs as base
use Rattle.number.specs.Varlen.{tried_u28, written_to}
use Rattle.number.proofs as number
use Rattle.header.specs.Fps.{rate_of, tried_fps}
use Rattle.header.specs.Smpte.{asked_position}
use Rattle.header.proofs as header
use Rattle.midi.specs.Bend.{bend_int}
use Rattle.midi.proofs as midi
use Rattle.event.specs.Event.{event_of, event_read}
use Rattle.event.specs.Lent.{Leaves}
use Rattle.event.proofs as events
use Rattle.track.specs.List.{record_of, held_of}
use Rattle.track.specs.Read.{list_read_of}
use Rattle.track.proofs as track
use Rattle.rows.specs.RowAnswer.{row_answer}
use Rattle.rows.specs.RowLists.{are_rows, rows_judged}
use Rattle.rows.proofs as rows
use Rattle.write.specs.Wrote.{wrote_event}
use Rattle.write.specs.ListAnswers.{wrote_list}
use Rattle.same.proofs as same
use Rattle.loader.proofs as loader
use Rattle.loader_track.specs.Same.{sameness_answered}
use Rattle.claims.specs.Calls.{Always, first, second, third, fourth, fifth, WriteVarlenSlice, EventListRead, WriteEvent, WriteList, WriteRows}
use Rattle.claims.specs.Table.{among}
use Rattle.claims.specs.Stands.{status_left}
use Rattle.claims.specs.SmfForms.{Unnamed}

-- whatever its promise permits, a function answers this
abbrev pub Answers : {L : Type 0} {A R E : L → Type 0} → ((κs : L) → A κs → R κs → E κs → Type 0) → {X : Type 0} → ((κs : L) → R κs → X) → ((κs : L) → A κs → X) → Type 0
Answers Told says is = Always Told (λ κs a z e. says κs z ≡ is κs a)

-- a number up to the largest is taken as it is, and one above it refused by 18
abbrev pub up_to : ℕ → ℕ → Answer ℕ
up_to largest x = pick (leb x largest) (gives x) (refuses 18)

-- document 01, module 1: the largest value of each restricted number, `new`, which keeps the low bits, and `try_from`
pub record Widths : Type 0 where
  pub u2_max_value : Answers base.int.U2Restricted.max_value.Reads.Learnt (λ κs z. z.0) (λ κs a. 3)
  pub u2_new : Answers base.int.U2Restricted.new.Reads.Learnt (λ κs z. z.0) (λ κs a. a.0 % 4)
  pub u2_try_from : Answers base.int.U2TryFromU8.try_from.Reads.Learnt (λ κs. tried_u2) (λ κs a. up_to 3 a.0)
  pub u4_max_value : Answers base.int.U4Restricted.max_value.Reads.Learnt (λ κs z. z.0) (λ κs a. 15)
  pub u4_new : Answers base.int.U4Restricted.new.Reads.Learnt (λ κs z. z.0) (λ κs a. a.0 % 16)
  pub u4_try_from : Answers base.int.U4TryFromU8.try_from.Reads.Learnt (λ κs. tried_u4) (λ κs a. up_to 15 a.0)
  pub u7_max_value : Answers base.int.U7Restricted.max_value.Reads.Learnt (λ κs z. z.0) (λ κs a. 127)
  pub u7_new : Answers base.int.U7Restricted.new.Reads.Learnt (λ κs z. z.0) (λ κs a. a.0 % 128)
  pub u7_try_from : Answers base.int.U7TryFromU8.try_from.Reads.Learnt (λ κs. tried_u7) (λ κs a. up_to 127 a.0)
  pub u14_max_value : Answers base.int.U14Restricted.max_value.Reads.Learnt (λ κs z. z.0) (λ κs a. 16383)
  pub u14_new : Answers base.int.U14Restricted.new.Reads.Learnt (λ κs z. z.0) (λ κs a. a.0 % 16384)
  pub u14_try_from : Answers base.int.U14TryFromU16.try_from.Reads.Learnt (λ κs. tried_u14) (λ κs a. up_to 16383 a.0)
  pub u15_max_value : Answers base.int.U15Restricted.max_value.Reads.Learnt (λ κs z. z.0) (λ κs a. 32767)
  pub u15_new : Answers base.int.U15Restricted.new.Reads.Learnt (λ κs z. z.0) (λ κs a. a.0 % 32768)
  pub u15_try_from : Answers base.int.U15TryFromU16.try_from.Reads.Learnt (λ κs. tried_u15) (λ κs a. up_to 32767 a.0)
  pub u24_max_value : Answers base.int.U24Restricted.max_value.Reads.Learnt (λ κs z. z.0) (λ κs a. 16777215)
  pub u24_new : Answers base.int.U24Restricted.new.Reads.Learnt (λ κs z. z.0) (λ κs a. a.0 % 16777216)
  pub u24_try_from : Answers base.int.U24TryFromU32.try_from.Reads.Learnt (λ κs. tried_u24) (λ κs a. up_to 16777215 a.0)
  pub u28_max_value : Answers number.varlen.U28Restricted.max_value.Reads.Learnt (λ κs z. z.0) (λ κs a. 268435455)
  pub u28_new : Answers number.varlen.U28Restricted.new.Reads.Learnt (λ κs z. z.0) (λ κs a. a.0 % 268435456)
  pub u28_try_from : Answers number.varlen.U28TryFromU32.try_from.Reads.Learnt (λ κs. tried_u28) (λ κs a. up_to 268435455 a.0)

-- document 01, "Bytes of an event" and "Bend values": rates, the position of a time, bends
pub record Values : Type 0 where
  -- the four rates, and 16 for no other; 29 frames stand for 30 / 1.001 of them, which are the bits 41EFC29E
  pub rates : Answers header.Fps.from_int.Reads.Learnt (λ κs. tried_fps)
      (λ κs a. pick (among (24 ∷ 25 ∷ 29 ∷ 30 ∷ []) a.0) (gives a.0) (refuses 16))
  pub frames : Always header.Fps.as_f32.Reads.Learnt (λ κs a z e.
      (rate_of a.0 ≡ 24 → to_bits binary32 z ≡ 0x41C00000) × (rate_of a.0 ≡ 25 → to_bits binary32 z ≡ 0x41C80000)
      × (rate_of a.0 ≡ 29 → to_bits binary32 z ≡ 0x41EFC29E) × (rate_of a.0 ≡ 30 → to_bits binary32 z ≡ 0x41F00000))
  -- ((3600 hour + 60 minute + second) times the rate's number + frame) times 100 + subframe
  pub position : Always header.SmpteTime.position.Reads.Learnt (λ κs a z e. (n : ℕ) → asked_position z ≡ gives n
      → n ≡ ((3600 * a.0.hour + 60 * a.0.minute + a.0.second) * rate_of a.0.fps + a.0.frame) * 100 + a.0.subframe)
  -- the signed bend runs from -8,192 to 8,191, raw less 8,192
  pub bend_min : Answers midi.PitchBend.min_raw_value.Reads.Learnt (λ κs z. z.0.0) (λ κs a. 0)
  pub bend_mid : Answers midi.PitchBend.mid_raw_value.Reads.Learnt (λ κs z. z.0.0) (λ κs a. 8192)
  pub bend_max : Answers midi.PitchBend.max_raw_value.Reads.Learnt (λ κs z. z.0.0) (λ κs a. 16383)
  pub bend_int : Answers midi.PitchBend.as_int.Reads.Learnt (λ κs. bend_int)
      (λ κs a. pick (leb a.0.0.0 16383) (gives (pos a.0.0.0 -ℤ pos 8192)) (refuses 18))

-- document 01, "Lists": records past the count are delta 0, `EndOfTrack`
abbrev pub past_count : Event Span
past_count = event 0 (meta end_of_track)

-- document 01, "Refusal numbers": the running status that is handed back, or stands behind the reference at the end: the one after the event, or
-- the one that the refusal leaves, as before, the status or none
abbrev pub LeftBehind : Rules → List ℕ → ℕ → Running → ReadAt → ℕ → Type 0
LeftBehind rules raw at running (reads_at a) left = left ≡ a.running
LeftBehind rules raw at running (refused_at n used after padding) left = left ≡ status_left running.status (read_number (rules_of rules) (drop at raw)) n

-- lists and payloads
pub record Records : Type 0 where
  -- a list has 128 records, and behind its count nothing but fillers
  pub list_new : Answers track.list.EventList.new.Reads.Learnt (λ κs z. held_of z) (λ κs a. record { records = replicate 128 past_count; count = 0 })
  pub list_read : EventListRead (λ raw at running rules r.
      (length (list_read_of r).list.records ≡ 128)
      × (drop (list_read_of r).list.count (list_read_of r).list.records ≡ replicate (128 - (list_read_of r).list.count) past_count))
  -- 22: a payload inside its bytes is refused by it exactly above 268,435,455 bytes
  pub limit : WriteVarlenSlice (λ bytes slice out at r end. slice.start + slice.length ≤ length bytes
      → (268435455 < slice.length → (written_to r ≡ refuses 22) × (end ≡ out)) × (slice.length ≤ 268435455 → written_to r ≡ refuses 22 → ⊥))

-- what a refusal leaves
pub record Left : Type 0 where
  -- where the running status is handed back, and where it is lent: `read_event` promises `Leaves`
  pub read_step : Always events.running.read_step.Reads.Learnt (λ κs a z e.
      LeftBehind (fourth a) (first a).now (second a) (third a) (event_read z.read) z.running.status)
  pub lent : (raw : List ℕ) (at : ℕ) (running : Running) (rules : Rules) (r : Result EventAt EventRefused) (left : Running)
      → Leaves (event_at (rules_of rules) running.status raw at) r left → LeftBehind rules raw at running (event_read r) left.status

-- two sheets and their counts, and the number of a refusal
pub record SheetsRefused (a : List ℕ) (m : ℕ) (b : List ℕ) (n number : ℕ) : Type 0 where
  pub first_many : 128 < m → number ≡ 21
  pub second_many : 128 < n → number ≡ 21
  pub first_row : m ≤ 128 → n ≤ 128 → are_rows m a ≡ false → number ≡ 18
  pub second_row : m ≤ 128 → n ≤ 128 → are_rows n b ≡ false → number ≡ 18

-- what a caller hands over
pub record Given : Type 0 where
  -- flags: bit 0 alone is strict
  pub flags : Always loader.rules.Reads.Learnt (λ κs a z e.
      ((n : ℕ) → a.0 ≡ 2 * n → z.strict ≡ false) × ((n : ℕ) → a.0 ≡ 2 * n + 1 → z.strict ≡ true))
  -- a row of ten cells that is not all there is no event's: 18
  pub row_short : Always rows.back.row_event_at.Reads.Learnt (λ κs a z e.
      length (first a).now < second a + 10 → row_answer z ≡ refuses 18)
  -- two sheets compared: 21 where either count is above 128, and then 18 where a row of either is no event's
  pub sheets : Always same.of_rows.same_row_lists.Reads.Learnt (λ κs a z e.
      SheetsRefused (first a).now (second a) (fourth a).now (fifth a) (sameness_answered z))

-- document 01: writing checks 1, then what forbids the event, 18, 19, 22, 23 in that order, then 20. An `Unknown` can be refused by each of them
pub record EventOrder (running : ℕ) (judged : Answer (Event (List ℕ))) (bytes : List ℕ) (e : Event Span) (out : List ℕ) (at : ℕ) (answer : Answer ℕ) : Type 0 where
  pub first : is_running running ≡ false → answer ≡ refuses 1
  pub wide : is_running running ≡ true → 268435455 < e.delta → answer ≡ refuses 18
  pub outside : (t : ℕ) (span : Span) → is_running running ≡ true → e.delta ≤ 268435455 → e.kind ≡ meta (unknown t span)
      → length bytes < span.start + span.length → answer ≡ refuses 19
  pub long : (t : ℕ) (span : Span) → is_running running ≡ true → e.delta ≤ 268435455 → e.kind ≡ meta (unknown t span)
      → span.start + span.length ≤ length bytes → 268435455 < span.length → answer ≡ refuses 22
  pub named : (t : ℕ) (span : Span) → is_running running ≡ true → e.delta ≤ 268435455 → e.kind ≡ meta (unknown t span)
      → span.start + span.length ≤ length bytes → span.length ≤ 268435455 → (Unnamed t span.length → ⊥) → answer ≡ refuses 23
  pub room : (l : Event (List ℕ)) → is_running running ≡ true → judged ≡ gives l → length out < at + length (encode_event running l) → answer ≡ refuses 20

-- document 01: 1, 21, then the first illegal event, with its index, then 20
pub record ListOrder (running : ℕ) (judged : List (Answer (Event (List ℕ)))) (count : ℕ) (out : List ℕ) (answer : ListAnswer) : Type 0 where
  pub first : is_running running ≡ false → answer ≡ refuses_at 1 0
  pub many : is_running running ≡ true → 128 < count → answer ≡ refuses_at 21 0
  pub illegal : (es : List (Event (List ℕ))) (n : ℕ) (later : List (Answer (Event (List ℕ)))) → is_running running ≡ true → count ≤ 128
      → take count judged ≡ map gives es ++ (refuses n ∷ later) → answer ≡ refuses_at n (length es)
  pub room : (es : List (Event (List ℕ))) → is_running running ≡ true → count ≤ 128
      → take count judged ≡ map gives es → length out < length (encode_list running es) → answer ≡ refuses_at 20 0

pub record Order : Type 0 where
  pub event : WriteEvent (λ event running rules bytes out at r end.
      EventOrder running.status (legal (rules_of rules) bytes (event_of event)) bytes (event_of event) out at (wrote_event r end).written.answer)
  pub list : WriteList (λ list running rules bytes out r end.
      ListOrder running.status (records_judged (rules_of rules) bytes (map record_of list.records)) list.count out (wrote_list r end).answer)
  pub rows : WriteRows (λ rows count running rules bytes out r end.
      ListOrder running.status (rows_judged (rules_of rules) bytes count rows) count out (wrote_list r end).answer)

-- all of them
pub record Literals : Type 0 where
  pub widths : Widths
  pub values : Values
  pub records : Records
  pub left : Left
  pub given : Given
  pub order : Order
