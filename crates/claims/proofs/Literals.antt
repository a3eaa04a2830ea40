-- The literals follow from the definitions that the promises cite.
use Rattle.base.specs.declared.Refusal.{Refusal}
use Rattle.event.specs.declared.read.EventRefused.{EventRefused}
use Rattle.event.specs.declared.read.EventAt.{EventAt}
use Rattle.std.specs.Prelude.{Err, Ok, Result}
use mathlib.Core.Path.{◌≡◌, refl, sym, ap, ◌∙◌, subst}
use mathlib.Core.Bool.{Bool, true, false, ◌||◌}
use mathlib.Core.List.{List, [], ◌∷◌, ◌++◌, map}
use Prim.Native.Nat.{ℕ, ◌+◌, ◌-◌, ◌*◌, ◌%◌, ◌^◌, ◌≤◌, ◌<◌}
use native.Mathlib.Omega.{arith}
use lib.Dec.{leb, eqb}
use lib.Ieee.{Float, binary32, div, of_int, to_bits}
use lib.IntN.{pos, ◌-ℤ◌}
use lib.ListN.{length, take, drop, replicate, length-append, length-drop, length-take, length-replicate}
use lib.Seq.{drop-append_seam, take_at, drop_at}
use borrow.Author.Tests.{lt-ltb, le-ltb, le-leb, lt-leb}
use Rattle.smf.specs.Answer.{pick, Answer, gives, refuses, Rules}
use Rattle.smf.specs.Width.{try_width}
use Rattle.smf.specs.Bend.{lowest, highest, clamped, raw_bend, ask_bend}
use Rattle.smf.specs.Smpte.{is_rate, to_rate, Time, is_time, seconds, frames, subframes, position}
use Rattle.smf.specs.Seconds.{rate_float}
use Rattle.smf.specs.Write.{Written, left, put, write, payload_bytes}
use Rattle.smf.specs.Lists.{list_at, holding, ListHeld, held_as, records_judged, illegal, check, ListAnswer, ListWritten, write_list}
use Rattle.smf.specs.Running.{is_running}
use Rattle.smf.specs.Kind.{meta, unknown}
use Rattle.smf.specs.Place.{Span, inside}
use Rattle.smf.specs.Event.{Event, ReadAt, reads_at, refused_at, event_at, meta_fits, kind_fits, carries, meta_carries, is_named, legal, encode_event, EventWritten, event_left, write_judged, write_event}
use Rattle.smf.proofs.Answer.{by_test, by_lt, given, pick_test}
use Rattle.smf.proofs.Write.{part_long, part_bytes}
use Rattle.smf.proofs.ListLegality.{given_length, check_illegal}
use Rattle.smf.proofs.ListWrites.{write_invalid, write_many, write_illegal, write_full}
use Rattle.base.specs.Rules.{rules_of}
use Rattle.base.specs.declared.Rules as base
use Rattle.base.specs.declared.Running.{Running}
use Rattle.base.specs.declared.Range.{Range}
use Rattle.number.specs.Varlen.{written_to, write_left}
use Rattle.header.specs.Fps.{rate_of}
use Rattle.header.specs.Smpte.{smpte_time_of}
use Rattle.event.specs.Event.{event_of, event_read}
use Rattle.event.specs.Lent.{read_running, Leaves}
use Rattle.track.specs.List.{record_of}
use Rattle.rows.specs.RowLists.{are_rows, rows_judged}
use Rattle.same.specs.OfRows.{lists_asked, Says}
use Rattle.track.specs.Read.{list_read_of}
use Rattle.track.specs.declared.read.ReadList.{ReadList}
use Rattle.rows.specs.RowEvent.{is_row, event_of_row}
use Rattle.claims.specs.Table.{among}
use Rattle.claims.specs.Stands.{EventOrLeft}
use Rattle.loader_track.specs.Same.{sameness_answered}
use Rattle.claims.specs.Literals.{up_to, Widths, Values, past_count, Records, LeftBehind, Left, SheetsRefused, Given, EventOrder, ListOrder, Order, Literals}
use Rattle.claims.specs.SmfForms.{Unnamed}
use Rattle.claims.proofs.Calls as calls
use Rattle.claims.proofs.SmfForms.{unnamed_form}
use Rattle.claims.proofs.ReadLeaves.{event_or_left}
use Rattle.claims.proofs.Stands.{list_stands}

-- a width's numbers are those up to the largest
up_to_lem : (w x largest : ℕ) → 2 ^ w ≡ largest + 1 → try_width w x ≡ up_to largest x
unfolding try_width
up_to_lem w x largest e =
    by_lt x (2 ^ w)
    (λ h. rw (lt-ltb x (2 ^ w) h, le-leb x largest (omega (arith, e))))
    (λ h. rw (le-ltb x (2 ^ w) h, lt-leb x largest (omega (arith, e))))

widths : Widths
widths =
    record {
      u2_max_value = λ κs a z e told. told;
      u2_new = λ κs a z e told. told;
      u2_try_from = λ κs a z e told. told ∙ up_to_lem 2 a.0 3 refl;
      u4_max_value = λ κs a z e told. told;
      u4_new = λ κs a z e told. told;
      u4_try_from = λ κs a z e told. told ∙ up_to_lem 4 a.0 15 refl;
      u7_max_value = λ κs a z e told. told;
      u7_new = λ κs a z e told. told;
      u7_try_from = λ κs a z e told. told ∙ up_to_lem 7 a.0 127 refl;
      u14_max_value = λ κs a z e told. told;
      u14_new = λ κs a z e told. told;
      u14_try_from = λ κs a z e told. told ∙ up_to_lem 14 a.0 16383 refl;
      u15_max_value = λ κs a z e told. told;
      u15_new = λ κs a z e told. told;
      u15_try_from = λ κs a z e told. told ∙ up_to_lem 15 a.0 32767 refl;
      u24_max_value = λ κs a z e told. told;
      u24_new = λ κs a z e told. told;
      u24_try_from = λ κs a z e told. told ∙ up_to_lem 24 a.0 16777215 refl;
      u28_max_value = λ κs a z e told. told;
      u28_new = λ κs a z e told. told;
      u28_try_from = λ κs a z e told. told ∙ up_to_lem 28 a.0 268435455 refl;
    }

-- the bits of a rate as a float
frames_24 : to_bits binary32 (rate_float 24) ≡ 0x41C00000
unfolding to_bits rate_float of_int
frames_24 = refl

frames_25 : to_bits binary32 (rate_float 25) ≡ 0x41C80000
unfolding to_bits rate_float of_int
frames_25 = refl

frames_29 : to_bits binary32 (rate_float 29) ≡ 0x41EFC29E
unfolding to_bits rate_float div of_int
frames_29 = refl

frames_30 : to_bits binary32 (rate_float 30) ≡ 0x41F00000
unfolding to_bits rate_float of_int
frames_30 = refl

frames_of : (z : Float) (rate rate' : ℕ) → z ≡ rate_float rate → rate ≡ rate' → to_bits binary32 z ≡ to_bits binary32 (rate_float rate')
frames_of z rate rate' told e = ap (to_bits binary32) (told ∙ ap rate_float e)

-- one of four tests
one_of_four : (a b c d : Bool) → (a || b || c || d) ≡ (a || (b || (c || (d || false))))
one_of_four true b c d = refl
one_of_four false true c d = refl
one_of_four false false true d = refl
one_of_four false false false true = refl
one_of_four false false false false = refl

rate_is : (rate : ℕ) → to_rate rate ≡ pick (among (24 ∷ 25 ∷ 29 ∷ 30 ∷ []) rate) (gives rate) (refuses 16)
unfolding to_rate is_rate
rate_is rate = ap (λ (t : Bool). pick t (gives rate) (refuses 16)) (one_of_four (eqb rate 24) (eqb rate 25) (eqb rate 29) (eqb rate 30))

position_is : (rules : Rules) (t : Time) (n : ℕ) → position rules t ≡ gives n
    → n ≡ ((3600 * t.hour + 60 * t.minute + t.second) * t.rate + t.frame) * 100 + t.subframe
unfolding position subframes frames seconds
position_is rules t n e = sym (given (is_time rules t) (subframes t) 13 e).1

bends : (raw_bend lowest ≡ 0) × (raw_bend (pos 0) ≡ 8192) × (raw_bend highest ≡ 16383)
unfolding raw_bend clamped
bends = (refl, refl, refl)

bend_is : (raw : ℕ) → ask_bend raw ≡ pick (leb raw 16383) (gives (pos raw -ℤ pos 8192)) (refuses 18)
unfolding ask_bend
bend_is raw =
    rw (up_to_lem 14 raw 16383 refl)
    (by_test (leb raw 16383) (λ h. rw h) (λ h. rw h))

values : Values
values =
    record {
      rates = λ κs a z e told. told ∙ rate_is a.0;
      frames = λ κs a z e told. (
        (λ q. frames_of z (rate_of a.0) 24 told q ∙ frames_24),
        (λ q. frames_of z (rate_of a.0) 25 told q ∙ frames_25),
        (λ q. frames_of z (rate_of a.0) 29 told q ∙ frames_29),
        (λ q. frames_of z (rate_of a.0) 30 told q ∙ frames_30),
      );
      position = λ κs a z e told n h. position_is (rules_of a.1.0) (smpte_time_of a.0) n (sym told ∙ h);
      bend_min = λ κs a z e told. told ∙ bends.0;
      bend_mid = λ κs a z e told. told ∙ bends.1;
      bend_max = λ κs a z e told. told ∙ bends.2;
      bend_int = λ κs a z e told. told ∙ bend_is a.0.0.0;
    }

-- Lists

empty_list_lem : holding 128 [] ≡ record { records = replicate 128 past_count; count = 0 }
unfolding holding
empty_list_lem = refl

held : (l : ListHeld) (most : ℕ) (es : List (Event Span)) → l.list ≡ holding most es → length es ≤ most
    → (length l.list.records ≡ most) × (drop l.list.count l.list.records ≡ replicate (most - l.list.count) past_count)
unfolding holding
held l most es told few =
    let whole : length (es ++ replicate (most - length es) past_count) ≡ most = omega (arith, length-append es (replicate (most - length es) past_count), length-replicate (most - length es) past_count) in
    rw told (whole, drop-append_seam es (replicate (most - length es) past_count))

list_said : (raw : List ℕ) (at : ℕ) (running : Running) (rules : base.Rules) (r : ReadList) → list_read_of r ≡ held_as 128 (list_at (rules_of rules) 128 running.status raw at)
    → (length (list_read_of r).list.records ≡ 128) × (drop (list_read_of r).list.count (list_read_of r).list.records ≡ replicate (128 - (list_read_of r).list.count) past_count)
list_said raw at running rules r told =
    held (list_read_of r) 128 (list_at (rules_of rules) 128 running.status raw at).events (ap (λ (l : ListHeld). l.list) told)
    (list_stands (rules_of rules) raw at 128 running.status).few

-- The limit of a payload

room_only : (bs s : List ℕ) (at : ℕ) → (put bs s at).answer ≡ refuses 22 → ⊥
unfolding put
room_only bs s at =
    pick_test (λ (w : Written). w.answer ≡ refuses 22 → ⊥) (leb (at + length bs) (length s))
    (λ _ e. let z : ◌≡◌ {A = ℕ} 0 1 = cc in omega arith) (λ _ e. let z : ◌≡◌ {A = ℕ} 20 22 = cc in omega arith)

limit_said : (bytes : List ℕ) (slice : Range) (out : List ℕ) (at : ℕ) (r : Result ℕ Refusal) (end : List ℕ)
    → write_left r end ≡ write (payload_bytes bytes slice.start slice.length) out at
    → slice.start + slice.length ≤ length bytes
    → (268435455 < slice.length → (written_to r ≡ refuses 22) × (end ≡ out)) × (slice.length ≤ 268435455 → written_to r ≡ refuses 22 → ⊥)
limit_said bytes slice out at r end told inside = (
  (λ long. let e : write_left r end ≡ left out 22 = told ∙ ap (λ (a : Answer (List ℕ)). write a out at) (part_long bytes slice.start slice.length inside (omega arith)) in
      (ap (λ (w : Written). w.answer) e, ap (λ (w : Written). w.buffer) e)),
  (λ short e. let p = part_bytes bytes slice.start slice.length inside (omega arith) in
      room_only _ out at (sym (ap (λ (w : Written). w.answer) (told ∙ ap (λ (a : Answer (List ℕ)). write a out at) p)) ∙ e)),
)

-- What a refusal leaves

lent : (raw : List ℕ) (at : ℕ) (running : Running) (rules : base.Rules) (r : Result EventAt EventRefused) (left : Running)
    → Leaves (event_at (rules_of rules) running.status raw at) r left → LeftBehind rules raw at running (event_read r) left.status
lent raw at running rules r left l =
    subst (λ (x : ReadAt). LeftBehind rules raw at running x left.status) (sym l.0)
    (by (event_at (rules_of rules) running.status raw at) (event_or_left (rules_of rules) raw running.status at) l.1) where
      by : (a : ReadAt) → EventOrLeft (rules_of rules) raw running.status at a → left.status ≡ read_running a → LeftBehind rules raw at running a left.status
      by (reads_at a) o e = e
      by (refused_at n used after padding) o e = e ∙ o.2

-- Flags and rows

even : (bits n : ℕ) → bits ≡ 2 * n → eqb (bits % 2) 1 ≡ false
even bits n e = let z : bits % 2 ≡ 0 = omega arith in rw z

odd : (bits n : ℕ) → bits ≡ 2 * n + 1 → eqb (bits % 2) 1 ≡ true
odd bits n e = let z : bits % 2 ≡ 1 = omega arith in rw z

row_past : (cells : List ℕ) (at : ℕ) → length cells < at + 10 → event_of_row (take 10 (drop at cells)) ≡ refuses 18
unfolding event_of_row is_row
row_past cells at h =
    let few : leb 10 (length (take 10 (drop at cells))) ≡ false = lt-leb 10 (length (take 10 (drop at cells))) (omega (arith, length-take 10 (drop at cells), length-drop at cells)) in
    rw few

records : Records
records = record { list_new = λ κs a z e told. told ∙ empty_list_lem; list_read = calls.read_list_lem _ list_said; limit = calls.write_varlen_slice _ limit_said }

left_behind : Left
left_behind =
    record { read_step = λ κs a z e told. lent a.0.now a.1.0 a.1.1.0 a.1.1.1.0 z.read z.running told; lent = lent }

-- an answer to what cannot be compared
said_number : (n : ℕ) (Rule : Type 0) (z : Result Bool Refusal) → Says z (refuses n) Rule → sameness_answered z ≡ n
said_number n Rule (Ok told) s = absurd s
said_number n Rule (Err m) s = s

module _ (a : List ℕ) (m : ℕ) (b : List ℕ) (n : ℕ) where
  sheets_refused : (Rule : Type 0) (z : Result Bool Refusal) → Says z (lists_asked 128 a m b n) Rule → SheetsRefused a m b n (sameness_answered z)
  unfolding lists_asked
  sheets_refused Rule z told =
      record {
        first_many = λ h. said_number 21 Rule z (rw (lt-leb m 128 h) at told);
        second_many = λ h. by_test (leb m 128) (λ t. said_number 21 Rule z (rw (t, lt-leb n 128 h) at told)) (λ t. said_number 21 Rule z (rw t at told));
        first_row = λ l h none. said_number 18 Rule z (rw (le-leb m 128 l, le-leb n 128 h, none) at told);
        second_row = λ l h none. by_test (are_rows m a) (λ t. said_number 18 Rule z (rw (le-leb m 128 l, le-leb n 128 h, t, none) at told))
            (λ t. said_number 18 Rule z (rw (le-leb m 128 l, le-leb n 128 h, t) at told));
      }

handed : Given
handed =
    record {
      flags = λ κs a z e told.
          ((λ n h. ap (λ (r : Rules). r.strict) told ∙ even a.0 n h), (λ n h. ap (λ (r : Rules). r.strict) told ∙ odd a.0 n h));
      sheets = λ κs a z e told. sheets_refused a.0.now a.1.0 a.1.1.1.0.now a.1.1.1.1.0 _ z told;
      row_short = λ κs a z e told h. told ∙ row_past a.0.now a.1.0 h;
    }

-- The order of refusals

module _ (rules : Rules) (running : ℕ) (bytes : List ℕ) (e : Event Span) (out : List ℕ) (at : ℕ) where
  abbrev refused : ℕ → Type 0
  refused n = write_event running (legal rules bytes e) out at ≡ event_left running out n

  -- what forbids an event is its answer
  forbidden : (n : ℕ) → is_running running ≡ true → legal rules bytes e ≡ refuses n → refused n
  unfolding write_event write_judged
  forbidden n is h = rw (is, h)

  wide : 268435455 < e.delta → legal rules bytes e ≡ refuses 18
  unfolding legal
  wide h = rw (le-ltb e.delta (2 ^ 28) (omega arith))

  module _ (t : ℕ) (span : Span) (small : e.delta ≤ 268435455) (is : e.kind ≡ meta (unknown t span)) where
    outside : length bytes < span.start + span.length → legal rules bytes e ≡ refuses 19
    unfolding legal kind_fits meta_fits carries meta_carries inside
    outside h = rw (is, lt-ltb e.delta (2 ^ 28) (omega arith), lt-leb (span.start + span.length) (length bytes) h)

    long : span.start + span.length ≤ length bytes → 268435455 < span.length → legal rules bytes e ≡ refuses 22
    unfolding legal kind_fits meta_fits carries meta_carries inside
    long h l = rw (is, lt-ltb e.delta (2 ^ 28) (omega arith), le-leb (span.start + span.length) (length bytes) h, le-ltb span.length (2 ^ 28) (omega arith))

    named : span.start + span.length ≤ length bytes → span.length ≤ 268435455 → (Unnamed t span.length → ⊥) → legal rules bytes e ≡ refuses 23
    unfolding legal kind_fits meta_fits carries meta_carries inside
    named h l not =
        by_test (is_named rules t span.length)
        (λ n. rw (is, lt-ltb e.delta (2 ^ 28) (omega arith), le-leb (span.start + span.length) (length bytes) h, lt-ltb span.length (2 ^ 28) (omega arith), n))
        (λ n. absurd (not (unnamed_form t span.length rules n)))

  room : (l : Event (List ℕ)) → is_running running ≡ true → legal rules bytes e ≡ gives l → length out < at + length (encode_event running l) → refused 20
  unfolding write_event write_judged put
  room l is h few = rw (is, h, lt-leb (at + length (encode_event running l)) (length out) few)

  invalid : is_running running ≡ false → refused 1
  unfolding write_event
  invalid not = rw not

  abbrev answer : EventWritten → Answer ℕ
  answer w = w.written.answer

  event_order : EventOrder running (legal rules bytes e) bytes e out at (write_event running (legal rules bytes e) out at).written.answer
  event_order =
      record {
        first = λ not. ap answer (invalid not);
        wide = λ is h. ap answer (forbidden 18 is (wide h));
        outside = λ t span is small k h. ap answer (forbidden 19 is (outside t span small k h));
        long = λ t span is small k h l. ap answer (forbidden 22 is (long t span small k h l));
        named = λ t span is small k h l not. ap answer (forbidden 23 is (named t span small k h l not));
        room = λ l is h few. ap answer (room l is h few);
      }

module _ (running : ℕ) (judged : List (Answer (Event (List ℕ)))) (count : ℕ) (out : List ℕ) where
  abbrev answer_of_list : ListWritten → ListAnswer
  answer_of_list w = w.answer

  first_illegal : (es : List (Event (List ℕ))) (n : ℕ) (later : List (Answer (Event (List ℕ)))) → take count judged ≡ map gives es ++ (refuses n ∷ later)
      → check 0 (take count judged) ≡ illegal n (length es)
  first_illegal es n later h =
      (check_illegal (take count judged) n (length es)).1
      (record {
        events = es;
        before = ap (take (length es)) h ∙ take_at (map gives es) (refuses n ∷ later) (length es) (given_length es);
        later = later;
        there = ap (drop (length es)) h ∙ drop_at (map gives es) (refuses n ∷ later) (length es) (given_length es);
      })

  list_order : ListOrder running judged count out (write_list 128 running judged count out).answer
  list_order =
      record {
        first = λ not. ap answer_of_list (write_invalid 128 running judged count out not);
        many = λ is h. ap answer_of_list (write_many 128 running judged count out is h);
        illegal = λ es n later is few h. ap answer_of_list (write_illegal 128 running judged count out is few (first_illegal es n later h));
        room = λ es is few h full. ap answer_of_list (write_full 128 running judged count out is few es h full);
      }

ordered : Order
ordered =
    record {
      event = calls.write_event_lem _ (λ event running rules bytes out at r end told.
          subst (λ (w : EventWritten). EventOrder running.status (legal (rules_of rules) bytes (event_of event)) bytes (event_of event) out at w.written.answer) (sym told)
          (event_order (rules_of rules) running.status bytes (event_of event) out at));
      list = calls.write_list_lem _ (λ list running rules bytes out r end told.
          subst (λ (w : ListWritten). ListOrder running.status (records_judged (rules_of rules) bytes (map record_of list.records)) list.count out w.answer) (sym told)
          (list_order running.status (records_judged (rules_of rules) bytes (map record_of list.records)) list.count out));
      rows = calls.write_rows _ (λ rows count running rules bytes out r end told.
          subst (λ (w : ListWritten). ListOrder running.status (rows_judged (rules_of rules) bytes count rows) count out w.answer) (sym told)
          (list_order running.status (rows_judged (rules_of rules) bytes count rows) count out));
    }

pub literals : Literals
literals = record { widths = widths; values = values; records = records; left = left_behind; given = handed; order = ordered }
