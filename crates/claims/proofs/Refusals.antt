-- By which numbers of the table each definition refuses.
use mathlib.Core.Path.{◌≡◌, refl, sym, subst}
use mathlib.Core.Bool.{Bool, true, false, true≢false, ◌&&◌, not}
use mathlib.Core.List.{List, [], ◌∷◌}
use Prim.Native.Nat.{ℕ, zero, suc, ◌+◌, ◌-◌, ◌^◌}
use lib.Dec.{ltb, leb, eqb}
use borrow.Author.Tests.{eqb-true}
use lib.Ieee.{Format}
use lib.ListN.{drop, length}
use Rattle.smf.specs.Answer.{pick, Answer, gives, refuses, and_then, Rules}
use Rattle.smf.specs.Running.{is_running}
use Rattle.smf.specs.Width.{try_width}
use Rattle.smf.specs.Number.{Numeral, number_from, read_number}
use Rattle.smf.specs.Payload.{payload_after, read_payload}
use Rattle.smf.specs.Place.{Span, number_at, payload_at, inside}
use Rattle.smf.specs.Write.{Written, put, write, number_bytes, part, load_bytes, payload_bytes}
use Rattle.smf.specs.Header.{read_field, is_format, to_format, read_format, Timing, is_timing, timing_from, read_timing, encode_timing}
use Rattle.smf.specs.Smpte.{Time, is_rate, to_rate, is_time, to_time, time_of, encode_time, position}
use Rattle.smf.specs.Seconds.{seconds_of}
use Rattle.smf.specs.Bend.{ask_bend, ask_float}
use Rattle.smf.specs.Kind.{is_text, narrow, called_meta}
use Rattle.smf.specs.MetaAt.{read_meta_message, meta_at}
use Rattle.smf.specs.Event.{Event, kind_fits, kind_load, kind_misnamed, no_span, span_length, legal}
use Rattle.smf.proofs.Answer.{by_test, pick_both, pick_test, both}
use Rattle.rows.specs.RowEvent.{is_row, called_row, event_of_row, row_judged}
use Rattle.write.specs.Raw.{raw_judged}
use Rattle.write.specs.Size.{size_judged, size_event}
use Rattle.claims.specs.Table.{in_table, among, OneOf, By, Keeps, of_number, of_payload, of_meta, of_legality, of_length}

-- going on with a value
pub then_by : {A B : Type 0} (ns : List ℕ) (a : Answer A) (f : A → Answer B) → By ns a → ((x : A) → By ns (f x)) → By ns (and_then a f)
then_by ns (gives x) f p k = k x
then_by ns (refuses n) f p k = p

-- Fewer numbers and more

-- whether all of these are among those
abbrev pub all_among : List ℕ → List ℕ → Bool
all_among ms [] = true
all_among ms (n ∷ ns) = among ms n && all_among ms ns

among_more : (ms ns : List ℕ) (n : ℕ) → all_among ms ns ≡ true → among ns n ≡ true → among ms n ≡ true
among_more ms [] n h e = absurd (true≢false (sym e))
among_more ms (m ∷ ns) n h e =
    let b = both (among ms m) (all_among ms ns) h in
    by_test (eqb n m) (λ t. rw (eqb-true n m t) b.0) (λ t. among_more ms ns n b.1 (rw t at e))

pub one_of_more : (ms ns : List ℕ) (n : ℕ) → all_among ms ns ≡ true → OneOf ns n → OneOf ms n
one_of_more ms ns n h e =
    let b = both (in_table n) (among ns n) e in
    rw (b.0, among_more ms ns n h b.1)

pub by_more : {A : Type 0} (ms ns : List ℕ) (a : Answer A) → all_among ms ns ≡ true → By ns a → By ms a
by_more ms ns (gives x) h p = tt
by_more ms ns (refuses n) h p = one_of_more ms ns n h p

-- what holds of each of these numbers
abbrev pub Each : (ℕ → Type 0) → List ℕ → Type 0
Each P [] = Unit {0}
Each P (n ∷ ns) = P n × Each P ns

each : (P : ℕ → Type 0) (ns : List ℕ) → Each P ns → (n : ℕ) → among ns n ≡ true → P n
each P [] h n e = absurd (true≢false (sym e))
each P (m ∷ ns) h n e = by_test (eqb n m) (λ t. subst P (sym (eqb-true n m t)) h.0) (λ t. each P ns h.1 n (rw t at e))

pub one_of : (P : ℕ → Type 0) (ns : List ℕ) → Each P ns → (n : ℕ) → OneOf ns n → P n
one_of P ns h n e = each P ns h n (both (in_table n) (among ns n) e).1

-- what a payload under a type is refused by: 12 where reading is strict, 13, 14
abbrev pub of_name : Bool → List ℕ
of_name strict = pick strict (12 ∷ 13 ∷ 14 ∷ []) (13 ∷ 14 ∷ [])

-- Numbers and payloads

module _ (rules : Rules) where
  abbrev strict : Bool
  strict = rules.strict

  number_from_by : (k bits : ℕ) (s : List ℕ) → By (of_number strict) (number_from rules k bits s)
  unfolding number_from
  number_from_by zero bits s = pick_test (By (of_number strict)) strict (λ t. rw t) (λ t. tt)
  number_from_by (suc k) bits [] = pick_test (By (of_number strict)) strict (λ t. rw t) (λ t. tt)
  number_from_by (suc k) bits (b ∷ s) = pick_both (By (of_number strict)) (ltb b 128) tt (number_from_by k _ s)

  pub read_number_by : (s : List ℕ) → By (of_number strict) (read_number rules s)
  unfolding read_number
  read_number_by s = number_from_by 4 0 s

  pub number_at_by : (s : List ℕ) (at : ℕ) → By (of_number strict) (number_at rules s at)
  unfolding number_at
  number_at_by s at = then_by (of_number strict) (read_number rules (drop at s)) _ (read_number_by (drop at s)) (λ n. tt)

  number_in_payload : (b : Bool) → all_among (of_payload b) (of_number b) ≡ true
  number_in_payload true = refl
  number_in_payload false = refl

  payload_after_by : (s : List ℕ) (n : Numeral) → By (of_payload strict) (payload_after rules s n)
  unfolding payload_after
  payload_after_by s n =
      pick_both (By (of_payload strict)) (leb n.value (length n.rest)) tt
      (pick_test (By (of_payload strict)) strict (λ t. rw t) (λ t. tt))

  pub read_payload_by : (s : List ℕ) → By (of_payload strict) (read_payload rules s)
  unfolding read_payload
  read_payload_by s =
      then_by (of_payload strict) (read_number rules s) (payload_after rules s)
      (by_more (of_payload strict) (of_number strict) (read_number rules s) (number_in_payload strict) (read_number_by s)) (payload_after_by s)

  pub payload_at_by : (s : List ℕ) (at : ℕ) → By (of_payload strict) (payload_at rules s at)
  unfolding payload_at
  payload_at_by s at = then_by (of_payload strict) (read_payload rules (drop at s)) _ (read_payload_by (drop at s)) (λ p. tt)

  -- Meta messages

  named_13 : (b : Bool) → OneOf (of_name b) 13
  named_13 true = refl
  named_13 false = refl

  named_14 : (b : Bool) → OneOf (of_name b) 14
  named_14 true = refl
  named_14 false = refl

  narrow_by : (limit byte : ℕ) → By (of_name strict) (narrow rules limit byte)
  unfolding narrow
  narrow_by limit byte =
      pick_both (By (of_name strict)) (ltb byte limit) tt (pick_test (By (of_name strict)) strict (λ t. rw t) (λ t. tt))

  named_time_by : (a b c d e : ℕ) → By (of_name strict) (time_of rules a b c d e)
  unfolding time_of to_time
  named_time_by a b c d e = pick_both (By (of_name strict)) (is_time rules _) tt (named_13 strict)

  pub called_meta_by : (t : ℕ) (p : List ℕ) → By (of_name strict) (called_meta rules t p)
  unfolding called_meta
  called_meta_by t p =
      let P = By (of_name strict) in
      pick_both P (eqb t 0x00) tt
      (pick_both P (is_text t) tt
      (pick_both P (eqb t 0x20) (pick_both P (leb 1 (length p)) (then_by _ (narrow rules 16 _) _ (narrow_by 16 _) (λ c. tt)) tt)
      (pick_both P (eqb t 0x21) (pick_both P (leb 1 (length p)) (then_by _ (narrow rules 128 _) _ (narrow_by 128 _) (λ c. tt)) tt)
      (pick_both P (eqb t 0x2F) tt
      (pick_both P (eqb t 0x51) (pick_both P (leb 3 (length p)) tt tt)
      (pick_both P (eqb t 0x54) (pick_both P (leb 5 (length p)) (then_by _ (time_of rules _ _ _ _ _) _ (named_time_by _ _ _ _ _) (λ c. tt)) tt)
      (pick_both P (eqb t 0x58) (pick_both P (leb 4 (length p)) tt tt)
      (pick_both P (eqb t 0x59) (pick_both P (leb 2 (length p)) tt (named_14 strict))
      (pick_both P (eqb t 0x7F) tt tt)))))))))

  meta_10 : (b : Bool) → OneOf (of_meta b) 10
  meta_10 true = refl
  meta_10 false = refl

  payload_in_meta : (b : Bool) → all_among (of_meta b) (of_payload b) ≡ true
  payload_in_meta true = refl
  payload_in_meta false = refl

  name_in_meta : (b : Bool) → all_among (of_meta b) (of_name b) ≡ true
  name_in_meta true = refl
  name_in_meta false = refl

  read_meta_by : (s : List ℕ) → By (of_meta strict) (read_meta_message rules s)
  unfolding read_meta_message
  read_meta_by [] = meta_10 strict
  read_meta_by (t ∷ s) =
      then_by (of_meta strict) (read_payload rules s) _
      (by_more (of_meta strict) (of_payload strict) (read_payload rules s) (payload_in_meta strict) (read_payload_by s))
      (λ p. then_by (of_meta strict) (called_meta rules t p.bytes) _
      (by_more (of_meta strict) (of_name strict) (called_meta rules t p.bytes) (name_in_meta strict) (called_meta_by t p.bytes))
      (λ m. tt))

  pub meta_at_by : (s : List ℕ) (at : ℕ) → By (of_meta strict) (meta_at rules s at)
  unfolding meta_at
  meta_at_by s at = then_by (of_meta strict) (read_meta_message rules (drop at s)) _ (read_meta_by (drop at s)) (λ m. tt)

-- Widths, header fields, SMPTE times and bends

pub width_by : (w x : ℕ) → By (18 ∷ []) (try_width w x)
unfolding try_width
width_by w x = pick_both (By (18 ∷ [])) (ltb x (2 ^ w)) tt refl

field_by : {A : Type 0} (ns : List ℕ) (of : ℕ → ℕ → Answer A) (s : List ℕ) → OneOf ns 17 → ((a b : ℕ) → By ns (of a b)) → By ns (read_field of s)
unfolding read_field
field_by ns of [] h k = h
field_by ns of (a ∷ []) h k = h
field_by ns of (a ∷ b ∷ s) h k = k a b

pub format_by : (s : List ℕ) → By (15 ∷ 17 ∷ []) (read_format s)
unfolding read_format to_format
format_by s = field_by (15 ∷ 17 ∷ []) _ s refl (λ a b. pick_both (By (15 ∷ 17 ∷ [])) (is_format _) tt refl)

pub rate_by : (rate : ℕ) → By (16 ∷ []) (to_rate rate)
unfolding to_rate
rate_by rate = pick_both (By (16 ∷ [])) (is_rate rate) tt refl

timing_from_by : (high low : ℕ) → By (16 ∷ 17 ∷ []) (timing_from high low)
unfolding timing_from
timing_from_by high low =
    pick_both (By (16 ∷ 17 ∷ [])) (ltb high 128) tt
    (then_by (16 ∷ 17 ∷ []) (to_rate (256 - high)) _ (by_more (16 ∷ 17 ∷ []) (16 ∷ []) (to_rate (256 - high)) refl (rate_by (256 - high))) (λ rate. tt))

pub timing_by : (s : List ℕ) → By (16 ∷ 17 ∷ []) (read_timing s)
unfolding read_timing
timing_by s = field_by (16 ∷ 17 ∷ []) timing_from s refl timing_from_by

pub timing_bytes_by : (t : Timing) → By (18 ∷ []) (encode_timing t)
unfolding encode_timing
timing_bytes_by t = pick_both (By (18 ∷ [])) (is_timing t) tt refl

pub time_by : (rules : Rules) (t : Time) → By (13 ∷ []) (to_time rules t)
unfolding to_time
time_by rules t = pick_both (By (13 ∷ [])) (is_time rules t) tt refl

pub time_of_by : (rules : Rules) (a b c d e : ℕ) → By (13 ∷ []) (time_of rules a b c d e)
unfolding time_of
time_of_by rules a b c d e = time_by rules _

pub time_bytes_by : (rules : Rules) (t : Time) → By (18 ∷ []) (encode_time rules t)
unfolding encode_time
time_bytes_by rules t = pick_both (By (18 ∷ [])) (is_time rules t) tt refl

pub seconds_by : (rules : Rules) (t : Time) → By (13 ∷ []) (seconds_of rules t)
unfolding seconds_of
seconds_by rules t = pick_both (By (13 ∷ [])) (is_time rules t) tt refl

pub position_by : (rules : Rules) (t : Time) → By (13 ∷ []) (position rules t)
unfolding position
position_by rules t = pick_both (By (13 ∷ [])) (is_time rules t) tt refl

pub bend_by : (raw : ℕ) → By (18 ∷ []) (ask_bend raw)
unfolding ask_bend
bend_by raw = then_by (18 ∷ []) (try_width 14 raw) _ (width_by 14 raw) (λ r. tt)

pub bend_float_by : (f : Format) (raw : ℕ) → By (18 ∷ []) (ask_float f raw)
unfolding ask_float
bend_float_by f raw = then_by (18 ∷ []) (ask_bend raw) _ (bend_by raw) (λ z. tt)

-- What is written

pub number_bytes_by : (v : ℕ) → By (18 ∷ []) (number_bytes v)
unfolding number_bytes
number_bytes_by v = then_by (18 ∷ []) (try_width 28 v) _ (width_by 28 v) (λ n. tt)

pub payload_bytes_by : (bytes : List ℕ) (start n : ℕ) → By (19 ∷ 22 ∷ []) (payload_bytes bytes start n)
unfolding payload_bytes part load_bytes
payload_bytes_by bytes start n =
    then_by (19 ∷ 22 ∷ []) (pick (inside bytes (record { start = start; length = n })) (gives _) (refuses 19)) _ (pick_both (By (19 ∷ 22 ∷ [])) (inside bytes (record { start = start; length = n })) tt refl)
    (λ p. pick_both (By (19 ∷ 22 ∷ [])) (ltb (length p) (2 ^ 28)) tt refl)

-- the bytes of a thing, put at a place: its own numbers, and 20
pub write_keeps : (ns : List ℕ) (a : Answer (List ℕ)) (buffer : List ℕ) (at : ℕ) → By ns a → OneOf ns 20
    → Keeps ns (write a buffer at).answer buffer (write a buffer at).buffer
unfolding put
write_keeps ns (refuses n) buffer at p h = (p, refl)
write_keeps ns (gives bs) buffer at p h =
    pick_both (λ (w : Written). Keeps ns w.answer buffer w.buffer) (leb (at + length bs) (length buffer)) tt (h, refl)

module _ (rules : Rules) (bytes : List ℕ) where
  pub legal_by : (e : Event Span) → By of_legality (legal rules bytes e)
  unfolding legal
  legal_by e =
      pick_both (By of_legality) (ltb e.delta (2 ^ 28) && kind_fits rules e.kind)
      (pick_both (By of_legality) (inside bytes (kind_load no_span e.kind))
      (pick_both (By of_legality) (ltb (span_length (kind_load no_span e.kind)) (2 ^ 28))
      (pick_both (By of_legality) (not (kind_misnamed rules span_length e.kind)) tt refl)
      refl)
      refl)
      refl

  -- a row that is no event's is refused by 18
  pub row_by : (r : List ℕ) → By of_legality (row_judged rules bytes r)
  unfolding row_judged event_of_row
  row_by r =
      then_by of_legality (pick (is_row r) (gives (called_row r)) (refuses 18)) _ (pick_both (By of_legality) (is_row r) tt refl) legal_by

-- an event as it was judged, measured
pub event_length_by : (running : ℕ) (j : Answer (Event (List ℕ))) → By of_legality j → By of_length (size_event running j)
unfolding size_event size_judged raw_judged
event_length_by running j h =
    pick_both (By of_length) (is_running running)
    (by_more of_length of_legality (size_judged running j) refl (then_by of_legality (raw_judged j) _ (then_by of_legality j _ h (λ e. tt)) (λ raw. tt)))
    refl
