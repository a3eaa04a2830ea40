-- Point 1 of the entries, proved: each promise's definition refuses by those numbers, and leaves what it found.
use mathlib.Core.Path.{◌≡◌, refl, sym}
use mathlib.Core.Bool.{Bool, true, false, true≢false, ◌&&◌}
use mathlib.Core.List.{List, [], ◌∷◌}
use mathlib.Core.Logic.{◌⊎◌, inl, inr}
use Prim.Native.Nat.{ℕ, zero, suc, ◌+◌, ◌≤◌, ◌<◌}
use native.Mathlib.Omega.{arith}
use lib.IntN.{ℤ}
use lib.Dec.{leb, eqb}
use lib.Ieee.{Float, binary32, binary64}
use lib.ListN.{length, drop}
use Rattle.smf.specs.Answer.{Answer, gives, refuses, and_then, Rules}
use Rattle.smf.specs.Number.{read_number}
use Rattle.smf.specs.Place.{NumberAt, PayloadAt, Span, number_at, payload_at, inside, bytes_of}
use Rattle.smf.specs.Write.{write, number_bytes, payload_bytes}
use Rattle.smf.specs.Header.{is_format, to_format, read_format, read_timing, encode_timing}
use Rattle.smf.specs.Smpte.{Time, to_rate, code_of_rate, to_time, time_of, encode_time, position}
use Rattle.smf.specs.Seconds.{rate_float, seconds_of}
use Rattle.smf.specs.Bend.{ask_bend, ask_float}
use Rattle.smf.specs.Event.{ReadAt, reads_at, refused_at, event_at}
use Rattle.smf.specs.Lists.{Stop, ended, full, stopped, ListAt, list_at}
use Rattle.smf.proofs.Answer.{pick_both, by_lt, by_answer, said_refused}
use Rattle.smf.proofs.Write.{put_fits, put_full}
use Rattle.track.specs.List.{capacity}
use Rattle.rows.specs.RowEvent.{is_row}
use Rattle.rows.specs.RowLists.{are_rows}
use Rattle.same.specs.OfRows.{rows_asked, lists_asked}
use Rattle.loader_track.specs.Same.{Handed}
use Rattle.rows.specs.Sheet.{sheet_of}
use Rattle.rows.specs.RowEvent.{row_judged}
use Rattle.write.specs.Size.{Size, size_event}
use Rattle.loader.specs.Entry.{from_bits, answered, leaves}
use Rattle.loader.specs.Fields.{encode_format, timing_given, ticks_of, timing_rate, subframe_of}
use Rattle.loader.specs.Smpte.{time_given, six_of}
use Rattle.event.specs.Lent.{read_running}
use Rattle.rows.specs.One.{read_row}
use Rattle.loader_track.specs.Events.{read_answered, read_used, read_padding}
use Rattle.loader_track.specs.Lists.{stop_number, list_given, sheet_put, read_answer}
use Rattle.player.specs.Sounding.{silence}
use Rattle.player.specs.Entries.{table_in, rows_accepted}
use Rattle.bank.specs.Bank.{most_tracks}
use Rattle.bank.specs.Read.{read_bank, track_at, track_listed}
use Rattle.bank.specs.Write.{ranges_bank}
use Rattle.bank.specs.Answers.{held_tracks}
use Rattle.bank.specs.Entries.{cells_of, ranges_in, stop_answered, list_cells, list_leaves}
use Rattle.claims.specs.Calls.{Lent, first, second, third, fourth, fifth, sixth, seventh, eighth, ninth}
use Rattle.claims.specs.Table.{among, OneOf, By, of_number, of_payload, of_event, of_length, of_bank, of_bank_track, of_bank_writing}
use Rattle.claims.specs.Stands.{status_left, EventOrLeft, Why, ListStands}
use Rattle.claims.specs.EntrySays.{Unchanged, Outcome, AnswersBy}
use Rattle.claims.specs.EntryPoint1.{NumberRefusals, FieldRefusals, TimeRefusals, BendRefusals, TrackRefusals, SameRefusals, ListTold, SoundingRefusals, BankRefusals, EntryPoint1}
use Rattle.claims.proofs.Refusals.{all_among, then_by, by_more, one_of_more, number_at_by, payload_at_by, format_by, rate_by, timing_by, timing_bytes_by, time_by, time_of_by, time_bytes_by, seconds_by, position_by, bend_by, bend_float_by, number_bytes_by, payload_bytes_by, write_keeps, row_by, event_length_by}
use Rattle.claims.proofs.ReadLeaves.{event_or_left}
use Rattle.claims.proofs.Stands.{list_stands}
use Rattle.claims.proofs.EntrySays.{answers, keeps₁, keeps₂, keeps₃, writes}
use Rattle.claims.proofs.Player.{rows_accepted_by, silence_by, answers_beside, rows_answers}
use Rattle.claims.proofs.BankRefusals.{bank_by, track_by, ranges_bank_by}
use Rattle.bank.proofs.Tracks.{track_inside, listed_there, listed_refused}
use Rattle.claims.proofs.EntryWrites.{event_write, list_length, list_write}

numbers : NumberRefusals
numbers =
    record {
      number_read = λ κs a r e told.
          let rules = from_bits (third a) in
          keeps₃ (of_number rules.strict) (number_at rules (first a).now (second a)) (λ (n : NumberAt). n.value) (λ (n : NumberAt). n.next) (λ (n : NumberAt). n.padding) _ _ _
          (number_at_by rules (first a).now (second a)) told;
      number_write = λ κs a r e told.
          let own = number_bytes (first a) in
          writes (18 ∷ 20 ∷ []) _ _ (write own (second a).now (third a))
          (write_keeps (18 ∷ 20 ∷ []) own (second a).now (third a) (by_more (18 ∷ 20 ∷ []) (18 ∷ []) own refl (number_bytes_by (first a))) refl) told;
      payload_read = λ κs a r e told.
          let rules = from_bits (third a) in
          keeps₃ (of_payload rules.strict) (payload_at rules (first a).now (second a)) (λ (p : PayloadAt). p.span.start) (λ (p : PayloadAt). p.span.length) (λ (p : PayloadAt). p.padding) _ _ _
          (payload_at_by rules (first a).now (second a)) told;
      payload_write = λ κs a r e told.
          let own = payload_bytes (first a).now (second a) (third a) in
          writes (19 ∷ 20 ∷ 22 ∷ []) _ _ (write own (fourth a).now (fifth a))
          (write_keeps (19 ∷ 20 ∷ 22 ∷ []) own (fourth a).now (fifth a)
          (by_more (19 ∷ 20 ∷ 22 ∷ []) (19 ∷ 22 ∷ []) own refl (payload_bytes_by (first a).now (second a) (third a))) refl) told;
    }

to_format_by : (n : ℕ) → By (15 ∷ []) (to_format n)
unfolding to_format
to_format_by n = pick_both (By (15 ∷ [])) (is_format n) tt refl

module _ (ticks rate subframe : ℕ) where
  timing_given_by : By (16 ∷ 18 ∷ []) (timing_given ticks rate subframe)
  timing_given_by =
      pick_both (By (16 ∷ 18 ∷ [])) (eqb rate 0) tt
      (then_by (16 ∷ 18 ∷ []) (to_rate rate) _ (by_more (16 ∷ 18 ∷ []) (16 ∷ []) (to_rate rate) refl (rate_by rate)) (λ _. tt))

  timing_encoded_by : By (16 ∷ 18 ∷ []) (and_then (timing_given ticks rate subframe) encode_timing)
  timing_encoded_by =
      then_by (16 ∷ 18 ∷ []) (timing_given ticks rate subframe) encode_timing timing_given_by
      (λ t. by_more (16 ∷ 18 ∷ []) (18 ∷ []) (encode_timing t) refl (timing_bytes_by t))

fields : FieldRefusals
fields =
    record {
      format_read = λ κs a r e told. keeps₁ (15 ∷ 17 ∷ []) (read_format (first a).now) (λ (n : ℕ). n) _ (format_by (first a).now) told;
      format_encode = λ κs a r e told.
          keeps₁ (15 ∷ []) (encode_format (first a)) (λ (b : List ℕ). b) _ (then_by (15 ∷ []) (to_format (first a)) _ (to_format_by (first a)) (λ _. tt)) told;
      timing_read_lem = λ κs a r e told.
          keeps₃ (16 ∷ 17 ∷ []) (read_timing (first a).now) ticks_of timing_rate subframe_of _ _ _ (timing_by (first a).now) told;
      timing_encode = λ κs a r e told.
          keeps₁ (16 ∷ 18 ∷ []) (and_then (timing_given (first a) (second a) (third a)) encode_timing) (λ (b : List ℕ). b) _
          (timing_encoded_by (first a) (second a) (third a)) told;
    }

-- what is asked of a time of six numbers: 16, and the numbers of what is asked
module _ {A : Type 0} (ns : List ℕ) (more : all_among ns (16 ∷ []) ≡ true) (ask : Time → Answer A) (k : (t : Time) → By ns (ask t)) (hour minute second frame subframe rate : ℕ) where
  abbrev asked : Answer A
  asked = and_then (time_given hour minute second frame subframe rate) ask

  asked_by : By ns asked
  asked_by =
      then_by ns (time_given hour minute second frame subframe rate) ask
      (then_by ns (to_rate rate) _ (by_more ns (16 ∷ []) (to_rate rate) more (rate_by rate)) (λ _. tt)) k

  pub asked_keeps : {r : ℕ} (part : A → A) (u : A) {u' : A} → (r ≡ answered asked) × (u' ≡ leaves part asked u) → AnswersBy ns r (u' ≡ u)
  asked_keeps part u told = keeps₁ ns asked part u asked_by told

  pub asked_answers : {r : ℕ} → r ≡ answered asked → AnswersBy ns r (Unit {0})
  asked_answers told = rw told (answers ns asked (λ _. Unit {0}) asked_by (λ _. tt))

times : TimeRefusals
times =
    record {
      fps_as_code = λ κs a r e told. keeps₁ (16 ∷ []) (to_rate (first a)) code_of_rate _ (rate_by (first a)) told;
      fps_from_int = λ κs a r e told. keeps₁ (16 ∷ []) (to_rate (first a)) (λ (n : ℕ). n) _ (rate_by (first a)) told;
      fps_as_f32 = λ κs a r e told. keeps₁ (16 ∷ []) (to_rate (first a)) rate_float _ (rate_by (first a)) told;
      smpte_new = λ κs a r e told.
          let rules = from_bits (seventh a) in
          asked_answers (13 ∷ 16 ∷ []) refl (to_time rules) (λ t. by_more (13 ∷ 16 ∷ []) (13 ∷ []) (to_time rules t) refl (time_by rules t))
          (first a) (second a) (third a) (fourth a) (fifth a) (sixth a) told;
      smpte_read = λ κs a r e told.
          let rules = from_bits (sixth a) in
          keeps₁ (13 ∷ []) (time_of rules (first a) (second a) (third a) (fourth a) (fifth a)) six_of _
          (time_of_by rules (first a) (second a) (third a) (fourth a) (fifth a)) told;
      smpte_encode = λ κs a r e told.
          let rules = from_bits (seventh a) in
          asked_keeps (16 ∷ 18 ∷ []) refl (encode_time rules) (λ t. by_more (16 ∷ 18 ∷ []) (18 ∷ []) (encode_time rules t) refl (time_bytes_by rules t))
          (first a) (second a) (third a) (fourth a) (fifth a) (sixth a) (λ (b : List ℕ). b) _ told;
      smpte_second_f32 = λ κs a r e told.
          let rules = from_bits (seventh a) in
          asked_keeps (13 ∷ 16 ∷ []) refl (seconds_of rules) (λ t. by_more (13 ∷ 16 ∷ []) (13 ∷ []) (seconds_of rules t) refl (seconds_by rules t))
          (first a) (second a) (third a) (fourth a) (fifth a) (sixth a) (λ (x : Float). x) _ told;
      smpte_position = λ κs a r e told.
          let rules = from_bits (seventh a) in
          asked_keeps (13 ∷ 16 ∷ []) refl (position rules) (λ t. by_more (13 ∷ 16 ∷ []) (13 ∷ []) (position rules t) refl (position_by rules t))
          (first a) (second a) (third a) (fourth a) (fifth a) (sixth a) (λ (n : ℕ). n) _ told;
    }

bends : BendRefusals
bends =
    record {
      bend_as_int = λ κs a r e told. keeps₁ (18 ∷ []) (ask_bend (first a)) (λ (z : ℤ). z) _ (bend_by (first a)) told;
      bend_as_f32 = λ κs a r e told. keeps₁ (18 ∷ []) (ask_float binary32 (first a)) (λ (x : Float). x) _ (bend_float_by binary32 (first a)) told;
      bend_as_f64 = λ κs a r e told. keeps₁ (18 ∷ []) (ask_float binary64 (first a)) (λ (x : Float). x) _ (bend_float_by binary64 (first a)) told;
    }

-- one event, read
module _ (rules : Rules) (bytes : List ℕ) (running at : ℕ) (row : List ℕ) where
  event_outcome : (x : ReadAt) → EventOrLeft rules bytes running at x
      → Outcome (of_event rules.strict) (read_answered x) ((0 < read_used x) × (at + read_used x ≤ length bytes))
      ((read_row x row ≡ row) × (read_used x ≡ 0) × (read_running x ≡ status_left running (read_number rules (drop at bytes)) (read_answered x)) × (read_padding x ≡ 0))
  event_outcome (reads_at a) l = l
  event_outcome (refused_at zero used after padding) l = absurd (true≢false (sym l.0))
  event_outcome (refused_at (suc n) used after padding) l = (l.0, (refl, l.1, l.2, l.3))

-- a list, read
module _ (l : ListAt) (cells : List ℕ) where
  why_answers : (rules : Rules) (bytes : List ℕ) (most : ℕ) (stop : Stop) → Why rules bytes most l stop
      → (among (0 ∷ 255 ∷ []) (stop_number stop) ≡ true) ⊎ OneOf (20 ∷ of_event rules.strict) (stop_number stop)
  why_answers rules bytes most ended w = inl refl
  why_answers rules bytes most full w = inl refl
  why_answers rules bytes most (stopped n) w = inr (one_of_more (20 ∷ of_event rules.strict) (of_event rules.strict) n (more rules.strict) w.0) where
    more : (b : Bool) → all_among (20 ∷ of_event b) (of_event b) ≡ true
    more true = refl
    more false = refl

  list_answers : (rules : Rules) (bytes : List ℕ) (most : ℕ) → Why rules bytes most l l.stop
      → (among (0 ∷ 255 ∷ []) (read_answer l cells) ≡ true) ⊎ OneOf (20 ∷ of_event rules.strict) (read_answer l cells)
  list_answers rules bytes most w =
      by_lt (length cells) (length (sheet_of l.events))
      (λ h. rw (← put_full (sheet_of l.events) cells 0 (omega (arith, h))) (inr (twenty rules.strict)))
      (λ h. rw (← put_fits (sheet_of l.events) cells 0 (omega (arith, h))) (why_answers rules bytes most l.stop w)) where
        twenty : (b : Bool) → OneOf (20 ∷ of_event b) 20
        twenty true = refl
        twenty false = refl

-- what is told of a list that is handed out
module _ (l : ListAt) (rows : Lent (List ℕ)) (count place after padding : Lent ℕ) (r : ℕ) where
  list_told : (r ≡ read_answer l rows.before) × ((rows.after ≡ (sheet_put l rows.before).buffer)
      × ((count.after ≡ leaves (λ (n : ℕ). length l.events) (sheet_put l rows.before).answer count.before)
      × ((place.after ≡ leaves (λ (n : ℕ). l.place) (sheet_put l rows.before).answer place.before)
      × ((after.after ≡ leaves (λ (n : ℕ). l.running) (sheet_put l rows.before).answer after.before)
      × (padding.after ≡ leaves (λ (n : ℕ). l.padding) (sheet_put l rows.before).answer padding.before)))))
      → ListTold l rows count place after padding r
  list_told told =
      let put = sheet_of l.events in
      record {
        fits = λ h.
            let t = rw (← put_fits put rows.before 0 (omega (arith, h))) at told in
            record { answer = t.0; cells = t.1.0; many = t.1.1.0; reached = t.1.1.1.0; status = t.1.1.1.1.0; padded = t.1.1.1.1.1 };
        short = λ h.
            let t = rw (← put_full put rows.before 0 (omega (arith, h))) at told in
            (t.0, t.1.0, t.1.1.0, t.1.1.1.0, t.1.1.1.1.0, t.1.1.1.1.1);
      }

tracks : TrackRefusals
tracks =
    record {
      event_read_lem = λ κs a r e told.
          let rules = from_bits (fourth a) in
          rw (told.0, told.1.0, told.1.1.0, told.1.1.1.0, told.1.1.1.1)
          (event_outcome rules (first a).now (third a) (second a) (fifth a).now (event_at rules (third a) (first a).now (second a))
          (event_or_left rules (first a).now (third a) (second a)));
      event_length = λ κs a r e told.
          let judged = row_judged (from_bits (fourth a)) (second a).now (first a).now in
          keeps₂ of_length (size_event (third a) judged) (λ (n : Size). n.length) (λ (n : Size). n.running) _ _
          (event_length_by (third a) judged (row_by (from_bits (fourth a)) (second a).now (first a).now)) told;
      event_write = λ κs a r e told.
          event_write (from_bits (fourth a)) (third a) (second a).now (first a).now (fifth a).now (sixth a) (seventh a).now told;
      list_length = λ κs a r e told.
          list_length (from_bits (fifth a)) (fourth a) (third a).now (first a).now (second a) (sixth a).now (eighth a).now told;
      list_write = λ κs a r e told.
          list_write (from_bits (fifth a)) (fourth a) (third a).now (first a).now (second a) (seventh a).now (ninth a).now (sixth a).now told;
      list_read_answers = λ κs a r e told.
          let rules = from_bits (fourth a) in
          rw told.0
          (list_answers (list_given (fourth a) (third a) (first a).now (second a)) (fifth a).now rules (first a).now capacity
          (list_stands rules (first a).now (second a) capacity (third a)).why);
      list_read = λ κs a r e told.
          let rules = from_bits (fourth a) in
          let l = list_given (fourth a) (third a) (first a).now (second a) in
          (l, list_stands rules (first a).now (second a) capacity (third a), list_told l _ _ _ _ _ r told);
    }

-- what was asked of two rows, or of two sets of rows
handed_keeps : (ns : List ℕ) (x : Answer (Unit {0})) (r before after : ℕ) (Rule : Type 0) → By ns x → Handed r before after x Rule → AnswersBy ns r (after ≡ before)
handed_keeps ns (gives u) r before after Rule b h = rw h.0 tt
handed_keeps ns (refuses zero) r before after Rule b h = absurd (true≢false (sym b))
handed_keeps ns (refuses (suc n)) r before after Rule b h = rw h.0 (b, h.1)

rows_asked_by : (a b : List ℕ) → By (18 ∷ []) (rows_asked a b)
unfolding rows_asked
rows_asked_by a b = pick_both (By (18 ∷ [])) (is_row a && is_row b) tt refl

lists_asked_by : (most : ℕ) (a : List ℕ) (m : ℕ) (b : List ℕ) (n : ℕ) → By (18 ∷ 21 ∷ []) (lists_asked most a m b n)
unfolding lists_asked
lists_asked_by most a m b n =
    pick_both (By (18 ∷ 21 ∷ [])) (leb m most && leb n most) (pick_both (By (18 ∷ 21 ∷ [])) (are_rows m a && are_rows n b) tt refl) refl

sameness : SameRefusals
sameness =
    record {
      event_same = λ κs a r e told.
          handed_keeps (18 ∷ []) (rows_asked (first a).now (third a).now) r _ _ _ (rows_asked_by (first a).now (third a).now) told;
      list_same = λ κs a r e told.
          handed_keeps (18 ∷ 21 ∷ []) (lists_asked capacity (first a).now (second a) (fourth a).now (fifth a)) r _ _ _
          (lists_asked_by capacity (first a).now (second a) (fourth a).now (fifth a)) told;
    }

sounding : SoundingRefusals
sounding =
    record {
      sounding_after = λ κs a r e told.
          answers_beside (18 ∷ 21 ∷ []) (third a).now (rows_accepted capacity (first a).now (second a)) _ told (rows_accepted_by capacity (first a).now (second a));
      sounding_silence = λ κs a r e told.
          let table = table_in (first a).now in
          rows_answers (silence capacity table (second a) (third a)) (fourth a).now (silence_by capacity table (second a) (third a)) told;
    }

-- a track of a bank, listed
module _ (block : List ℕ) (index bits : ℕ) (rows : Lent (List ℕ)) (count place after padding : Lent ℕ) (r : ℕ) where
  abbrev listing : Answer ListAt
  listing = track_listed (from_bits bits) capacity most_tracks block index

  bank_listed : (r ≡ stop_answered listing rows.before) × ((rows.after ≡ list_cells listing rows.before)
      × ((count.after ≡ list_leaves (λ (l : ListAt). length l.events) listing rows.before count.before)
      × ((place.after ≡ list_leaves (λ (l : ListAt). l.place) listing rows.before place.before)
      × ((after.after ≡ list_leaves (λ (l : ListAt). l.running) listing rows.before after.before)
      × (padding.after ≡ list_leaves (λ (l : ListAt). l.padding) listing rows.before padding.before)))))
      → (OneOf of_bank_track r × Unchanged rows × Unchanged count × Unchanged place × Unchanged after × Unchanged padding)
      ⊎ ((track : Span) × (track_at most_tracks block index ≡ gives track) × (inside block track ≡ true)
      × ((l : ListAt) × ListStands (from_bits bits) (bytes_of block track) capacity 0 0 l × ListTold l rows count place after padding r))
  bank_listed told =
      by_answer (track_at most_tracks block index)
      (λ track is.
      let rules = from_bits bits in
      let l = list_at rules capacity 0 (bytes_of block track) 0 in
      let t = rw (listed_there most_tracks block index rules capacity track is) at told in
      inr (track, is, track_inside most_tracks block index is, (l, list_stands rules (bytes_of block track) 0 capacity 0, list_told l rows count place after padding r t)))
      (λ n is.
      let t = rw (listed_refused most_tracks block index (from_bits bits) capacity n is) at told in
      inl (rw t.0 (said_refused (By of_bank_track) (track_by most_tracks block index) is), t.1.0, t.1.1.0, t.1.1.1.0, t.1.1.1.1.0, t.1.1.1.1.1))

banks : BankRefusals
banks =
    record {
      bank_read = λ κs a r e told.
          keeps₂ of_bank (read_bank most_tracks (first a).now) (λ (tracks : List Span). cells_of (held_tracks most_tracks tracks).tracks) (λ (tracks : List Span). length tracks) _ _
          (bank_by most_tracks (first a).now) told;
      bank_track_lem = λ κs a r e told.
          keeps₂ of_bank_track (track_at most_tracks (first a).now (second a)) (λ (track : Span). track.start) (λ (track : Span). track.length) _ _
          (track_by most_tracks (first a).now (second a)) told;
      bank_list = λ κs a r e told. bank_listed (first a).now (second a) (third a) _ _ _ _ _ r told;
      bank_write = λ κs a r e told.
          let ranges = ranges_in most_tracks (second a).now in
          let own = ranges_bank most_tracks (first a).now ranges (third a) in
          writes of_bank_writing _ _ (write own (fourth a).now 0)
          (write_keeps of_bank_writing own (fourth a).now 0 (ranges_bank_by most_tracks (first a).now ranges (third a)) refl) told;
    }

pub entry_point_1 : EntryPoint1
entry_point_1 = record { numbers = numbers; fields = fields; times = times; bends = bends; tracks = tracks; sameness = sameness; sounding = sounding; banks = banks }
