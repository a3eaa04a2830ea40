-- The clauses of SMF, proved: what is in its form is read as it stands, and every accepted write is in its form and in no longer one.
use Rattle.write.specs.declared.answer.WriteRefused.{WriteRefused}
use Rattle.std.specs.Prelude.{Result}
use Rattle.base.specs.declared.Refusal.{Refusal}
use Rattle.number.specs.declared.payload.Payload.{Payload}
use Rattle.write.specs.declared.answer.Past.{Past}
use Rattle.event.specs.declared.read.EventRefused.{EventRefused}
use Rattle.event.specs.declared.read.EventAt.{EventAt}
use mathlib.Core.Path.{◌≡◌, refl, sym, ap, ◌∙◌, subst}
use mathlib.Core.Bool.{Bool, true, false, ◌&&◌}
use mathlib.Core.List.{List, [], ◌∷◌, ◌++◌, append_assoc}
use Prim.Native.Nat.{ℕ, suc, ◌+◌, ◌-◌, ◌*◌, ◌/◌, ◌%◌, ◌^◌, ◌≤◌, ◌<◌}
use native.Mathlib.Omega.{arith}
use lib.Dec.{ltb, leb, eqb}
use lib.IntN.{ℤ, pos, negsuc}
use lib.Signed.{mag}
use lib.ListN.{length, take, drop, length-append, length-drop}
use lib.Seq.{take_at, drop_at, length-take-le}
use borrow.Author.Tests.{lt-ltb, le-ltb, ltb-true, le-leb, eqb-true, leb-true, leb-false}
use Rattle.smf.specs.Answer.{pick, Answer, gives, refuses, Rules}
use Rattle.smf.specs.Running.{is_running}
use Rattle.smf.specs.Number.{numeral, encode_number}
use Rattle.smf.specs.Payload.{encode_payload}
use Rattle.smf.specs.Write.{Written, over, put, write, number_bytes, payload_bytes}
use Rattle.smf.specs.Place.{Span, payload_at}
use Rattle.smf.specs.Signed.{byte_of_signed}
use Rattle.smf.specs.Smpte.{Time, is_rate, to_rate, code_of_rate, is_time, time_bytes}
use Rattle.smf.specs.Wire.{taken, Raw, typed, encode_raw, encode_raw_event, running_after}
use Rattle.smf.specs.Kind as kind
use Rattle.smf.specs.Kind.{Message, Meta, Kind, raw_message, raw_meta, raw_of}
use Rattle.smf.specs.Event.{Event, message_fits, meta_fits, kind_fits, carries, meta_carries, kind_load, kind_misnamed, is_named, legal, encode_event, EventWritten, event_written, write_judged, write_event, event, map_kind, span_before, event_at, reads_at}
use Rattle.smf.proofs.Legal.{is_legal}
use Rattle.smf.proofs.Event.{is_legal_lem, event_read_lem, legal_exactly}
use Rattle.smf.proofs.Answer.{by_test, by_answer, by_lt, both, given, pick_test}
use Rattle.smf.proofs.Number.{encode_is_number, encode_value, shortest}
use Rattle.smf.proofs.Write.{number_bytes_wide, number_bytes_lem, part_outside, part_long, part_bytes}
use Rattle.smf.proofs.Payload.{encode_payload_length}
use Rattle.smf.proofs.Kind.{LegalKind, is_text_lem}
use Rattle.smf.proofs.Smpte.{by_rate, rate_small, in_range, time_length}
use Rattle.smf.specs.Header as smf
use Rattle.smf.specs.Header.{two_bytes_of, read_field, to_format, is_format, read_format, format_bytes, is_timing, timing_from, read_timing, timing_bytes, encode_timing}
use Rattle.base.specs.Rules.{rules_of}
use Rattle.base.specs.declared.Rules as base
use Rattle.base.specs.declared.Running.{Running}
use Rattle.base.specs.declared.Range.{Range}
use Rattle.number.specs.Varlen.{written_to, write_left}
use Rattle.number.specs.Payload.{slice_read}
use Rattle.number.specs.declared.u28.{u28}
use Rattle.header.specs.Format.{format_of}
use Rattle.header.specs.Timing.{timing_of}
use Rattle.header.specs.declared.format.Format.{Format}
use Rattle.header.specs.declared.format.Format.TheVariants as format
use Rattle.event.specs.Event.{event_of, event_read}
use Rattle.event.specs.declared.TrackEvent.{TrackEvent}
use Rattle.write.specs.Wrote.{wrote_event}
use Rattle.claims.specs.SmfForms as form
use Rattle.claims.specs.SmfForms.{NumberForm, PayloadForm, ChannelForm, between, RateCode, KeyByte, ModeByte, Unnamed, MetaForm, BodyForm, EventForm, payload_padding, event_padding, FormatForm, TimingForm, Fewest, SmfForms}
use Rattle.claims.proofs.Calls as calls
use Rattle.claims.proofs.Point3Calls.{event_end}
use Rattle.claims.proofs.SmfReads as reads
use Rattle.claims.proofs.SmfReads.{neither}

same_answer : {A : Type 0} {a b : A} → gives a ≡ gives b → a ≡ b
same_answer e = cc

no_answer : {A : Type 0} {n : ℕ} {b : A} → refuses n ≡ gives b → ⊥
no_answer e = let z : ◌≡◌ {A = ℕ} 0 1 = cc in absurd (omega arith)

-- Every legal kind has a form

number_form : (v : ℕ) → v < 2 ^ 28 → NumberForm v (encode_number v)
number_form v h = record { is = encode_is_number v; stands = encode_value v h }

payload_form : (p : List ℕ) → length p < 2 ^ 28 → PayloadForm p (encode_payload p)
unfolding encode_payload
payload_form p h = record { number = encode_number (length p); counts = number_form (length p) h; whole = refl }

coded : (rate : ℕ) → is_rate rate ≡ true → RateCode (code_of_rate rate) rate
unfolding code_of_rate
coded = by_rate (λ (rate : ℕ). RateCode (code_of_rate rate) rate) form.fps24 form.fps25 form.fps29 form.fps30

key_form : (z : ℤ) → mag z < 128 → KeyByte z (byte_of_signed z)
unfolding byte_of_signed
key_form (pos n) h = form.sharps h
key_form (negsuc n) h = let e : 256 - suc n ≡ 255 - n = omega arith in subst (KeyByte (negsuc n)) e (form.flats {n = suc n} (omega arith) (omega arith))

mode_form : (minor : Bool) → ModeByte minor (pick minor 1 0)
mode_form true = form.minor
mode_form false = form.major

-- a type at which no name is given: each of those with a least length, or none of those with a name
module _ (t n : ℕ) where
  short : (u least : ℕ) → (eqb t u && leb least n) ≡ false → ((n < least) → Unnamed u n) → (eqb t u ≡ false → Unnamed t n) → Unnamed t n
  short u least o named others =
      by_test (eqb t u)
      (λ e. subst (λ (m : ℕ). Unnamed m n) (sym (eqb-true t u e)) (named (leb-false least n (rw e at o))))
      others

  pub unnamed_form : (rules : Rules) → is_named rules t n ≡ false → Unnamed t n
  unfolding is_named
  unnamed_form rules o =
      let signature = neither _ (eqb t 0x58 && leb 4 n) o in
      let smpte = neither _ (eqb t 0x54 && leb 5 n) signature.0 in
      let tempo = neither _ (eqb t 0x51 && leb 3 n) smpte.0 in
      let port = neither _ (eqb t 0x21 && leb 1 n) tempo.0 in
      let channel = neither _ (eqb t 0x20 && leb 1 n) port.0 in
      let sequencer = neither _ (eqb t 0x7F) channel.0 in
      let key = neither _ (eqb t 0x59) sequencer.0 in
      let end = neither _ (eqb t 0x2F) key.0 in
      short 0x20 1 channel.1 form.channel (λ a. short 0x21 1 port.1 form.port (λ b. short 0x51 3 tempo.1 form.tempo
      (λ c. short 0x54 5 smpte.1 form.smpte (λ d. short 0x58 4 signature.1 form.signature
      (λ e. form.other (leb-false t 0x09 end.0) (rw (a, b, end.1, c, d, e, key.1, sequencer.1)))))))

below : (a b : ℕ) → (ltb a 128 && ltb b 128) ≡ true → (a < 0x80) × (b < 0x80)
below a b f = let g = both (ltb a 128) (ltb b 128) f in (ltb-true a 128 g.0, ltb-true b 128 g.1)

module _ (rules : Rules) (running : ℕ) where
  -- the body of a kind as it is written, and the running status after it
  abbrev InForm : Kind (List ℕ) → Raw → Type 0
  InForm k raw = BodyForm running k (encode_raw running raw) (running_after raw)

  -- the status byte is left out exactly when it is the running status
  with_status : {c status : ℕ} {m : Message} {s : List ℕ} → c < 16 → ChannelForm c m status s → BodyForm running (kind.midi c m) (pick (eqb running status) s (status ∷ s)) status
  with_status {c} {status} {m} {s} low f =
      pick_test (λ (l : List ℕ). BodyForm running (kind.midi c m) l status) (eqb running status)
      (λ e. let same = eqb-true running status e in
      subst (λ (n : ℕ). BodyForm running (kind.midi c m) s n) same (form.under low (subst (λ (n : ℕ). ChannelForm c m n s) (sym same) f)))
      (λ _. form.channel low f)

  message_form : (c : ℕ) (m : Message) → c < 16 → message_fits rules m ≡ true → InForm (kind.midi c m) (raw_message c m)
  unfolding message_fits raw_message encode_raw
  message_form c (kind.note_off key vel) low f = let g = below key vel f in with_status low (form.note_off g.0 g.1)
  message_form c (kind.note_on key vel) low f = let g = below key vel f in with_status low (form.note_on g.0 g.1)
  message_form c (kind.aftertouch key vel) low f = let g = below key vel f in with_status low (form.aftertouch g.0 g.1)
  message_form c (kind.controller number value) low f = let g = below number value f in with_status low (form.controller g.0 g.1)
  message_form c (kind.program_change program) low f = with_status low (form.program_change (ltb-true program 128 f))
  message_form c (kind.channel_aftertouch vel) low f = with_status low (form.channel_aftertouch (ltb-true vel 128 f))
  message_form c (kind.pitch_bend raw) low f =
      let g = ltb-true raw 16384 f in
      let e : raw / 128 * 128 + raw % 128 ≡ raw = omega arith in
      with_status low (subst (λ (n : ℕ). ChannelForm c (kind.pitch_bend n) (0xE0 + c) (raw % 128 ∷ raw / 128 ∷ [])) e (form.pitch_bend (omega arith) (omega arith)))

  with_type : {m : Meta (List ℕ)} {t : ℕ} {p : List ℕ} → length p < 2 ^ 28 → MetaForm m t p → InForm (kind.meta m) (typed t p)
  unfolding encode_raw
  with_type {p = p} h f = form.meta f (payload_form p h)

  time_form : (t : Time) → is_time rules t ≡ true → MetaForm (kind.smpte_offset t) 0x54 (time_bytes t)
  unfolding time_bytes
  time_form t is =
      let r = in_range rules t is in
      form.smpte_offset (coded t.rate r.rated) r.hour-below r.minute-below r.second_below r.frame_below r.subframe-below

  meta_form : (m : Meta (List ℕ)) → meta_fits rules m ≡ true → kind_misnamed rules length (kind.meta m) ≡ false → length (kind_load [] (kind.meta m)) < 2 ^ 28 → InForm (kind.meta m) (raw_meta m)
  unfolding meta_fits carries meta_carries raw_meta
  meta_form (kind.track_number n) f o h =
      let g = ltb-true n 65536 f in
      let e : n / 256 * 256 + n % 256 ≡ n = omega arith in
      with_type (omega arith) (subst (λ (k : ℕ). MetaForm (kind.track_number k) 0x00 (n / 256 ∷ n % 256 ∷ [])) e (form.sequence_number (omega arith) (omega arith)))
  meta_form kind.no_track_number f o h = with_type h form.no_number
  meta_form (kind.text t p) f o h = let g = is_text_lem t f in with_type h (form.text g.0 g.1)
  meta_form (kind.midi_channel c) f o h = with_type (omega arith) (form.channel_prefix (ltb-true c 16 f))
  meta_form (kind.midi_port c) f o h = with_type (omega arith) (form.port (ltb-true c 128 f))
  meta_form kind.end_of_track f o h = with_type h form.end_of_track
  meta_form (kind.tempo v) f o h =
      let g = ltb-true v 16777216 f in
      let e : v / 256 / 256 * 65536 + v / 256 % 256 * 256 + v % 256 ≡ v = omega arith in
      with_type (omega arith)
      (subst (λ (k : ℕ). MetaForm (kind.tempo k) 0x51 (v / 256 / 256 ∷ v / 256 % 256 ∷ v % 256 ∷ [])) e (form.tempo (omega arith) (omega arith) (omega arith)))
  meta_form (kind.smpte_offset t) f o h = with_type (omega (arith, time_length t)) (time_form t f)
  meta_form (kind.time_signature a b c d) f o h =
      let f1 = both _ _ f in
      let f2 = both _ _ f1.0 in
      let f3 = both _ _ f2.0 in
      with_type (omega arith) (form.time_signature (ltb-true a 256 f3.0) (ltb-true b 256 f3.1) (ltb-true c 256 f2.1) (ltb-true d 256 f1.1))
  meta_form (kind.key_signature z minor) f o h = with_type (omega arith) (form.key_signature (key_form z (ltb-true (mag z) 128 f)) (mode_form minor))
  meta_form (kind.sequencer_specific p) f o h = with_type h form.sequencer_specific
  meta_form (kind.unknown t p) f o h = with_type h (form.unknown (unnamed_form t (length p) rules o))

  kind_form : (k : Kind (List ℕ)) → LegalKind rules k → InForm k (raw_of k)
  unfolding kind_fits carries raw_of encode_raw
  kind_form (kind.midi c m) l = let f = both _ _ l.fits in message_form c m (ltb-true c 16 f.0) f.1
  kind_form (kind.sys_ex p) l = form.sys_ex (payload_form p l.small)
  kind_form (kind.escape p) l = form.escape (payload_form p l.small)
  kind_form (kind.meta m) l = meta_form m l.fits l.own l.small

  event_form : (e : Event (List ℕ)) → is_legal rules e ≡ true → EventForm running e (running_after (raw_of e.kind)) (encode_event running e)
  unfolding encode_event encode_raw_event
  event_form e is =
      let l = is_legal_lem rules e is in
      record {
        delta = encode_number e.delta;
        body = encode_raw running (raw_of e.kind);
        ticks = number_form e.delta l.delta;
        stands = kind_form e.kind l.kind;
        whole = refl;
      }

-- No form is shorter than what is written

abbrev strictest : Rules
strictest = record { strict = true }

number_fewest : (v : ℕ) (others : List ℕ) → NumberForm v others → length (encode_number v) ≤ length others
number_fewest v others f =
    let few = shortest strictest refl (others ++ []) (numeral v []) (reads.number_read strictest v others [] f) in
    omega (arith, few, length-append others [])

payload_fewest : (p others : List ℕ) → PayloadForm p others → length (encode_payload p) ≤ length others
payload_fewest p others f =
    omega (arith, encode_payload_length p, number_fewest (length p) f.number f.counts, ap length f.whole, length-append f.number p)

event_fewest : (running : ℕ) (e : Event (List ℕ)) (after : ℕ) (others : List ℕ) → is_running running ≡ true → EventForm running e after others
    → length (encode_event running e) ≤ length others
event_fewest running e after others is f =
    let few = (event_read_lem strictest running (others ++ []) (taken e [] after (event_padding f)) (reads.event_read_lem strictest running e after others [] is f)).shortest refl in
    omega (arith, few, length-append others [])

-- What stands in the buffer behind an accepted write

pub over_between : (bs s : List ℕ) (at : ℕ) → at + length bs ≤ length s → between at (at + length bs) (over bs s at) ≡ bs
over_between bs s at room =
    let l = length-take-le at s (omega arith) in
    let w : length (take at s ++ bs) ≡ at + length bs = rw (length-append, l) in
    let front : take (at + length bs) (over bs s at) ≡ take at s ++ bs =
    ap (take (at + length bs)) (sym (append_assoc (take at s) bs _)) ∙ take_at (take at s ++ bs) _ (at + length bs) w
    in
    ap (drop at) front ∙ drop_at (take at s) bs at l

-- a write that was accepted: the bytes that the thing has stand at the place
pub record Put (a : Answer (List ℕ)) (at n : ℕ) (end : List ℕ) : Type 0 where
  pub bytes : List ℕ
  pub has : a ≡ gives bytes
  pub there : between at n end ≡ bytes

abbrev Puts : Answer (List ℕ) → ℕ → Written → Answer ℕ → Type 0
Puts a at w (gives n) = Put a at n w.buffer
Puts a at w (refuses m) = Unit {0}

puts : (a : Answer (List ℕ)) (s : List ℕ) (at : ℕ) → Puts a at (write a s at) (write a s at).answer
unfolding put
puts (refuses m) s at = tt
puts (gives bs) s at =
    pick_test (λ (w : Written). Puts (gives bs) at w w.answer) (leb (at + length bs) (length s))
    (λ t. record { bytes = bs; has = refl; there = over_between bs s at (leb-true _ _ t) }) (λ _. tt)

pub put_is : (a : Answer (List ℕ)) (s : List ℕ) (at n : ℕ) (w : Written) → w ≡ write a s at → w.answer ≡ gives n → Put a at n w.buffer
put_is a s at n w told e = subst (Puts a at w) e (subst (λ (x : Written). Puts a at x x.answer) (sym told) (puts a s at))

-- a number and a payload that have bytes have their shortest
pub number_shortest : (v : ℕ) (bs : List ℕ) → number_bytes v ≡ gives bs → (v < 2 ^ 28) × (bs ≡ encode_number v)
number_shortest v bs e =
    by_lt v (2 ^ 28) (λ h. (h, same_answer (sym e ∙ number_bytes_lem v h))) (λ h. absurd (no_answer (sym (number_bytes_wide v h) ∙ e)))

number_own : (v : ℕ) (bs : List ℕ) → number_bytes v ≡ gives bs → Fewest (NumberForm v) bs
number_own v bs e =
    let s = number_shortest v bs e in
    rw s.1 (record { form = number_form v s.0; fewest = number_fewest v })

payload_own : (bytes : List ℕ) (start n : ℕ) (bs : List ℕ) → payload_bytes bytes start n ≡ gives bs → Fewest (PayloadForm (take n (drop start bytes))) bs
payload_own bytes start n bs e =
    let p = take n (drop start bytes) in
    by_lt (length bytes) (start + n)
    (λ out. absurd (no_answer (sym (part_outside bytes start n out) ∙ e)))
    (λ inside. by_lt n (2 ^ 28)
    (λ h. subst (Fewest (PayloadForm p)) (same_answer (sym (part_bytes bytes start n inside h) ∙ e))
    (record { form = payload_form p (omega (arith, length-take-le n (drop start bytes) (omega (arith, length-drop start bytes)))); fewest = payload_fewest p }))
    (λ h. absurd (no_answer (sym (part_long bytes start n inside h) ∙ e))))

payload_at_lem : (rules : Rules) (raw : List ℕ) (at : ℕ) (p s rest : List ℕ) (f : PayloadForm p s) → drop at raw ≡ s ++ rest
    → payload_at rules raw at ≡ gives (record { span = record { start = at + length s - length p; length = length p }; padding = payload_padding f })
unfolding payload_at
payload_at_lem rules raw at p s rest f q =
    let n : length (s ++ rest) - length rest ≡ length s = omega (arith, length-append s rest) in
    rw (q, reads.payload_read rules p s rest f, n)

-- Header fields

format_is : (f high low : ℕ) (more : List ℕ) → FormatForm f high low → read_format (high ∷ low ∷ more) ≡ gives f
unfolding read_format read_field to_format is_format
format_is _ _ _ more (form.format {f} h) = let z : 0 * 256 + f ≡ f = omega arith in rw (z, le-leb f 2 h)

format_own : (f : Format) → (high : ℕ) × (low : ℕ) × FormatForm (format_of f) high low × (format_bytes (format_of f) ≡ high ∷ low ∷ [])
unfolding format_bytes
format_own format.SingleTrack = (0, 0, form.format {f = 0} (omega arith), refl)
format_own format.Parallel = (0, 1, form.format {f = 1} (omega arith), refl)
format_own format.Sequential = (0, 2, form.format {f = 2} (omega arith), refl)

timing_is : (t : smf.Timing) (high low : ℕ) (more : List ℕ) → TimingForm t high low → read_timing (high ∷ low ∷ more) ≡ gives t
unfolding read_timing read_field timing_from to_rate
timing_is _ _ _ more (form.metrical {high} {low} h l) = rw (lt-ltb high 128 h)
timing_is _ _ _ more (form.timecode {code} {rate} {subframe} r l) =
    let q = reads.rated code rate r in
    let small = rate_small rate q.1 in
    let back : 256 - (256 - rate) ≡ rate = omega arith in
    rw (le-ltb (256 - rate) 128 (omega arith), back, q.1)

timing_own : (t : smf.Timing) (bytes : List ℕ) → encode_timing t ≡ gives bytes → (high : ℕ) × (low : ℕ) × TimingForm t high low × (bytes ≡ high ∷ low ∷ [])
unfolding encode_timing is_timing timing_bytes
timing_own (smf.metrical ticks) bytes e =
    let g = given (ltb ticks 32768) (two_bytes_of ticks) 18 e in
    let small = ltb-true ticks 32768 g.0 in
    let whole : ticks / 256 * 256 + ticks % 256 ≡ ticks = omega arith in
    (ticks / 256, ticks % 256, subst (λ (n : ℕ). TimingForm (smf.metrical n) (ticks / 256) (ticks % 256)) whole (form.metrical (omega arith) (omega arith)), sym g.1)
timing_own (smf.timecode rate subframe) bytes e =
    let g = given (is_rate rate && ltb subframe 256) ((256 - rate) ∷ subframe ∷ []) 18 e in
    let f = both (is_rate rate) (ltb subframe 256) g.0 in
    (256 - rate, subframe, form.timecode (coded rate f.0) (ltb-true subframe 256 f.1), sym g.1)

-- Events

module _ (rules : Rules) (running : ℕ) (bytes : List ℕ) (event : Event Span) (out : List ℕ) (at : ℕ) where
  abbrev judged : Answer (Event (List ℕ))
  judged = legal rules bytes event

  abbrev written : EventWritten
  written = write_event running judged out at

  -- the judged event in its form, and the running status after it
  abbrev Own : EventWritten → ℕ → Type 0
  Own w n = (l : Event (List ℕ)) × (judged ≡ gives l) × Fewest (EventForm running l w.running) (between at n w.written.buffer)

  abbrev Owns : EventWritten → Answer ℕ → Type 0
  Owns w (gives n) = Own w n
  Owns w (refuses m) = Unit {0}

  legal_owns : is_running running ≡ true → (l : Event (List ℕ)) → judged ≡ gives l
      → (w : Written) → w ≡ put (encode_event running l) out at → Owns (event_written running (running_after (raw_of l.kind)) w) w.answer
  unfolding put
  legal_owns is l h w told =
      let own = encode_event running l in
      let x = (legal_exactly rules bytes event l).0 h in
      rw told
      (pick_test (λ (x : Written). Owns (event_written running (running_after (raw_of l.kind)) x) x.answer) (leb (at + length own) (length out))
      (λ t. (
        l,
        h,
        rw (over_between own out at (leb-true _ _ t))
            (record { form = event_form rules running l (rw x.2 x.1); fewest = λ others f. event_fewest running l _ others is f }),
      ))
      (λ _. tt))

  owns : Owns written written.written.answer
  unfolding write_event write_judged
  owns =
      by_test (is_running running)
      (λ is. by_answer judged (λ l h. rw (is, h) (legal_owns is l h (put (encode_event running l) out at) refl)) (λ m h. rw (is, h) tt))
      (λ not. rw not tt)

-- What the promises permit

number_said : (self : u28) (out : List ℕ) (at : ℕ) (r : Result ℕ Refusal) (end : List ℕ) → write_left r end ≡ write (number_bytes self.0) out at
    → (n : ℕ) → written_to r ≡ gives n → Fewest (NumberForm self.0) (between at n end)
number_said self out at r end told n e =
    let w = put_is (number_bytes self.0) out at n (write_left r end) told e in
    rw w.there (number_own self.0 w.bytes w.has)

payload_said : (bytes : List ℕ) (slice : Range) (out : List ℕ) (at : ℕ) (r : Result ℕ Refusal) (end : List ℕ)
    → write_left r end ≡ write (payload_bytes bytes slice.start slice.length) out at
    → (n : ℕ) → written_to r ≡ gives n → Fewest (PayloadForm (take slice.length (drop slice.start bytes))) (between at n end)
payload_said bytes slice out at r end told n e =
    let w = put_is (payload_bytes bytes slice.start slice.length) out at n (write_left r end) told e in
    rw w.there (payload_own bytes slice.start slice.length w.bytes w.has)

event_said : (event : TrackEvent) (running : Running) (rules : base.Rules) (bytes out : List ℕ) (at : ℕ) (r : Result Past WriteRefused) (end : List ℕ)
    → wrote_event r end ≡ write_event running.status (legal (rules_of rules) bytes (event_of event)) out at
    → (n : ℕ) → (wrote_event r end).written.answer ≡ gives n
    → (e : Event (List ℕ)) × (legal (rules_of rules) bytes (event_of event) ≡ gives e)
    × Fewest (EventForm running.status e (wrote_event r end).running) (between at n end)
event_said event running rules bytes out at r end told n e =
    let w = wrote_event r end in
    let o : Owns (rules_of rules) running.status bytes (event_of event) out at w w.written.answer =
    subst (λ (x : EventWritten). Owns (rules_of rules) running.status bytes (event_of event) out at x x.written.answer) (sym told)
    (owns (rules_of rules) running.status bytes (event_of event) out at)
    in
    let a : Own (rules_of rules) running.status bytes (event_of event) out at w n = subst (Owns (rules_of rules) running.status bytes (event_of event) out at w) e o in
    (a.0, a.1, subst (λ (s : List ℕ). Fewest (EventForm running.status a.0 w.running) (between at n s)) (event_end r end) a.2)

payload_read_said : (raw : List ℕ) (at : ℕ) (rules : base.Rules) (r : Result Payload Refusal) → slice_read r ≡ payload_at (rules_of rules) raw at
    → (p s rest : List ℕ) (f : PayloadForm p s) → drop at raw ≡ s ++ rest
    → slice_read r ≡ gives (record { span = record { start = at + length s - length p; length = length p }; padding = payload_padding f })
payload_read_said raw at rules r told p s rest f q = told ∙ payload_at_lem (rules_of rules) raw at p s rest f q

event_read_said : (raw : List ℕ) (at : ℕ) (running : Running) (rules : base.Rules) (r : Result EventAt EventRefused) → event_read r ≡ event_at (rules_of rules) running.status raw at
    → (e : Event (List ℕ)) (after : ℕ) (s rest : List ℕ) → is_running running.status ≡ true → (f : EventForm running.status e after s) → drop at raw ≡ s ++ rest
    → event_read r ≡ reads_at (record { event = event e.delta (map_kind (span_before (at + length s)) e.kind); used = length s; running = after; padding = event_padding f })
event_read_said raw at running rules r told e after s rest is f q = told ∙ reads.event_at_lem (rules_of rules) running.status e after raw at s rest is f q

pub smf_forms : SmfForms
smf_forms =
    record {
      number_written = calls.write_varlen _ number_said;
      payload_read = calls.read_varlen_slice _ payload_read_said;
      payload_written = calls.write_varlen_slice _ payload_said;
      event_read_lem = calls.read_event_lem _ event_read_said;
      event_written_lem = calls.write_event_lem _ event_said;
      format_read = λ κs a r e told f high low more h q. told ∙ ap read_format q ∙ format_is f high low more h;
      format_written = λ κs a r e told. let o = format_own a.0 in (o.0, o.1, o.2, told ∙ o.3);
      timing_read_lem = λ κs a r e told t high low more h q. told ∙ ap read_timing q ∙ timing_is t high low more h;
      timing_written = λ κs a r e told bytes h. timing_own (timing_of a.0) bytes (sym told ∙ h);
    }
