-- Bytes in SMF's form are read as what they stand for, in both modes.
use mathlib.Core.Path.{◌≡◌, refl, ap, ◌∙◌, subst}
use mathlib.Core.Bool.{Bool, true, false, true≢false, not, ◌||◌}
use mathlib.Core.List.{List, [], ◌∷◌, ◌++◌, append_assoc}
use Prim.Native.Nat.{ℕ, zero, suc, ◌+◌, ◌-◌, ◌*◌, ◌/◌, ◌%◌, ◌≤◌, ◌<◌}
use native.Mathlib.Nat.{add-zero, mod-eq_of_lt}
use native.Mathlib.Omega.{arith}
use lib.Dec.{leb, eqb}
use lib.IntN.{ℤ, pos, neg_ℤ}
use lib.ListN.{length, drop, length-append}
use lib.Seq.{take-append_seam, drop-append_seam}
use borrow.Author.Tests.{lt-ltb, le-ltb, le-leb, lt-leb, ne_eqb}
use Rattle.smf.specs.Answer.{pick, gives, Rules}
use Rattle.smf.specs.Running.{is_running}
use Rattle.smf.specs.Number.{numeral, read_number, beyond_fewest, padding_of}
use Rattle.smf.specs.Payload.{payload, payload_after, read_payload}
use Rattle.smf.specs.Signed.{signed_byte}
use Rattle.smf.specs.Smpte.{time, is_rate, rate_of_code, is_time, to_time, time_of}
use Rattle.smf.specs.Wire.{taken, Delta, reads, data_length, read_one, read_two, read_channel, read_meta, read_status, read_body, after_delta, read_raw}
use Rattle.smf.specs.Kind as kind
use Rattle.smf.specs.Kind.{Message, Meta, Kind, midi, message_one, message_two, is_text, track_number_of, narrow, time_in, called_meta, called}
use Rattle.smf.specs.Event.{Event, event, named, name_raw, read_event, map_kind, map_event, span_before, placed, event_at, reads_at}
use Rattle.smf.proofs.Number.{smf_read}
use Rattle.smf.proofs.Signed.{signed_low, signed_high}
use Rattle.smf.proofs.Smpte.{rate_small, is_time_lem}
use Rattle.smf.proofs.Running.{Channel}
use Rattle.claims.specs.SmfForms as form
use Rattle.claims.specs.SmfForms.{NumberForm, PayloadForm, ChannelForm, RateCode, KeyByte, ModeByte, Unnamed, MetaForm, BodyForm, EventForm, payload_padding, body_padding, event_padding}

pub neither : (a b : Bool) → (a || b) ≡ false → (a ≡ false) × (b ≡ false)
neither true b h = absurd (true≢false h)
neither false b h = (refl, h)

pub rated : (code rate : ℕ) → RateCode code rate → (rate_of_code code ≡ rate) × (is_rate rate ≡ true) × (code < 4)
unfolding rate_of_code is_rate
rated _ _ form.fps24 = (refl, refl, omega arith)
rated _ _ form.fps25 = (refl, refl, omega arith)
rated _ _ form.fps29 = (refl, refl, omega arith)
rated _ _ form.fps30 = (refl, refl, omega arith)

module _ (rules : Rules) where
  pub number_read : (v : ℕ) (n rest : List ℕ) → NumberForm v n → read_number rules (n ++ rest) ≡ gives (numeral v rest)
  number_read v n rest f = smf_read rules n rest f.is ∙ ap (λ (k : ℕ). gives (numeral k rest)) f.stands

  -- the bytes beyond the fewest are the form's own
  number_padded : (v : ℕ) (n rest : List ℕ) → padding_of (n ++ rest) (numeral v rest) ≡ beyond_fewest (length n) v
  number_padded v n rest = omega (arith, length-append n rest)

  pub payload_read : (p s rest : List ℕ) (f : PayloadForm p s) → read_payload rules (s ++ rest) ≡ gives (payload p rest (payload_padding f))
  unfolding read_payload payload_after
  payload_read p s rest f =
      let fits : leb (length p) (length (p ++ rest)) ≡ true = le-leb (length p) (length (p ++ rest)) (omega (arith, length-append p rest)) in
      rw (f.whole, append_assoc, number_read (length p) f.number (p ++ rest) f.counts, number_padded (length p) f.number (p ++ rest), fits, take-append_seam p rest, drop-append_seam p rest)

  -- Channel messages

  module _ (c : ℕ) (delta : Delta) (low : c < 16) where
    -- a status with its data behind it, and the data alone where the status runs
    record Reads (m : Message) (status : ℕ) (s : List ℕ) : Type 0 where
      is : Channel status
      reads_as : (rest : List ℕ) → name_raw rules (read_channel status delta (s ++ rest)) ≡ reads (taken (event delta.value (midi c m)) rest status delta.padding)
      runs : (rest : List ℕ) → read_body rules status delta (s ++ rest) ≡ read_channel status delta (s ++ rest)

    at_data : (status a : ℕ) (s : List ℕ) → Channel status → a < 0x80 → read_body rules status delta (a ∷ s) ≡ read_channel status delta (a ∷ s)
    unfolding read_body
    at_data status a s is h = rw (lt-ltb a 0x80 h, ne_eqb status 0 (omega (arith, is.low)))

    abbrev taking : ℕ → ℕ
    taking upper = pick (eqb upper 0xC) 1 (pick (eqb upper 0xD) 1 2)

    with_one : (upper a : ℕ) → 8 ≤ upper → upper < 15 → taking upper ≡ 1 → a < 0x80 → Reads (message_one upper a) (upper * 16 + c) (a ∷ [])
    unfolding data_length read_channel read_one name_raw named called
    with_one upper a l h takes p =
        let high : (upper * 16 + c) / 16 ≡ upper = omega arith in
        let rem : (upper * 16 + c) % 16 ≡ c = omega arith in
        let is : Channel (upper * 16 + c) = record { low = omega arith; high = omega arith } in
        record {
          is = is;
          reads_as = λ rest. rw (high, takes, lt-ltb a 0x80 p, rem, high);
          runs = λ rest. at_data (upper * 16 + c) a rest is p;
        }

    with_two : (upper a b : ℕ) → 8 ≤ upper → upper < 15 → taking upper ≡ 2 → a < 0x80 → b < 0x80 → Reads (message_two upper a b) (upper * 16 + c) (a ∷ b ∷ [])
    unfolding data_length read_channel read_two name_raw named called
    with_two upper a b l h takes p q =
        let high : (upper * 16 + c) / 16 ≡ upper = omega arith in
        let rem : (upper * 16 + c) % 16 ≡ c = omega arith in
        let is : Channel (upper * 16 + c) = record { low = omega arith; high = omega arith } in
        record {
          is = is;
          reads_as = λ rest. rw (high, takes, lt-ltb a 0x80 p, lt-ltb b 0x80 q, rem, high);
          runs = λ rest. at_data (upper * 16 + c) a (b ∷ rest) is p;
        }

    channel_read : (m : Message) (status : ℕ) (s : List ℕ) → ChannelForm c m status s → Reads m status s
    unfolding message_one message_two
    channel_read _ _ _ (form.note_off {key} {vel} p q) = with_two 0x8 key vel (omega arith) (omega arith) refl p q
    channel_read _ _ _ (form.note_on {key} {vel} p q) = with_two 0x9 key vel (omega arith) (omega arith) refl p q
    channel_read _ _ _ (form.aftertouch {key} {vel} p q) = with_two 0xA key vel (omega arith) (omega arith) refl p q
    channel_read _ _ _ (form.controller {number} {value} p q) = with_two 0xB number value (omega arith) (omega arith) refl p q
    channel_read _ _ _ (form.program_change {program} p) = with_one 0xC program (omega arith) (omega arith) refl p
    channel_read _ _ _ (form.channel_aftertouch {vel} p) = with_one 0xD vel (omega arith) (omega arith) refl p
    channel_read _ _ _ (form.pitch_bend {low} {high} p q) =
        let e : low + 128 * high ≡ high * 128 + low = omega arith in
        subst (λ (n : ℕ). Reads (kind.pitch_bend n) (0xE0 + c) (low ∷ high ∷ [])) e (with_two 0xE low high (omega arith) (omega arith) refl p q)

  -- Meta messages

  own : (a : ℕ) → a < 256 → a % 256 ≡ a
  own a h = mod-eq_of_lt h

  time_read : (code rate hour minute second frame subframe : ℕ) → RateCode code rate → hour < 24 → minute < 60 → second < 60 → frame < rate → subframe < 100
      → time_in rules ((code * 32 + hour) ∷ minute ∷ second ∷ frame ∷ subframe ∷ []) ≡ gives (time hour minute second frame subframe rate)
  unfolding time_of to_time
  time_read code rate hour minute second frame subframe r h m s f u =
      let q = rated code rate r in
      let few = rate_small rate q.1 in
      let first : (code * 32 + hour) % 256 ≡ code * 32 + hour = own (code * 32 + hour) (omega (arith, q.2)) in
      let low : (code * 32 + hour) % 32 ≡ hour = omega arith in
      let high : (code * 32 + hour) / 32 ≡ code = omega arith in
      let four : code % 4 ≡ code = mod-eq_of_lt q.2 in
      let is : is_time rules (time hour minute second frame subframe rate) ≡ true =
      is_time_lem rules (time hour minute second frame subframe rate)
      (record { rated = q.1; hour-below = h; minute-below = m; second_below = s; frame_below = f; subframe-below = u })
      in
      rw (first, own minute (omega arith), own second (omega arith), own frame (omega arith), own subframe (omega arith), low, high, four, q.0, is)

  flats_read : (n : ℕ) → 0 < n → n ≤ 128 → signed_byte ((256 - n) % 256) ≡ neg_ℤ (pos n)
  flats_read zero l h = absurd (omega arith)
  flats_read (suc n) l h =
      let e : 255 - (256 - suc n) ≡ n = omega arith in
      rw (own (256 - suc n) (omega arith), signed_high (256 - suc n) (omega arith) (omega arith), e)

  key_read : (z : ℤ) (a : ℕ) → KeyByte z a → signed_byte (a % 256) ≡ z
  key_read _ _ (form.sharps {n} h) = rw (own n (omega arith)) (signed_low n h)
  key_read _ _ (form.flats {n} l h) = flats_read n l h

  mode_read : (minor : Bool) (b : ℕ) → ModeByte minor b → not (eqb (b % 256) 0) ≡ minor
  mode_read _ _ form.major = refl
  mode_read _ _ form.minor = refl

  unnamed_read : (t n : ℕ) (p : List ℕ) → length p ≡ n → Unnamed t n → called_meta rules t p ≡ gives (kind.unknown t p)
  unfolding called_meta is_text
  unnamed_read _ _ p e (form.other {t} {n} above others) =
      let a = neither (eqb t 0x20) _ others in
      let b = neither (eqb t 0x21) _ a.1 in
      let c = neither (eqb t 0x2F) _ b.1 in
      let d = neither (eqb t 0x51) _ c.1 in
      let f = neither (eqb t 0x54) _ d.1 in
      let g = neither (eqb t 0x58) _ f.1 in
      let h = neither (eqb t 0x59) _ g.1 in
      let i = neither (eqb t 0x7F) _ h.1 in
      rw (ne_eqb t 0x00 (omega arith), le-leb 1 t (omega arith), lt-leb t 9 above, a.0, b.0, c.0, d.0, f.0, g.0, h.0, i.0)
  unnamed_read _ _ p e (form.channel {n} h) = rw (e, lt-leb 1 n h)
  unnamed_read _ _ p e (form.port {n} h) = rw (e, lt-leb 1 n h)
  unnamed_read _ _ p e (form.tempo {n} h) = rw (e, lt-leb 3 n h)
  unnamed_read _ _ p e (form.smpte {n} h) = rw (e, lt-leb 5 n h)
  unnamed_read _ _ p e (form.signature {n} h) = rw (e, lt-leb 4 n h)

  meta_read_lem : (m : Meta (List ℕ)) (t : ℕ) (p : List ℕ) → MetaForm m t p → called_meta rules t p ≡ gives m
  unfolding called_meta is_text track_number_of narrow
  meta_read_lem _ _ _ (form.sequence_number {high} {low} h l) = rw (own high h, own low l)
  meta_read_lem _ _ _ form.no_number = refl
  meta_read_lem _ _ _ (form.text {t} {p} l h) = rw (ne_eqb t 0 (omega arith), le-leb 1 t l, le-leb t 9 h)
  meta_read_lem _ _ _ (form.channel_prefix {c} h) = rw (own c (omega arith), lt-ltb c 16 h)
  meta_read_lem _ _ _ (form.port {c} h) = rw (own c (omega arith), lt-ltb c 128 h)
  meta_read_lem _ _ _ form.end_of_track = refl
  meta_read_lem _ _ _ (form.tempo {a} {b} {c} f g h) = rw (own a f, own b g, own c h)
  meta_read_lem _ _ _ (form.smpte_offset {code} {rate} {hour} {minute} {second} {frame} {subframe} r h m s f u) = rw (time_read code rate hour minute second frame subframe r h m s f u)
  meta_read_lem _ _ _ (form.time_signature {a} {b} {c} {d} f g h k) = rw (own a f, own b g, own c h, own d k)
  meta_read_lem _ _ _ (form.key_signature {z} {minor} {a} {b} k m) = rw (key_read z a k, mode_read minor b m)
  meta_read_lem _ _ _ form.sequencer_specific = refl
  meta_read_lem _ _ _ (form.unknown {t} {p} u) = unnamed_read t (length p) p refl u

  -- Events

  body_read : (running : ℕ) (delta : Delta) (k : Kind (List ℕ)) (s : List ℕ) (after : ℕ) (rest : List ℕ) (f : BodyForm running k s after)
      → name_raw rules (read_body rules running delta (s ++ rest)) ≡ reads (taken (event delta.value k) rest after (delta.padding + body_padding f))
  unfolding read_body read_status read_meta name_raw named called
  body_read running delta _ _ _ rest (form.channel {c} {status} {m} {s} low f) =
      let r = channel_read c delta low m status s f in
      rw (le-ltb status 0x80 r.is.low, lt-ltb status 0xF0 r.is.high, add-zero) (r.reads_as rest)
  body_read running delta _ _ _ rest (form.under {c} {m} {s} low f) =
      let r = channel_read c delta low m running s f in
      rw (r.runs rest, add-zero) (r.reads_as rest)
  body_read running delta _ _ _ rest (form.sys_ex {p} {s} f) = rw (payload_read p s rest f)
  body_read running delta _ _ _ rest (form.escape {p} {s} f) = rw (payload_read p s rest f)
  body_read running delta _ _ _ rest (form.meta {m} {t} {p} {s} n f) = rw (payload_read p s rest f, meta_read_lem m t p n)

  pub event_read_lem : (running : ℕ) (e : Event (List ℕ)) (after : ℕ) (s rest : List ℕ) → is_running running ≡ true → (f : EventForm running e after s)
      → read_event rules running (s ++ rest) ≡ reads (taken e rest after (event_padding f))
  unfolding read_event read_raw after_delta
  event_read_lem running e after s rest is f =
      let behind = f.body ++ rest in
      let delta : Delta = record { value = e.delta; padding = beyond_fewest (length f.delta) e.delta } in
      rw (f.whole, is, append_assoc, number_read e.delta f.delta behind f.ticks, number_padded e.delta f.delta behind, body_read running delta e.kind f.body after rest f.stands)

  pub event_at_lem : (running : ℕ) (e : Event (List ℕ)) (after : ℕ) (raw : List ℕ) (at : ℕ) (s rest : List ℕ) → is_running running ≡ true → (f : EventForm running e after s)
      → drop at raw ≡ s ++ rest
      → event_at rules running raw at ≡ reads_at (record { event = event e.delta (map_kind (span_before (at + length s)) e.kind); used = length s; running = after; padding = event_padding f })
  unfolding event_at placed map_event
  event_at_lem running e after raw at s rest is f q =
      let n : length (drop at raw) - length rest ≡ length s = omega (arith, ap length q, length-append s rest) in
      rw (q, event_read_lem running e after s rest is f, n)
