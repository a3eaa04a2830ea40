-- Reading one event as a reader at a place takes it: from the place of what it reads next, for an event that began earlier.
use mathlib.Core.Path.{◌≡◌, refl}
use mathlib.Core.Bool.{Bool, true, false}
use mathlib.Core.List.{List, [], ◌∷◌}
use mathlib.Core.Logic.{◌⊎◌, inl, inr, ⊎_elim}
use Prim.Native.Nat.{ℕ, suc, ◌+◌, ◌-◌, ◌/◌, ◌%◌, ◌≤◌, ◌<◌}
use native.Mathlib.Numerals.{add-one}
use native.Mathlib.Omega.{arith}
use lib.Dec.{ltb, eqb}
use lib.ListN.{length, drop, get_or, length-drop, drop_of_length-le}
use lib.Seq.{drop-cons}
use borrow.Author.Tests.{lt-ltb, le-ltb, ltb-true, ltb-false, ne_eqb}
use Rattle.smf.specs.Answer.{pick, Answer, gives, refuses, and_then, Rules}
use Rattle.smf.specs.Number.{read_number}
use Rattle.smf.specs.Payload.{Payload, read_payload}
use Rattle.smf.specs.Place.{place_of, NumberAt, number_at, Span, PayloadAt, payload_at, bytes_of}
use Rattle.smf.specs.Running.{is_running}
use Rattle.smf.specs.Wire.{raw_event, Taken, taken, Delta, Reading, reads, refused, system, typed, data_length, table_length, read_one, read_two, read_channel, with_payload, read_meta, read_status, read_body, after_delta, read_raw}
use Rattle.smf.specs.Kind.{Message, Meta, midi, sys_ex, escape, meta, message_one, message_two, called_meta, called}
use Rattle.smf.specs.Event.{Event, event, map_kind, map_event, named, name_raw, span_before, ReadAt, reads_at, refused_at, placed, read_event, event_at}
use Rattle.smf.specs.MetaAt.{MetaTaken, meta_named, read_meta_message, MetaAt, meta_placed, meta_at}
use Rattle.smf.proofs.Answer.{by_test, by_lt, said_of, said_refused}
use Rattle.smf.proofs.Payload.{PayloadLoaded, payload_loaded}
use Rattle.smf.proofs.Place.{Sited, site_next, Reached, NumberReached, number_reached}
use Rattle.smf.proofs.MetaAt.{end_of, LoadedAt, PayloadReached, payload_reached}

-- an event read, with the bytes used, the running status after it, and its padding
abbrev pub told : Event Span → ℕ → ℕ → ℕ → ReadAt
told e used running padding = reads_at (record { event = e; used = used; running = running; padding = padding })

-- Channel statuses

-- the message of a status and its data, of which C and D use the first alone
unfoldable pub message_with : ℕ → ℕ → ℕ → Message
message_with status a b = pick (eqb (data_length status) 1) (message_one (status / 16) a) (message_two (status / 16) a b)

-- the table's length of a channel status is its data's
pub channel_length : (st : ℕ) → 0x80 ≤ st → st < 0xF0 → table_length st ≡ data_length st
unfolding table_length
channel_length st h g = rw (le-ltb (st / 16) 0x8 (omega arith), lt-ltb (st / 16) 0xF (omega arith))

pub one_or_two : (st : ℕ) → (data_length st ≡ 1) ⊎ (data_length st ≡ 2)
unfolding data_length
one_or_two st = by_test (eqb (st / 16) 0xC) (λ t. inl (rw t)) (λ t. by_test (eqb (st / 16) 0xD) (λ u. inl (rw (t, u))) (λ u. inr (rw (t, u))))

pub data_some : (st : ℕ) → 0 < data_length st
data_some st = ⊎_elim (λ n. omega arith) (λ n. omega arith) (one_or_two st)

module _ (rules : Rules) (s : List ℕ) (start at st : ℕ) (delta : Delta) (site : Sited s start at) where
  abbrev channelled : ReadAt
  channelled = placed s start (name_raw rules (read_channel st delta (drop at s)))

  -- as many bytes used as the place after them says
  used_to : (p : ℕ) → Sited s start p → length (drop start s) - length (drop p s) ≡ p - start
  used_to p e = omega arith

  is_one : data_length st ≡ 1 → read_channel st delta (drop at s) ≡ read_one st delta (drop at s)
  unfolding read_channel
  is_one n = rw n

  is_two : data_length st ≡ 2 → read_channel st delta (drop at s) ≡ read_two st delta (drop at s)
  unfolding read_channel
  is_two n = rw n

  pub data_short : length s - at < data_length st → refused_at 8 0 st 0 ≡ channelled
  unfolding placed name_raw read_one read_two
  data_short h =
      ⊎_elim (λ n. rw (is_one n, drop_of_length-le s {i = at} (omega arith)))
      (λ n. by_lt at (length s)
      (λ g. rw (is_two n, drop-cons s at 0 g, drop_of_length-le s {i = suc at} (omega arith)))
      (λ g. rw (is_two n, drop_of_length-le s {i = at} g)))
      (one_or_two st)

  -- the first data byte, and the second
  first : 0 < length s - at → drop at s ≡ get_or s at 0 ∷ drop (at + 1) s
  first h = rw (add-one at, drop-cons s at 0 (omega arith))

  second : 1 < length s - at → drop (at + 1) s ≡ get_or s (at + 1) 0 ∷ drop (at + 2) s
  second h =
      let e : suc (at + 1) ≡ at + 2 = omega arith in
      rw (drop-cons s (at + 1) 0 (omega arith), e)

  pub data_top : data_length st ≤ length s - at → 0x80 ≤ get_or s at 0 → refused_at 9 0 st 0 ≡ channelled
  unfolding placed name_raw read_one read_two
  data_top h b =
      ⊎_elim (λ n. rw (is_one n, first (omega arith), le-ltb (get_or s at 0) 0x80 b))
      (λ n. rw (is_two n, first (omega arith), second (omega arith), le-ltb (get_or s at 0) 0x80 b))
      (one_or_two st)

  pub data_one : (b : ℕ) → data_length st ≤ length s - at → data_length st ≡ 1 → get_or s at 0 < 0x80
      → told (event delta.value (midi (st % 16) (message_with st (get_or s at 0) b))) (at + 1 - start) st delta.padding ≡ channelled
  unfolding placed name_raw read_one named called map_event map_kind message_with
  data_one b h n a =
      rw (is_one n, first (omega arith), lt-ltb (get_or s at 0) 0x80 a, used_to (at + 1) (site_next s start at (omega arith) site), n)

  module _ (h : data_length st ≤ length s - at) (n : data_length st ≡ 1 → ⊥) (a : get_or s at 0 < 0x80) where
    two : data_length st ≡ 2
    two = ⊎_elim (λ e. absurd (n e)) (λ e. e) (one_or_two st)

    pub data_more : at + 1 < length s
    data_more = omega (arith, two)

    pub data_second_top : 0x80 ≤ get_or s (at + 1) 0 → refused_at 9 0 st 0 ≡ channelled
    unfolding placed name_raw read_two
    data_second_top b =
        let m = data_more in
        rw (is_two two, first (omega arith), second (omega arith), lt-ltb (get_or s at 0) 0x80 a, le-ltb (get_or s (at + 1) 0) 0x80 b)

    pub data_two : get_or s (at + 1) 0 < 0x80
        → told (event delta.value (midi (st % 16) (message_with st (get_or s at 0) (get_or s (at + 1) 0)))) (at + 2 - start) st delta.padding ≡ channelled
    unfolding placed name_raw read_two named called map_event map_kind message_with
    data_two b =
        let m = data_more in
        let one : Sited s start (at + 1) = site_next s start at (omega arith) site in
        let z : at + 1 + 1 ≡ at + 2 = omega arith in
        let both : Sited s start (at + 2) = rw z at (site_next s start (at + 1) m one) in
        rw (is_two two, first (omega arith), second (omega arith), lt-ltb (get_or s at 0) 0x80 a, lt-ltb (get_or s (at + 1) 0) 0x80 b, used_to (at + 2) both, two)

-- Payloads: F0 and F7

-- the place of what is left is the same from where the event began
site_shift : (s : List ℕ) (start at : ℕ) (rest : List ℕ) → Sited s start at → length rest ≤ length (drop at s) → place_of s start rest ≡ place_of s at rest
site_shift s start at rest site h = omega (arith, length-drop at s, length-drop start s)

module _ (rules : Rules) (s : List ℕ) (start at st : ℕ) (delta : Delta) (site : Sited s start at) (within : at ≤ length s) where
  abbrev loaded : ReadAt
  loaded = placed s start (name_raw rules (with_payload delta (system st) (read_payload rules (drop at s))))

  pub payload_refused : {n : ℕ} → payload_at rules s at ≡ refuses n → refused_at n 0 0 0 ≡ loaded
  unfolding placed name_raw
  payload_refused {n} e =
      let r : read_payload rules (drop at s) ≡ refuses n = said_refused (PayloadReached rules s at) (payload_reached rules s at within) e in
      rw r

  module _ {load : PayloadAt} (e : payload_at rules s at ≡ gives load) where
    abbrev span : Span
    span = load.span

    reached : LoadedAt rules s at load
    reached = said_of (PayloadReached rules s at) (payload_reached rules s at within) e

    pub payload_fits : start ≤ end_of span
    payload_fits = let l = reached in omega (arith, l.past, site)

    -- the padding is among the bytes up to there
    pub payload_padded : at + load.padding ≤ end_of span
    payload_padded = let l = reached in omega (arith, l.past)

    pub payload_inside : end_of span ≤ length s
    payload_inside = reached.inside

    -- where the payload ends
    ends : place_of s start (drop (end_of span) s) ≡ end_of span
    ends = let l = reached in omega (arith, l.past, l.inside, length-drop start s, length-drop (end_of span) s, length-drop at s)

    carried : span_before (place_of s start (drop (end_of span) s)) (bytes_of s span) ≡ span
    carried =
        let l = reached in
        let b : end_of span - span.length ≡ span.start = omega arith in
        rw (ends, l.long, b)

    uses : length (drop start s) - length (drop (end_of span) s) ≡ end_of span - start
    uses = omega (arith, ends)

    pub payload_sys_ex : st ≡ 0xF0 → told (event delta.value (sys_ex span)) (end_of span - start) 0 (delta.padding + load.padding) ≡ loaded
    unfolding placed name_raw named called map_event map_kind
    payload_sys_ex t = rw (t, reached.read, carried, uses)

    pub payload_escape : (st ≡ 0xF0 → ⊥) → told (event delta.value (escape span)) (end_of span - start) 0 (delta.padding + load.padding) ≡ loaded
    unfolding placed name_raw named called map_event map_kind
    payload_escape t = rw (reached.read, ne_eqb st 0xF0 t, carried, uses)

-- Meta events

-- what a meta message makes of its event
abbrev meta_reading : Delta → Answer MetaTaken → Reading (Taken (Event (List ℕ)))
meta_reading delta (gives t) = reads (taken (event delta.value (meta t.message)) t.rest 0 (delta.padding + t.padding))
meta_reading delta (refuses n) = refused n 0

meta_named_lem : (rules : Rules) (delta : Delta) (t : ℕ) (a : Answer Payload)
    → name_raw rules (with_payload delta (typed t) a) ≡ meta_reading delta (and_then a (meta_named rules t))
unfolding name_raw named called
meta_named_lem rules delta t (refuses n) = refl
meta_named_lem rules delta t (gives p) = by (called_meta rules t p.bytes) where
  by : (a : Answer (Meta (List ℕ)))
      → named (taken (raw_event delta.value (typed t p.bytes)) p.rest 0 (delta.padding + p.padding)) (and_then a (λ m. gives (meta m)))
      ≡ meta_reading delta (and_then a (λ m. gives (record { message = m; rest = p.rest; padding = p.padding })))
  by (gives m) = refl
  by (refuses n) = refl

meta_reading_lem : (rules : Rules) (delta : Delta) (u : List ℕ) → name_raw rules (read_meta rules delta u) ≡ meta_reading delta (read_meta_message rules u)
unfolding read_meta read_meta_message name_raw
meta_reading_lem rules delta [] = refl
meta_reading_lem rules delta (t ∷ u) = meta_named_lem rules delta t (read_payload rules u)

-- what is left behind a meta message is left of what it was read from, and its padding is among the bytes used
abbrev Less : List ℕ → Answer MetaTaken → Type 0
Less u (gives t) = t.padding + length t.rest < length u
Less u (refuses n) = Unit {0}

meta_less : (rules : Rules) (u : List ℕ) → Less u (read_meta_message rules u)
unfolding read_meta_message
meta_less rules [] = tt
meta_less rules (t ∷ u) = by (read_payload rules u) (payload_loaded rules u) where
  called-less : (p : Payload) → p.padding + length p.rest ≤ length u → (a : Answer (Meta (List ℕ)))
      → Less (t ∷ u) (and_then a (λ m. gives (record { message = m; rest = p.rest; padding = p.padding })))
  called-less p h (gives m) = omega arith
  called-less p h (refuses n) = tt

  by : (a : Answer Payload) → PayloadLoaded rules u a → Less (t ∷ u) (and_then a (meta_named rules t))
  by (gives p) l = called-less p (omega (arith, l.padded)) (called_meta rules t p.bytes)
  by (refuses n) l = tt

module _ (rules : Rules) (s : List ℕ) (start at : ℕ) (delta : Delta) (site : Sited s start at) where
  abbrev typedly : ReadAt
  typedly = placed s start (name_raw rules (read_meta rules delta (drop at s)))

  -- by what the message's reader answered at the place
  abbrev pub Answers : Answer MetaAt → Type 0
  Answers (gives m) = (told (event delta.value (meta m.message)) (m.next - start) 0 (delta.padding + m.padding) ≡ typedly) × (start ≤ m.next) × (at + m.padding ≤ m.next)
  Answers (refuses n) = refused_at n 0 0 0 ≡ typedly

  pub meta_answers : Answers (meta_at rules s at)
  unfolding meta_at placed map_event map_kind
  meta_answers = by (read_meta_message rules (drop at s)) refl (meta_less rules (drop at s)) where
    by : (a : Answer MetaTaken) → read_meta_message rules (drop at s) ≡ a → Less (drop at s) a → Answers (and_then a (λ (t : MetaTaken). gives (meta_placed s at t)))
    by (refuses n) e l = rw (meta_reading_lem rules delta (drop at s), e)
    by (gives t) e l =
        let p : place_of s start t.rest ≡ place_of s at t.rest = site_shift s start at t.rest site (omega arith) in
        let u : length (drop start s) - length t.rest ≡ place_of s at t.rest - start = omega arith in
        (rw (meta_reading_lem rules delta (drop at s), e, p, u), omega arith, omega arith)

-- From a status byte on

module _ (rules : Rules) (running : ℕ) (delta : Delta) (st : ℕ) (s : List ℕ) where
  pub status_channel : st < 0xF0 → read_status rules running delta st s ≡ read_channel st delta s
  unfolding read_status
  status_channel h = rw (lt-ltb st 0xF0 h)

  pub status_meta : st ≡ 0xFF → read_status rules running delta st s ≡ read_meta rules delta s
  unfolding read_status
  status_meta h = rw h

  pub status_payload : (st ≡ 0xF0) ⊎ (st ≡ 0xF7) → read_status rules running delta st s ≡ with_payload delta (system st) (read_payload rules s)
  unfolding read_status
  status_payload h = ⊎_elim (λ e. rw e) (λ e. rw e) h

  module _ (h : 0xF0 ≤ st) (a : st ≡ 0xFF → ⊥) (b : st ≡ 0xF0 → ⊥) (c : st ≡ 0xF7 → ⊥) where
    pub status_common : st < 0xF7 → read_status rules running delta st s ≡ refused 6 running
    unfolding read_status
    status_common g = rw (le-ltb st 0xF0 h, ne_eqb st 0xFF a, ne_eqb st 0xF0 b, ne_eqb st 0xF7 c, lt-ltb st 0xF7 g)

    pub status_realtime : 0xF7 ≤ st → read_status rules running delta st s ≡ refused 7 running
    unfolding read_status
    status_realtime g = rw (le-ltb st 0xF0 h, ne_eqb st 0xFF a, ne_eqb st 0xF0 b, ne_eqb st 0xF7 c, le-ltb st 0xF7 g)

-- From behind the delta on

module _ (rules : Rules) (running : ℕ) (delta : Delta) (s : List ℕ) (at : ℕ) where
  pub body_missing : length s ≤ at → read_body rules running delta (drop at s) ≡ refused 4 running
  unfolding read_body
  body_missing h = rw (drop_of_length-le s h)

  at_byte : at < length s → drop at s ≡ get_or s at 0 ∷ drop (at + 1) s
  at_byte h = rw (add-one at, drop-cons s at 0 h)

  pub body_status : at < length s → 0x80 ≤ get_or s at 0 → read_body rules running delta (drop at s) ≡ read_status rules running delta (get_or s at 0) (drop (at + 1) s)
  unfolding read_body
  body_status h b = rw (at_byte h, le-ltb (get_or s at 0) 0x80 b)

  pub body_none : at < length s → get_or s at 0 < 0x80 → running ≡ 0 → read_body rules running delta (drop at s) ≡ refused 5 running
  unfolding read_body
  body_none h b z = rw (at_byte h, lt-ltb (get_or s at 0) 0x80 b, z)

  pub body_running : at < length s → get_or s at 0 < 0x80 → (running ≡ 0 → ⊥) → read_body rules running delta (drop at s) ≡ read_channel running delta (drop at s)
  unfolding read_body
  body_running h b z = rw (at_byte h, lt-ltb (get_or s at 0) 0x80 b, ne_eqb running 0 z)

-- a running status that is not none is a channel status
pub running_channel : (r : ℕ) → is_running r ≡ true → (r ≡ 0 → ⊥) → (0x80 ≤ r) × (r < 0xF0)
unfolding is_running
running_channel r h z = by (ltb r 0x80) refl (ltb r 0xF0) refl (rw (ne_eqb r 0 z) at h) where
  by : (t : Bool) → ltb r 0x80 ≡ t → (u : Bool) → ltb r 0xF0 ≡ u → pick t false u ≡ true → (0x80 ≤ r) × (r < 0xF0)
  by true e u f q = let y : ◌≡◌ {A = ℕ} 0 1 = cc in absurd (omega arith)
  by false e true f q = (ltb-false r 0x80 e, ltb-true r 0xF0 f)
  by false e false f q = let y : ◌≡◌ {A = ℕ} 0 1 = cc in absurd (omega arith)

-- The whole event

module _ (rules : Rules) (running : ℕ) (s : List ℕ) (at : ℕ) where
  pub event_invalid : is_running running ≡ false → refused_at 1 0 running 0 ≡ event_at rules running s at
  unfolding event_at placed read_event name_raw read_raw
  event_invalid h = rw h

  module _ (valid : is_running running ≡ true) where
    pub event_refused : {n : ℕ} → number_at rules s at ≡ refuses n → refused_at n 0 running 0 ≡ event_at rules running s at
    unfolding event_at placed read_event name_raw read_raw after_delta
    event_refused {n} e =
        let r : read_number rules (drop at s) ≡ refuses n = said_refused (NumberReached rules s at) (number_reached rules s at) e in
        rw (valid, r)

    pub event_body : {n : NumberAt} → number_at rules s at ≡ gives n
        → (placed s at (name_raw rules (read_body rules running (record { value = n.value; padding = n.padding }) (drop n.next s))) ≡ event_at rules running s at)
        × Sited s at n.next × (n.padding ≤ n.next)
    unfolding event_at read_event read_raw after_delta
    event_body {n} e =
        let r : Reached rules s at n = said_of (NumberReached rules s at) (number_reached rules s at) e in
        (rw (valid, r.read, r.padded), r.site, omega (arith, r.padded, r.site))
