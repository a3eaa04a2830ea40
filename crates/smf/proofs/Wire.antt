-- The laws of raw events: what is written is read back, what is read is sound and ends past its start, and nothing shorter is read as it.
use mathlib.Core.Path.{◌≡◌, refl, sym, ap, ◌∙◌}
use mathlib.Core.Bool.{Bool, true, false}
use mathlib.Core.List.{List, [], ◌∷◌, ◌++◌, append_assoc}
use mathlib.Core.Logic.{◌⊎◌, inl, inr, ⊎_elim}
use Prim.Native.Nat.{ℕ, ◌+◌, ◌-◌, ◌^◌, ◌≤◌, ◌<◌}
use native.Mathlib.Nat.{add-zero}
use native.Mathlib.Omega.{arith}
use lib.Dec.{ltb, eqb}
use lib.ListN.{length, take, length-append, take-append-drop}
use borrow.Author.Tests.{lt-ltb, le-ltb, ltb-true, ltb-false, eq-eqb, ne_eqb, eqb-true, eqb-false}
use Rattle.smf.specs.Answer.{pick, Answer, gives, refuses, Rules, leniently}
use Rattle.smf.specs.Running.{is_running}
use Rattle.smf.specs.Number.{Numeral, read_number, encode_number}
use Rattle.smf.specs.Payload.{Payload, read_payload, encode_payload}
use Rattle.smf.specs.Wire.{Raw, one, two, system, typed, RawEvent, raw_event, Taken, taken, Delta, delta_read, Reading, reads, refused, data_length, read_one, read_two, read_channel, with_payload, read_meta, read_status, read_body, after_delta, read_raw, encode_raw, running_after, encode_raw_event}
use Rattle.smf.proofs.Answer.{pick_test, Alike, pick_alike}
use Rattle.smf.proofs.Number.{reads_back, encode_unpadded, Took, NumberTook, read_took, encode_one, number_alike}
use Rattle.smf.proofs.Payload.{encode_payload_length, payload_reads_back, PayloadLoaded, payload_loaded, payload_alike}
use Rattle.smf.proofs.Ends.{Ends, ends_after, loaded_ends}
use Rattle.smf.proofs.Running.{Channel, channel_runs, none_runs, running_is}

-- What a raw event that can be read or written is

-- a channel status that takes one data byte, or does not
abbrev pub takes_one : ℕ → Bool
takes_one status = eqb (data_length status) 1

-- the status is one of its form's, data bytes have bit 7 clear, and a payload's length can be written
abbrev pub Sound : Raw → Type 0
Sound (one status a) = Channel status × (takes_one status ≡ true) × (a < 0x80)
Sound (two status a b) = Channel status × (takes_one status ≡ false) × (a < 0x80) × (b < 0x80)
Sound (system status p) = ((status ≡ 0xF0) ⊎ (status ≡ 0xF7)) × (length p < 2 ^ 28)
Sound (typed t p) = length p < 2 ^ 28

-- the payload of a raw event, if it has one
abbrev pub load_of : Raw → List ℕ
load_of (one status a) = []
load_of (two status a b) = []
load_of (system status p) = p
load_of (typed t p) = p

pub load_small : (raw : Raw) → Sound raw → length (load_of raw) < 2 ^ 28
load_small (one status a) h = omega arith
load_small (two status a b) h = omega arith
load_small (system status p) h = h.1
load_small (typed t p) h = h

pub after_runs : (raw : Raw) → Sound raw → is_running (running_after raw) ≡ true
after_runs (one status a) h = channel_runs status h.0
after_runs (two status a b) h = channel_runs status h.0
after_runs (system status p) h = none_runs
after_runs (typed t p) h = none_runs

-- What is read

-- the bytes and the rest fit into s; or nothing is left, and they would with one byte more: a payload cut off before its number, read leniently
abbrev pub Fewest : List ℕ → List ℕ → List ℕ → Type 0
Fewest s bytes rest = (length bytes + length rest ≤ length s) ⊎ ((rest ≡ []) × (length bytes ≤ length s + 1))

-- what every raw event is that is read of the bytes s behind a delta: sound, with s ending in its payload and the rest,
-- and with s no shorter than what is written for it, and the rest; behind the delta's its padding is among the bytes used
pub record Body (rules : Rules) (running : ℕ) (delta : Delta) (s : List ℕ) (t : Taken RawEvent) : Type 0 where
  pub same : t.value.delta ≡ delta.value
  pub sound : Sound t.value.raw
  pub after : t.running ≡ running_after t.value.raw
  pub ends : Ends s (load_of t.value.raw) t.rest
  pub fewest : Fewest s (encode_raw running t.value.raw) t.rest
  pub shortest : rules.strict ≡ true → length (encode_raw running t.value.raw) + length t.rest ≤ length s
  pub padded : t.padding + length t.rest ≤ delta.padding + length s

abbrev BodyRead : Rules → ℕ → Delta → List ℕ → Reading (Taken RawEvent) → Type 0
BodyRead rules running delta s (reads t) = Body rules running delta s t
BodyRead rules running delta s (refused n after) = Unit {0}

-- how many status bytes are written: none where it is the running status, else one
lead : ℕ → ℕ → ℕ
lead running status = pick (eqb running status) 0 1

lead_most : (running status : ℕ) → lead running status ≤ 1
unfolding lead
lead_most running status = pick_test (λ (n : ℕ). n ≤ 1) (eqb running status) (λ e. omega arith) (λ e. omega arith)

lead_spared : (status : ℕ) → lead status status ≡ 0
unfolding lead
lead_spared status = rw (eq-eqb status status refl)

pick_length : (t : Bool) (status : ℕ) (ds : List ℕ) → length (pick t ds (status ∷ ds)) ≡ pick t 0 1 + length ds
pick_length true status ds = omega arith
pick_length false status ds = omega arith

-- a raw event with n bytes before its payload, which leaves no running status
record Loads (of : List ℕ → Raw) (n : ℕ) : Type 0 where
  legal : (p : List ℕ) → length p < 2 ^ 28 → Sound (of p)
  load : (p : List ℕ) → load_of (of p) ≡ p
  clears : (p : List ℕ) → running_after (of p) ≡ 0
  size : (running : ℕ) (p : List ℕ) → length (encode_raw running (of p)) ≡ n + length (encode_payload p)

system_loads : (status : ℕ) → (status ≡ 0xF0) ⊎ (status ≡ 0xF7) → Loads (system status) 1
unfolding encode_raw
system_loads status h = record { legal = λ p g. (h, g); load = λ p. refl; clears = λ p. refl; size = λ running p. omega arith }

typed_loads : (t : ℕ) → Loads (typed t) 2
unfolding encode_raw
typed_loads t = record { legal = λ p g. g; load = λ p. refl; clears = λ p. refl; size = λ running p. omega arith }

no_bytes : (s : List ℕ) → length s ≡ 0 → s ≡ []
no_bytes [] h = refl
no_bytes (b ∷ s) h = absurd (omega arith)

module _ (rules : Rules) (running : ℕ) (delta : Delta) where
  -- a channel event, of whose status bytes no fewer stand in front than are written
  module _ (front : List ℕ) (status : ℕ) (c : Channel status) (f : lead running status ≤ length front) where
    data_read : (raw : Raw) (ds s : List ℕ) → Sound raw → load_of raw ≡ [] → status ≡ running_after raw → length (encode_raw running raw) ≡ lead running status + length ds
        → Body rules running delta (front ++ (ds ++ s)) (taken (raw_event delta.value raw) s status delta.padding)
    data_read raw ds s sound bare after size =
        let n : length (encode_raw running raw) + length s ≤ length (front ++ (ds ++ s)) = omega (arith, length-append front (ds ++ s), length-append ds s) in
        record {
          same = refl;
          sound = sound;
          after = after;
          ends = rw bare (record { before = front ++ ds; whole = sym (append_assoc front ds s) });
          fewest = inl n;
          shortest = λ strict. n;
          padded = omega (arith, length-append front (ds ++ s), length-append ds s);
        }

    one_read : (ds : List ℕ) → takes_one status ≡ true → BodyRead rules running delta (front ++ ds) (read_one status delta ds)
    unfolding read_one encode_raw lead
    one_read [] o = tt
    one_read (a ∷ s) o =
        pick_test (BodyRead rules running delta (front ++ (a ∷ s))) (ltb a 0x80)
        (λ e. data_read (one status a) (a ∷ []) s (c, o, ltb-true a 0x80 e) refl refl (pick_length (eqb running status) status (a ∷ [])))
        (λ e. tt)

    two_read : (ds : List ℕ) → takes_one status ≡ false → BodyRead rules running delta (front ++ ds) (read_two status delta ds)
    unfolding read_two encode_raw lead
    two_read [] o = tt
    two_read (a ∷ []) o = tt
    two_read (a ∷ b ∷ s) o =
        pick_test (BodyRead rules running delta (front ++ (a ∷ b ∷ s))) (ltb a 0x80)
        (λ e. pick_test (BodyRead rules running delta (front ++ (a ∷ b ∷ s))) (ltb b 0x80)
        (λ g. data_read (two status a b) (a ∷ b ∷ []) s (c, o, ltb-true a 0x80 e, ltb-true b 0x80 g) refl refl (pick_length (eqb running status) status (a ∷ b ∷ [])))
        (λ g. tt))
        (λ e. tt)

    channel_read : (ds : List ℕ) → BodyRead rules running delta (front ++ ds) (read_channel status delta ds)
    unfolding read_channel
    channel_read ds = pick_test (BodyRead rules running delta (front ++ ds)) (takes_one status) (one_read ds) (two_read ds)

  -- a payload, behind as many bytes as are written before it
  load_read : (of : List ℕ → Raw) (front s : List ℕ) → Loads of (length front) → (a : Answer Payload) → PayloadLoaded rules s a
      → BodyRead rules running delta (front ++ s) (with_payload delta of a)
  load_read of front s l (refuses n) g = tt
  load_read of front s l (gives p) g =
      let n = l.size running p.bytes in
      let m = length-append front s in
      record {
        same = refl;
        sound = l.legal p.bytes g.small;
        after = sym (l.clears p.bytes);
        ends = rw (l.load p.bytes) (ends_after front s refl (loaded_ends rules s p g));
        fewest =
            ⊎_elim
            (λ z.
            let none = ap length z in
            inr
            (no_bytes p.rest (omega (arith, g.within)), omega (arith, g.within, encode_payload_length p.bytes, encode_one (length p.bytes) (omega (arith, g.within)))))
            (λ f. inl (omega arith))
            g.fewest;
        shortest = λ strict. omega (arith, g.shortest strict);
        padded = omega (arith, g.padded);
      }

  meta_read_lem : (s : List ℕ) → BodyRead rules running delta (0xFF ∷ s) (read_meta rules delta s)
  unfolding read_meta
  meta_read_lem [] = tt
  meta_read_lem (t ∷ s) = load_read (typed t) (0xFF ∷ t ∷ []) s (typed_loads t) (read_payload rules s) (payload_loaded rules s)

  status_read : (status : ℕ) (s : List ℕ) → 0x80 ≤ status → BodyRead rules running delta (status ∷ s) (read_status rules running delta status s)
  unfolding read_status
  status_read status s low =
      let P = BodyRead rules running delta (status ∷ s) in
      pick_test P (ltb status 0xF0) (λ e. channel_read (status ∷ []) status (record { low = low; high = ltb-true status 0xF0 e }) (lead_most running status) s)
      (λ e0. pick_test P (eqb status 0xFF) (λ e. rw (eqb-true status 0xFF e) (meta_read_lem s))
      (λ e1. pick_test P (eqb status 0xF0) (λ e. load_read (system status) (status ∷ []) s (system_loads status (inl (eqb-true status 0xF0 e))) (read_payload rules s) (payload_loaded rules s))
      (λ e2. pick_test P (eqb status 0xF7) (λ e. load_read (system status) (status ∷ []) s (system_loads status (inr (eqb-true status 0xF7 e))) (read_payload rules s) (payload_loaded rules s))
      (λ e3. pick_test P (ltb status 0xF7) (λ e. tt) (λ e. tt)))))

  body_read : (s : List ℕ) → is_running running ≡ true → BodyRead rules running delta s (read_body rules running delta s)
  unfolding read_body
  body_read [] is = tt
  body_read (b ∷ s) is =
      let P = BodyRead rules running delta (b ∷ s) in
      pick_test P (ltb b 0x80)
      (λ e. pick_test P (eqb running 0) (λ n. tt)
      (λ n. ⊎_elim (λ z. absurd (eqb-false running 0 n z)) (λ c. channel_read [] running c (omega (arith, lead_spared running)) (b ∷ s)) (running_is running is)))
      (λ e. status_read b s (ltb-false b 0x80 e))

-- the same of the bytes s that begin with the delta; and the event ends past its start, with its padding among the bytes used
pub record Read (rules : Rules) (running : ℕ) (s : List ℕ) (t : Taken RawEvent) : Type 0 where
  pub small : t.value.delta < 2 ^ 28
  pub sound : Sound t.value.raw
  pub after : t.running ≡ running_after t.value.raw
  pub past : length t.rest < length s
  pub ends : Ends s (load_of t.value.raw) t.rest
  pub fewest : Fewest s (encode_raw_event running t.value) t.rest
  pub shortest : rules.strict ≡ true → length (encode_raw_event running t.value) + length t.rest ≤ length s
  pub padded : t.padding + length t.rest ≤ length s

abbrev pub RawRead : Rules → ℕ → List ℕ → Reading (Taken RawEvent) → Type 0
RawRead rules running s (reads t) = Read rules running s t
RawRead rules running s (refused n after) = Unit {0}

pub raw_some : (running : ℕ) (raw : Raw) → 0 < length (encode_raw running raw)
unfolding encode_raw
raw_some running (one status a) = omega (arith, pick_length (eqb running status) status (a ∷ []))
raw_some running (two status a b) = omega (arith, pick_length (eqb running status) status (a ∷ b ∷ []))
raw_some running (system status p) = omega arith
raw_some running (typed t p) = omega arith

pub raw_event_length : (running : ℕ) (e : RawEvent) → length (encode_raw_event running e) ≡ length (encode_number e.delta) + length (encode_raw running e.raw)
unfolding encode_raw_event
raw_event_length running e = length-append (encode_number e.delta) (encode_raw running e.raw)

module _ (rules : Rules) (running : ℕ) (s : List ℕ) where
  -- a delta, and behind it a body of some bytes
  with_delta : (n : Numeral) → Took rules s n → 0 < length n.rest → (a : Reading (Taken RawEvent)) → BodyRead rules running (delta_read s n) n.rest a → RawRead rules running s a
  with_delta n k some (refused m after) g = tt
  with_delta n k some (reads t) g =
      let few : length (encode_number n.value) + length n.rest ≤ length s = ⊎_elim (λ z. absurd (omega (arith, k.within, ap length z))) (λ f. f) k.fewest in
      let split : s ≡ take (length s - length n.rest) s ++ n.rest =
      sym (ap (λ (l : List ℕ). take (length s - length n.rest) s ++ l) k.tail ∙ take-append-drop (length s - length n.rest) s)
      in
      let d : length (encode_number t.value.delta) ≡ length (encode_number n.value) = ap (λ (v : ℕ). length (encode_number v)) g.same in
      let l = raw_event_length running t.value in
      let some-raw = raw_some running t.value.raw in
      record {
        small = rw g.same k.small;
        sound = g.sound;
        after = g.after;
        past = ⊎_elim (λ f. omega (arith, k.within)) (λ f. omega (arith, k.within, ap length f.0)) g.fewest;
        ends = ends_after (take (length s - length n.rest) s) n.rest split g.ends;
        fewest = ⊎_elim (λ f. inl (omega arith)) (λ f. inr (f.0, omega (arith, f.1))) g.fewest;
        shortest = λ strict. omega (arith, g.shortest strict);
        padded = omega (arith, g.padded, k.within);
      }

  delta_read_lem : (a : Answer Numeral) → NumberTook rules s a → is_running running ≡ true → RawRead rules running s (after_delta rules running s a)
  unfolding after_delta read_body
  delta_read_lem (refuses m) k is = tt
  delta_read_lem (gives n) k is = by n.rest refl where
    by : (l : List ℕ) → n.rest ≡ l → RawRead rules running s (read_body rules running (delta_read s n) n.rest)
    by [] e = rw e tt
    by (b ∷ l) e = with_delta n k (omega (arith, ap length e)) (read_body rules running (delta_read s n) n.rest) (body_read rules running (delta_read s n) n.rest is)

  -- what every raw event that is read is, in either mode
  pub raw_read : RawRead rules running s (read_raw rules running s)
  unfolding read_raw
  raw_read = pick_test (RawRead rules running s) (is_running running) (λ is. delta_read_lem (read_number rules s) (read_took rules s) is) (λ no. tt)

-- Written bytes are read back

pick_append : (t : Bool) (x y s : List ℕ) → pick t x y ++ s ≡ pick t (x ++ s) (y ++ s)
pick_append true x y s = refl
pick_append false x y s = refl

module _ (rules : Rules) (running : ℕ) (delta : Delta) where
  one_back : (status a : ℕ) (rest : List ℕ) → Sound (one status a) → read_channel status delta (a ∷ rest) ≡ reads (taken (raw_event delta.value (one status a)) rest status delta.padding)
  unfolding read_channel read_one
  one_back status a rest h = rw (h.1, lt-ltb a 0x80 h.2)

  two_back : (status a b : ℕ) (rest : List ℕ) → Sound (two status a b) → read_channel status delta (a ∷ b ∷ rest) ≡ reads (taken (raw_event delta.value (two status a b)) rest status delta.padding)
  unfolding read_channel read_two
  two_back status a b rest h = rw (h.1, lt-ltb a 0x80 h.2, lt-ltb b 0x80 h.3)

  -- a data byte under the running status, and a channel status byte, both lead to the status's data
  at_data : (a : ℕ) (s : List ℕ) → Channel running → a < 0x80 → read_body rules running delta (a ∷ s) ≡ read_channel running delta (a ∷ s)
  unfolding read_body
  at_data a s c h = rw (lt-ltb a 0x80 h, ne_eqb running 0 (omega (arith, c.low)))

  at_channel : (status : ℕ) (s : List ℕ) → Channel status → read_body rules running delta (status ∷ s) ≡ read_channel status delta s
  unfolding read_body read_status
  at_channel status s c = rw (le-ltb status 0x80 c.low, lt-ltb status 0xF0 c.high)

  -- the status byte left out where it is the running status, and else not
  spared : (status a : ℕ) (s : List ℕ) → Channel status → a < 0x80
      → read_body rules running delta (pick (eqb running status) (a ∷ s) (status ∷ a ∷ s)) ≡ read_channel status delta (a ∷ s)
  spared status a s c h =
      pick_test (λ (l : List ℕ). read_body rules running delta l ≡ read_channel status delta (a ∷ s)) (eqb running status)
      (λ e. let same = eqb-true running status e in at_data a s (rw same c) h ∙ ap (λ (n : ℕ). read_channel n delta (a ∷ s)) same)
      (λ e. at_channel status (a ∷ s) c)

  load_back : (of : List ℕ → Raw) (p rest : List ℕ) → length p < 2 ^ 28
      → with_payload delta of (read_payload rules (encode_payload p ++ rest)) ≡ reads (taken (raw_event delta.value (of p)) rest 0 delta.padding)
  load_back of p rest h = rw (payload_reads_back rules p rest h, add-zero)

  system_back : (status : ℕ) (s : List ℕ) → (status ≡ 0xF0) ⊎ (status ≡ 0xF7) → read_body rules running delta (status ∷ s) ≡ with_payload delta (system status) (read_payload rules s)
  unfolding read_body read_status
  system_back status s = ⊎_elim (λ e. rw e) (λ e. rw e)

  typed_back : (t : ℕ) (s : List ℕ) → read_body rules running delta (0xFF ∷ t ∷ s) ≡ with_payload delta (typed t) (read_payload rules s)
  unfolding read_body read_status read_meta
  typed_back t s = refl

  body_back : (raw : Raw) (rest : List ℕ) → Sound raw → read_body rules running delta (encode_raw running raw ++ rest) ≡ reads (taken (raw_event delta.value raw) rest (running_after raw) delta.padding)
  unfolding encode_raw
  body_back (one status a) rest h =
      rw (pick_append (eqb running status) (a ∷ []) (status ∷ a ∷ []) rest) (spared status a rest h.0 h.2 ∙ one_back status a rest h)
  body_back (two status a b) rest h =
      rw (pick_append (eqb running status) (a ∷ b ∷ []) (status ∷ a ∷ b ∷ []) rest) (spared status a (b ∷ rest) h.0 h.2 ∙ two_back status a b rest h)
  body_back (system status p) rest h = system_back status (encode_payload p ++ rest) h.0 ∙ load_back (system status) p rest h.1
  body_back (typed t p) rest h = typed_back t (encode_payload p ++ rest) ∙ load_back (typed t) p rest h

-- a raw event written is read back, in both modes, whatever follows, and has no padding
pub raw_reads_back : (rules : Rules) (running : ℕ) (e : RawEvent) (rest : List ℕ) → is_running running ≡ true → e.delta < 2 ^ 28 → Sound e.raw
    → read_raw rules running (encode_raw_event running e ++ rest) ≡ reads (taken e rest (running_after e.raw) 0)
unfolding read_raw encode_raw_event after_delta
raw_reads_back rules running e rest is small h =
    let behind = encode_raw running e.raw ++ rest in
    rw (is, append_assoc, reads_back rules e.delta behind small, encode_unpadded e.delta behind) (body_back rules running (record { value = e.delta; padding = 0 }) e.raw rest h)

-- What strict reading accepts, lenient reads alike

-- what the first reads, the second reads too
abbrev pub ReadsAlike : {A : Type 0} → Reading A → Reading A → Type 0
ReadsAlike (reads t) other = other ≡ reads t
ReadsAlike (refused n after) other = Unit {0}

pub reads_self : {A : Type 0} (a : Reading A) → ReadsAlike a a
reads_self (reads t) = refl
reads_self (refused n after) = tt

module _ (rules : Rules) where
  load_alike : (delta : Delta) (of : List ℕ → Raw) (a b : Answer Payload) → Alike a b → ReadsAlike (with_payload delta of a) (with_payload delta of b)
  load_alike delta of (gives p) b h = rw h
  load_alike delta of (refuses n) b h = tt

  loads_alike : (delta : Delta) (of : List ℕ → Raw) (s : List ℕ) → ReadsAlike (with_payload delta of (read_payload rules s)) (with_payload delta of (read_payload (leniently rules) s))
  loads_alike delta of s = load_alike delta of (read_payload rules s) (read_payload (leniently rules) s) (payload_alike rules s)

  meta_alike : (delta : Delta) (s : List ℕ) → ReadsAlike (read_meta rules delta s) (read_meta (leniently rules) delta s)
  unfolding read_meta
  meta_alike delta [] = tt
  meta_alike delta (t ∷ s) = loads_alike delta (typed t) s

  status_alike : (running : ℕ) (delta : Delta) (status : ℕ) (s : List ℕ) → ReadsAlike (read_status rules running delta status s) (read_status (leniently rules) running delta status s)
  unfolding read_status
  status_alike running delta status s =
      pick_alike ReadsAlike (ltb status 0xF0) (reads_self (read_channel status delta s))
      (pick_alike ReadsAlike (eqb status 0xFF) (meta_alike delta s)
      (pick_alike ReadsAlike (eqb status 0xF0) (loads_alike delta (system status) s)
      (pick_alike ReadsAlike (eqb status 0xF7) (loads_alike delta (system status) s) (reads_self (pick (ltb status 0xF7) (refused 6 running) (refused 7 running))))))

  body_alike : (running : ℕ) (delta : Delta) (s : List ℕ) → ReadsAlike (read_body rules running delta s) (read_body (leniently rules) running delta s)
  unfolding read_body
  body_alike running delta [] = tt
  body_alike running delta (b ∷ s) =
      pick_alike ReadsAlike (ltb b 0x80) (reads_self (pick (eqb running 0) (refused 5 running) (read_channel running delta (b ∷ s)))) (status_alike running delta b s)

  delta_alike : (running : ℕ) (s : List ℕ) (a b : Answer Numeral) → Alike a b → ReadsAlike (after_delta rules running s a) (after_delta (leniently rules) running s b)
  unfolding after_delta
  delta_alike running s (gives n) b h = rw h (body_alike running (delta_read s n) n.rest)
  delta_alike running s (refuses n) b h = tt

  pub raw_alike : (running : ℕ) (s : List ℕ) → ReadsAlike (read_raw rules running s) (read_raw (leniently rules) running s)
  unfolding read_raw
  raw_alike running s = pick_alike ReadsAlike (is_running running) (delta_alike running s (read_number rules s) (read_number (leniently rules) s) (number_alike rules s)) tt
