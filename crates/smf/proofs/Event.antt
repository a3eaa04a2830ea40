-- The laws of one event: what is written is read back; what is read is legal, stands where its record says, and is never read from fewer
-- bytes than are written for it; and when a record is legal.
use mathlib.Core.Path.{◌≡◌, refl, sym, ap, ◌∙◌, subst}
use mathlib.Core.Bool.{Bool, true, ◌&&◌, not}
use mathlib.Core.List.{List, [], ◌++◌, append-nil}
use mathlib.Core.Logic.{◌⊎◌, inl, inr, ⊎_elim, ◌↔◌}
use Prim.Native.Nat.{ℕ, ◌+◌, ◌-◌, ◌^◌, ◌≤◌, ◌<◌}
use native.Mathlib.Omega.{arith}
use lib.Dec.{ltb}
use lib.ListN.{length, take, drop, length-drop}
use lib.Seq.{drop-drop, length-take-le}
use borrow.Author.Tests.{lt-ltb, ltb-true, leb-true, not-true}
use Rattle.smf.specs.Answer.{Answer, gives, refuses, Rules, leniently}
use Rattle.smf.specs.Running.{is_running}
use Rattle.smf.specs.Place.{Span, place_of, inside, bytes_of}
use Rattle.smf.specs.Wire.{RawEvent, raw_event, Taken, taken, Reading, reads, refused, read_raw, encode_raw_event, running_after}
use Rattle.smf.specs.Kind.{Meta, track_number, no_track_number, text, midi_channel, midi_port, end_of_track, tempo, smpte_offset, time_signature, key_signature, sequencer_specific, unknown}
use Rattle.smf.specs.Kind.{Kind, midi, sys_ex, escape, meta, called, raw_of}
use Rattle.smf.specs.Event.{Event, event, map_meta, map_kind, map_event, named, name_raw, read_event, EventAt, span_before, event_placed, ReadAt, reads_at, refused_at, placed, event_at}
use Rattle.smf.specs.Event.{meta_fits, kind_fits, Carried, nothing, owned, untold, meta_carries, carries, load_or, kind_load, is_named, misnamed, kind_misnamed, no_span, span_length, legal, encode_event}
use Rattle.smf.proofs.Legal.{is_legal}
use Rattle.smf.proofs.Answer.{pick_test, both, said_of, Alike, Gives}
use Rattle.smf.proofs.Ends.{Ends, ends_bare, ends_length, ends_tail, ends_load}
use Rattle.smf.proofs.Wire.{load_small, after_runs, raw_reads_back, Read, RawRead, raw_read, raw_event_length, ReadsAlike, raw_alike}
use Rattle.smf.proofs.Kind.{LegalKind, kind_called, kind_sound}
use Rattle.smf.proofs.Named.{Named, raw_named, called_alike}

-- what is legal of an event: its delta and its kind
pub record Legal (rules : Rules) (e : Event (List ℕ)) : Type 0 where
  pub delta : e.delta < 2 ^ 28
  pub kind : LegalKind rules e.kind

pub is_legal_lem : (rules : Rules) (e : Event (List ℕ)) → is_legal rules e ≡ true → Legal rules e
unfolding is_legal
is_legal_lem rules e h =
    let h1 = both _ _ h in
    let h2 = both _ _ h1.0 in
    let h3 = both _ _ h2.0 in
    record { delta = ltb-true _ _ h3.0; kind = record { fits = h3.1; small = ltb-true _ _ h2.1; own = not-true _ h1.1 } }

pub legal_is : (rules : Rules) (e : Event (List ℕ)) → Legal rules e → is_legal rules e ≡ true
unfolding is_legal
legal_is rules e h =
    let k = h.kind in
    rw (lt-ltb _ _ h.delta, k.fits, lt-ltb _ _ k.small, k.own)

-- Written bytes are read back

-- an event written is read back, in both modes, whatever follows
pub event_reads_back : (rules : Rules) (running : ℕ) (e : Event (List ℕ)) (rest : List ℕ) → is_running running ≡ true → is_legal rules e ≡ true
    → read_event rules running (encode_event running e ++ rest) ≡ reads (taken e rest (running_after (raw_of e.kind)) 0)
unfolding read_event name_raw named encode_event
event_reads_back rules running e rest is h =
    let l = is_legal_lem rules e h in
    rw (raw_reads_back rules running (raw_event e.delta (raw_of e.kind)) rest is l.delta (kind_sound rules e.kind l.kind), kind_called rules e.kind l.kind)

-- no bytes of a legal event begin with those of another
pub prefix_free : (rules : Rules) (running : ℕ) (e e' : Event (List ℕ)) (s : List ℕ) → is_running running ≡ true → is_legal rules e ≡ true → is_legal rules e' ≡ true
    → encode_event running e ≡ encode_event running e' ++ s → e ≡ e'
prefix_free rules running e e' s is h h' q =
    let a = event_reads_back rules running e [] is h in
    let b = event_reads_back rules running e' s is h' in
    let c : read_event rules running (encode_event running e ++ []) ≡ read_event rules running (encode_event running e' ++ s) =
    ap (read_event rules running) (append-nil (encode_event running e) ∙ q)
    in
    let d : taken e [] (running_after (raw_of e.kind)) 0 ≡ taken e' s (running_after (raw_of e'.kind)) 0 = cc in
    ap (λ (t : Taken (Event (List ℕ))). t.value) d

-- What is read

-- what every event is that is read of the bytes s, in either mode
pub record EventRead (rules : Rules) (running : ℕ) (s : List ℕ) (t : Taken (Event (List ℕ))) : Type 0 where
  -- it is legal
  pub legal : is_legal rules t.value ≡ true
  -- the running status after it is its raw form's, and is one
  pub after : t.running ≡ running_after (raw_of t.value.kind)
  pub runs : is_running t.running ≡ true
  -- it ends past its start, and the bytes end in its payload and what is left
  pub past : length t.rest < length s
  pub ends : Ends s (kind_load [] t.value.kind) t.rest
  -- read strictly, it took no fewer bytes than are written for it; leniently, at most one fewer, and that only at the end of the bytes
  pub shortest : rules.strict ≡ true → length (encode_event running t.value) + length t.rest ≤ length s
  pub fewest : (length (encode_event running t.value) + length t.rest ≤ length s) ⊎ ((t.rest ≡ []) × (length (encode_event running t.value) ≤ length s + 1))
  -- and its padding is among the bytes used
  pub padded : t.padding + length t.rest ≤ length s

abbrev ReadGood : Rules → ℕ → List ℕ → Reading (Taken (Event (List ℕ))) → Type 0
ReadGood rules running s (reads t) = EventRead rules running s t
ReadGood rules running s (refused n after) = Unit {0}

module _ (rules : Rules) (running : ℕ) (s : List ℕ) where
  -- a name makes nothing longer
  event_shorter : (t : Taken RawEvent) (k : Kind (List ℕ)) → Named rules t.value.raw k
      → length (encode_event running (event t.value.delta k)) ≤ length (encode_raw_event running t.value)
  unfolding encode_event
  event_shorter t k n =
      omega (arith, n.shorter running, raw_event_length running t.value, raw_event_length running (raw_event t.value.delta (raw_of k)))

  named_read : (t : Taken RawEvent) → Read rules running s t → (a : Answer (Kind (List ℕ))) → Gives (Named rules t.value.raw) a → ReadGood rules running s (named t a)
  unfolding named
  named_read t r (refuses m) n = tt
  named_read t r (gives k) n =
      let short = event_shorter t k n in
      let small : length (kind_load [] k) < 2 ^ 28 =
      ⊎_elim (λ e. rw e (load_small t.value.raw r.sound)) (λ e. omega (arith, ap length e)) n.carries
      in
      let ends : Ends s (kind_load [] k) t.rest = ⊎_elim (λ e. rw e r.ends) (λ e. rw e (ends_bare r.ends)) n.carries in
      record {
        legal = legal_is rules (event t.value.delta k) (record { delta = r.small; kind = record { fits = n.fits; small = small; own = n.own } });
        after = r.after ∙ sym n.after;
        runs = rw r.after (after_runs t.value.raw r.sound);
        past = r.past;
        ends = ends;
        shortest = λ strict. omega (arith, r.shortest strict);
        fewest = ⊎_elim (λ f. inl (omega arith)) (λ f. inr (f.0, omega (arith, f.1))) r.fewest;
        padded = r.padded;
      }

  raw_named_read : (a : Reading (Taken RawEvent)) → RawRead rules running s a → ReadGood rules running s (name_raw rules a)
  unfolding name_raw
  raw_named_read (refused n after) r = tt
  raw_named_read (reads t) r = named_read t r (called rules t.value.raw) (raw_named rules t.value.raw r.sound)

  event_good : ReadGood rules running s (read_event rules running s)
  unfolding read_event
  event_good = raw_named_read (read_raw rules running s) (raw_read rules running s)

module _ (rules : Rules) (running : ℕ) (s : List ℕ) (t : Taken (Event (List ℕ))) (read : read_event rules running s ≡ reads t) where
  pub event_read_lem : EventRead rules running s t
  event_read_lem = subst (ReadGood rules running s) read (event_good rules running s)

  pub one_fewer : length (encode_event running t.value) + length t.rest ≤ length s + 1
  one_fewer = ⊎_elim (λ f. omega arith) (λ f. omega (arith, ap length f.0, f.1)) event_read_lem.fewest

  -- what is left is the end of the bytes, and the payload stands right before it
  pub read_tail : t.rest ≡ drop (length s - length t.rest) s
  read_tail = ends_tail s (kind_load [] t.value.kind) t.rest event_read_lem.ends

  pub read_payload_lem : let p = kind_load [] t.value.kind in p ≡ take (length p) (drop (length s - length t.rest - length p) s)
  read_payload_lem = ends_load s (kind_load [] t.value.kind) t.rest event_read_lem.ends

-- Records: a payload as start and length

-- a kind whose payload ends at a place, over the bytes lent, is the kind itself
module _ (s : List ℕ) (end : ℕ) where
  abbrev Stands : List ℕ → Type 0
  Stands p = take (length p) (drop (end - length p) s) ≡ p

  meta_placed_lem : (m : Meta (List ℕ)) → Stands (load_or [] (meta_carries m)) → map_meta (bytes_of s) (map_meta (span_before end) m) ≡ m
  unfolding map_meta meta_carries bytes_of
  meta_placed_lem (track_number n) h = refl
  meta_placed_lem no_track_number h = refl
  meta_placed_lem (text t p) h = rw h
  meta_placed_lem (midi_channel c) h = refl
  meta_placed_lem (midi_port c) h = refl
  meta_placed_lem end_of_track h = refl
  meta_placed_lem (tempo v) h = refl
  meta_placed_lem (smpte_offset time) h = refl
  meta_placed_lem (time_signature a b c d) h = refl
  meta_placed_lem (key_signature sharps minor) h = refl
  meta_placed_lem (sequencer_specific p) h = rw h
  meta_placed_lem (unknown t p) h = rw h

  kind_placed : (k : Kind (List ℕ)) → Stands (kind_load [] k) → map_kind (bytes_of s) (map_kind (span_before end) k) ≡ k
  unfolding map_kind carries bytes_of
  kind_placed (midi channel m) h = refl
  kind_placed (sys_ex p) h = rw h
  kind_placed (escape p) h = rw h
  kind_placed (meta m) h = ap meta (meta_placed_lem m h)

module _ (rules : Rules) (running : ℕ) (s : List ℕ) (at : ℕ) (t : Taken (Event (List ℕ))) (read : read_event rules running (drop at s) ≡ reads t) where
  -- the record of an event that was read at a place is, over the bytes lent, the event
  pub placed_itself : map_event (bytes_of s) (event_placed s at t).event ≡ t.value
  unfolding map_event
  placed_itself =
      let e = event_read_lem rules running (drop at s) t read in
      let p = kind_load [] t.value.kind in
      let n = ends_length (drop at s) p t.rest e.ends in
      let start : at + (length (drop at s) - length t.rest - length p) ≡ place_of s at t.rest - length p = omega arith in
      let stands : take (length p) (drop (place_of s at t.rest - length p) s) ≡ p =
      sym (read_payload_lem rules running (drop at s) t read ∙ ap (take (length p)) (drop-drop (length (drop at s) - length t.rest - length p) at s ∙ ap (λ (x : ℕ). drop x s) start))
      in
      ap (event t.value.delta) (kind_placed s (place_of s at t.rest) t.value.kind stands)

-- what is known of an event that was read at a place: its record is, over the bytes lent, the event that they hold there,
-- and what is left begins as many bytes on as were used, some, and within the bytes
pub record Reached (rules : Rules) (running : ℕ) (s : List ℕ) (at : ℕ) (a : EventAt) : Type 0 where
  pub read : read_event rules running (drop at s) ≡ reads (taken (map_event (bytes_of s) a.event) (drop (at + a.used) s) a.running a.padding)
  pub some : 0 < a.used
  pub within : at + a.used ≤ length s
  pub padded : a.padding ≤ a.used

abbrev pub EventReached : Rules → ℕ → List ℕ → ℕ → ReadAt → Type 0
EventReached rules running s at (reads_at a) = Reached rules running s at a
EventReached rules running s at (refused_at n used after padding) = (read_event rules running (drop at s) ≡ refused n after) × (used ≡ 0) × (padding ≡ 0)

pub event_reached : (rules : Rules) (running : ℕ) (s : List ℕ) (at : ℕ) → EventReached rules running s at (event_at rules running s at)
unfolding event_at placed
event_reached rules running s at = by (read_event rules running (drop at s)) refl where
  by : (a : Reading (Taken (Event (List ℕ)))) → read_event rules running (drop at s) ≡ a → EventReached rules running s at (placed s at a)
  by (refused n after) e = (e, refl, refl)
  by (reads t) e =
      let past = (event_read_lem rules running (drop at s) t e).past in
      let tail : t.rest ≡ drop (at + (length (drop at s) - length t.rest)) s = read_tail rules running (drop at s) t e ∙ drop-drop (length (drop at s) - length t.rest) at s in
      record {
        read = e ∙ rw (placed_itself rules running s at t e, ← tail) refl;
        some = omega arith;
        within = omega (arith, length-drop at s);
        padded = omega (arith, (event_read_lem rules running (drop at s) t e).padded);
      }

-- What strict reading accepts, lenient reads alike

named_alike : (t : Taken RawEvent) (a b : Answer (Kind (List ℕ))) → Alike a b → ReadsAlike (named t a) (named t b)
unfolding named
named_alike t (gives k) b h = rw h
named_alike t (refuses n) b h = tt

module _ (rules : Rules) (running : ℕ) (s : List ℕ) where
  raw_named_alike : (a b : Reading (Taken RawEvent)) → ReadsAlike a b → ReadsAlike (name_raw rules a) (name_raw (leniently rules) b)
  unfolding name_raw
  raw_named_alike (reads t) b h = rw h (named_alike t (called rules t.value.raw) (called (leniently rules) t.value.raw) (called_alike rules t.value.raw))
  raw_named_alike (refused n after) b h = tt

  pub event_alike : ReadsAlike (read_event rules running s) (read_event (leniently rules) running s)
  unfolding read_event
  event_alike = raw_named_alike (read_raw rules running s) (read_raw (leniently rules) running s) (raw_alike rules running s)

-- and so at a place
abbrev pub AlikeAt : ReadAt → ReadAt → Type 0
AlikeAt (reads_at a) b = b ≡ reads_at a
AlikeAt (refused_at n used after padding) b = Unit {0}

placed_alike : (s : List ℕ) (at : ℕ) (a b : Reading (Taken (Event (List ℕ)))) → ReadsAlike a b → AlikeAt (placed s at a) (placed s at b)
unfolding placed
placed_alike s at (reads t) b h = rw h
placed_alike s at (refused n after) b h = tt

pub event_at_alike : (rules : Rules) (running : ℕ) (s : List ℕ) (at : ℕ) → AlikeAt (event_at rules running s at) (event_at (leniently rules) running s at)
unfolding event_at
event_at_alike rules running s at = placed_alike s at (read_event rules running (drop at s)) (read_event (leniently rules) running (drop at s)) (event_alike rules running (drop at s))

-- When a record is legal

-- what a kind is over the bytes lent, of its parts that legality asks for
meta_fits_over : (rules : Rules) {P Q : Type 0} (f : P → Q) (m : Meta P) → meta_fits rules (map_meta f m) ≡ meta_fits rules m
unfolding map_meta meta_fits
meta_fits_over rules f (track_number n) = refl
meta_fits_over rules f no_track_number = refl
meta_fits_over rules f (text t p) = refl
meta_fits_over rules f (midi_channel c) = refl
meta_fits_over rules f (midi_port c) = refl
meta_fits_over rules f end_of_track = refl
meta_fits_over rules f (tempo v) = refl
meta_fits_over rules f (smpte_offset time) = refl
meta_fits_over rules f (time_signature a b c d) = refl
meta_fits_over rules f (key_signature sharps minor) = refl
meta_fits_over rules f (sequencer_specific p) = refl
meta_fits_over rules f (unknown t p) = refl

pub fits_over : (rules : Rules) {P Q : Type 0} (f : P → Q) (k : Kind P) → kind_fits rules (map_kind f k) ≡ kind_fits rules k
unfolding map_kind kind_fits
fits_over rules f (midi channel m) = refl
fits_over rules f (sys_ex p) = refl
fits_over rules f (escape p) = refl
fits_over rules f (meta m) = meta_fits_over rules f m

-- what it carries
map_carried : {P Q : Type 0} → (P → Q) → Carried P → Carried Q
map_carried f nothing = nothing
map_carried f (owned p) = owned (f p)
map_carried f (untold t p) = untold t (f p)

meta_carries_over : {P Q : Type 0} (f : P → Q) (m : Meta P) → meta_carries (map_meta f m) ≡ map_carried f (meta_carries m)
unfolding map_meta meta_carries map_carried
meta_carries_over f (track_number n) = refl
meta_carries_over f no_track_number = refl
meta_carries_over f (text t p) = refl
meta_carries_over f (midi_channel c) = refl
meta_carries_over f (midi_port c) = refl
meta_carries_over f end_of_track = refl
meta_carries_over f (tempo v) = refl
meta_carries_over f (smpte_offset time) = refl
meta_carries_over f (time_signature a b c d) = refl
meta_carries_over f (key_signature sharps minor) = refl
meta_carries_over f (sequencer_specific p) = refl
meta_carries_over f (unknown t p) = refl

carries_over : {P Q : Type 0} (f : P → Q) (k : Kind P) → carries (map_kind f k) ≡ map_carried f (carries k)
unfolding map_kind carries map_carried
carries_over f (midi channel m) = refl
carries_over f (sys_ex p) = refl
carries_over f (escape p) = refl
carries_over f (meta m) = meta_carries_over f m

pub load_over : {P Q : Type 0} (f : P → Q) (none : P) (k : Kind P) → kind_load (f none) (map_kind f k) ≡ f (kind_load none k)
unfolding map_carried
load_over {P} f none k = rw (carries_over f k) (by (carries k)) where
  by : (c : Carried P) → load_or (f none) (map_carried f c) ≡ f (load_or none c)
  by nothing = refl
  by (owned p) = refl
  by (untold t p) = refl

module _ (rules : Rules) {P Q : Type 0} (f : P → Q) (size : Q → ℕ) (size' : P → ℕ) (none : P) where
  misnamed_over : (k : Kind P) → size (f (kind_load none k)) ≡ size' (kind_load none k) → kind_misnamed rules size (map_kind f k) ≡ kind_misnamed rules size' k
  unfolding map_carried
  misnamed_over k h = rw (carries_over f k) (by (carries k) h) where
    by : (c : Carried P) → size (f (load_or none c)) ≡ size' (load_or none c) → misnamed rules size (map_carried f c) ≡ misnamed rules size' c
    by nothing h = refl
    by (owned p) h = refl
    by (untold t p) h = ap (is_named rules t) h

pub inside_length : (bytes : List ℕ) (span : Span) → inside bytes span ≡ true → length (bytes_of bytes span) ≡ span.length
unfolding inside bytes_of
inside_length bytes span h =
    length-take-le span.length (drop span.start bytes) (omega (arith, length-drop span.start bytes, leb-true (span.start + span.length) (length bytes) h))

module _ (rules : Rules) (bytes : List ℕ) (e : Event Span) where
  -- a record's tests, in the order of their refusals: 18, 19, 22, 23
  abbrev fit : Bool
  fit = ltb e.delta (2 ^ 28) && kind_fits rules e.kind

  abbrev within : Bool
  within = inside bytes (kind_load no_span e.kind)

  abbrev short : Bool
  short = ltb (span_length (kind_load no_span e.kind)) (2 ^ 28)

  abbrev proper : Bool
  proper = not (kind_misnamed rules span_length e.kind)

  -- where its range is inside, they are those of the event that it is over the bytes
  tests_over : within ≡ true → is_legal rules (map_event (bytes_of bytes) e) ≡ (fit && short && proper)
  unfolding is_legal map_event bytes_of
  tests_over h =
      let n = inside_length bytes (kind_load no_span e.kind) h in
      rw (fits_over rules (bytes_of bytes) e.kind, load_over (bytes_of bytes) no_span e.kind, n, misnamed_over rules (bytes_of bytes) length span_length no_span e.kind n)

  abbrev Over : Event (List ℕ) → Type 0
  Over l = (within ≡ true) × (is_legal rules (map_event (bytes_of bytes) e) ≡ true) × (l ≡ map_event (bytes_of bytes) e)

  legal_over : Gives Over (legal rules bytes e)
  unfolding legal
  legal_over =
      let P = Gives Over in
      pick_test P fit
      (λ f. pick_test P within
      (λ w. pick_test P short (λ s. pick_test P proper (λ o. (w, tests_over w ∙ rw (f, s, o), refl)) (λ _. tt)) (λ _. tt))
      (λ _. tt))
      (λ _. tt)

  over_legal : (l : Event (List ℕ)) → Over l → legal rules bytes e ≡ gives l
  unfolding legal
  over_legal l h =
      let t = both (fit && short) proper (sym (tests_over h.0) ∙ h.1) in
      let u = both fit short t.0 in
      rw (u.0, h.0, u.1, t.1) (ap gives (sym h.2))

  -- a record is legal exactly when its range is inside the bytes lent and the event that it is over them is legal; and it gives that event
  pub legal_exactly : (l : Event (List ℕ)) → (legal rules bytes e ≡ gives l) ↔ ((inside bytes (kind_load no_span e.kind) ≡ true) × (is_legal rules (map_event (bytes_of bytes) e) ≡ true) × (l ≡ map_event (bytes_of bytes) e))
  legal_exactly l = (said_of (Gives Over) legal_over, over_legal l)
