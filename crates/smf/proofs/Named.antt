-- The laws of names: what a raw event is called is legal, keeps the payload or none, and is no longer when it is written.
use mathlib.Core.Path.{◌≡◌, refl, sym, ap}
use mathlib.Core.Bool.{true, false, true≢false, ◌&&◌}
use mathlib.Core.List.{List, [], ◌∷◌}
use mathlib.Core.Logic.{◌⊎◌, inl, inr, ⊎_elim, ◌↔◌}
use Prim.Native.Nat.{ℕ, ◌+◌, ◌*◌, ◌/◌, ◌%◌, ◌≤◌, ◌<◌}
use native.Mathlib.Nat.{mod-lt}
use native.Mathlib.Omega.{arith}
use lib.Dec.{ltb, leb, eqb}
use lib.Signed.{mag}
use lib.ListN.{length}
use borrow.Author.Tests.{lt-ltb, ltb-true, lt-leb, leb-true, eq-eqb, eqb-true, eqb-false}
use Rattle.smf.specs.Answer.{pick, Answer, gives, refuses, and_then, Rules, leniently}
use Rattle.smf.specs.Signed.{signed_byte}
use Rattle.smf.specs.Smpte.{Time, is_time, to_time, time_of, time_bytes}
use Rattle.smf.specs.Wire.{Raw, one, two, system, typed, data_length, encode_raw, running_after}
use Rattle.smf.specs.Kind.{Message}
use Rattle.smf.specs.Kind.{Meta, track_number, no_track_number, text, midi_channel, midi_port, end_of_track, tempo, smpte_offset, sequencer_specific, unknown}
use Rattle.smf.specs.Kind.{Kind, midi, sys_ex, escape, meta, byte, message_one, message_two, is_text, track_number_of, from, narrow, tempo_of, time_in, signature_of, key_of, called_meta, called, raw_message, raw_meta, raw_of}
use Rattle.smf.specs.Event.{message_fits, meta_fits, kind_fits, load_or, meta_carries, carries, kind_load, is_named, misnamed, kind_misnamed}
use Rattle.smf.proofs.Answer.{by_test, by_lt, pick_test, said_of, Alike, Gives, then_gives, alike_self, pick_alike, strictly_alike, then_alike}
use Rattle.smf.proofs.Number.{encode_monotone}
use Rattle.smf.proofs.Payload.{encode_payload_length}
use Rattle.smf.proofs.Signed.{signed_low, signed_high}
use Rattle.smf.proofs.Smpte.{time_length, time_read}
use Rattle.smf.proofs.Running.{Channel}
use Rattle.smf.proofs.Wire.{Sound, takes_one, load_of}
use Rattle.smf.proofs.Kind.{past_text, unnamed_itself}

-- What a raw event is called: a kind that fits, is no misnamed `Unknown`, carries the payload or none, leaves the same running status,
-- and is no longer when it is written
pub record Named (rules : Rules) (raw : Raw) (k : Kind (List ℕ)) : Type 0 where
  pub fits : kind_fits rules k ≡ true
  pub own : kind_misnamed rules length k ≡ false
  pub carries : (kind_load [] k ≡ load_of raw) ⊎ (kind_load [] k ≡ [])
  pub after : running_after (raw_of k) ≡ running_after raw
  pub shorter : (running : ℕ) → length (encode_raw running (raw_of k)) ≤ length (encode_raw running raw)

-- a kind that is written as it was read
as_read : (rules : Rules) (raw : Raw) (k : Kind (List ℕ)) → kind_fits rules k ≡ true → kind_misnamed rules length k ≡ false → kind_load [] k ≡ load_of raw → raw_of k ≡ raw → Named rules raw k
as_read rules raw k f o l e = record { fits = f; own = o; carries = inl l; after = ap running_after e; shorter = λ running. rw e (omega arith) }

-- the message that a channel status and its data bytes say
record Says (rules : Rules) (status : ℕ) (raw : Raw) (m : Message) : Type 0 where
  fits : message_fits rules m ≡ true
  back : raw_message (status % 16) m ≡ raw

module _ (rules : Rules) (status : ℕ) (c : Channel status) where
  said : (raw : Raw) (m : Message) → load_of raw ≡ [] → Says rules status raw m → Named rules raw (midi (status % 16) m)
  unfolding kind_fits carries raw_of
  said raw m l h = as_read rules raw (midi (status % 16) m) (rw (lt-ltb (status % 16) 16 (omega arith), h.fits)) refl (sym l) h.back

  upper : (u : ℕ) → eqb (status / 16) u ≡ true → u * 16 + status % 16 ≡ status
  upper u e = omega (arith, eqb-true (status / 16) u e)

  one_said : (a : ℕ) → takes_one status ≡ true → a < 0x80 → Says rules status (one status a) (message_one (status / 16) a)
  unfolding message_one message_fits raw_message data_length
  one_said a o f =
      pick_test (Says rules status (one status a)) (eqb (status / 16) 0xC)
      (λ e. record { fits = lt-ltb a 128 f; back = ap (λ (n : ℕ). one n a) (upper 0xC e) })
      (λ n. record { fits = lt-ltb a 128 f; back = ap (λ (n : ℕ). one n a) (upper 0xD (by_test (eqb (status / 16) 0xD) (λ e. e) (λ g. absurd (true≢false (sym (rw (n, g) at o)))))) })

  -- neither C nor D, which take one
  takes_two : takes_one status ≡ false → (eqb (status / 16) 0xC ≡ false) × (eqb (status / 16) 0xD ≡ false)
  unfolding data_length
  takes_two o =
      by_test (eqb (status / 16) 0xC) (λ e. absurd (true≢false (rw e at o)))
      (λ n. (n, by_test (eqb (status / 16) 0xD) (λ e. absurd (true≢false (rw (n, e) at o))) (λ m. m)))

  two_said : (a b : ℕ) → takes_one status ≡ false → a < 0x80 → b < 0x80 → Says rules status (two status a b) (message_two (status / 16) a b)
  unfolding message_two message_fits raw_message
  two_said a b o f g =
      let P = Says rules status (two status a b) in
      let fit : (ltb a 128 && ltb b 128) ≡ true = rw (lt-ltb a 128 f, lt-ltb b 128 g) in
      let half = eqb-false (status / 16) in
      pick_test P (eqb (status / 16) 0x8) (λ e. record { fits = fit; back = ap (λ (n : ℕ). two n a b) (upper 0x8 e) })
      (λ n8. pick_test P (eqb (status / 16) 0x9) (λ e. record { fits = fit; back = ap (λ (n : ℕ). two n a b) (upper 0x9 e) })
      (λ n9. pick_test P (eqb (status / 16) 0xA) (λ e. record { fits = fit; back = ap (λ (n : ℕ). two n a b) (upper 0xA e) })
      (λ nA. pick_test P (eqb (status / 16) 0xB) (λ e. record { fits = fit; back = ap (λ (n : ℕ). two n a b) (upper 0xB e) })
      (λ nB.
      let n = takes_two o in
      let e : status / 16 ≡ 0xE = omega (arith, c.low, c.high, half 0x8 n8, half 0x9 n9, half 0xA nA, half 0xB nB, half 0xC n.0, half 0xD n.1) in
      let low : (a + 128 * b) % 128 ≡ a = omega arith in
      let high : (a + 128 * b) / 128 ≡ b = omega arith in
      record { fits = lt-ltb (a + 128 * b) 16384 (omega arith); back = rw (low, high) (ap (λ (n : ℕ). two n a b) (upper 0xE (eq-eqb (status / 16) 0xE e))) }))))

typed_shorter : (running t u : ℕ) (p q : List ℕ) → length q ≤ length p → length (encode_raw running (typed u q)) ≤ length (encode_raw running (typed t p))
unfolding encode_raw
typed_shorter running t u p q h = omega (arith, encode_payload_length p, encode_payload_length q, encode_monotone h)

module _ (rules : Rules) (t : ℕ) (p : List ℕ) where
  abbrev MetaNamed : Meta (List ℕ) → Type 0
  MetaNamed m = Named rules (typed t p) (meta m)

  -- a message that keeps the payload, and one that keeps what it needs of it
  whole : (m : Meta (List ℕ)) → meta_fits rules m ≡ true → misnamed rules length (meta_carries m) ≡ false → load_or [] (meta_carries m) ≡ p → raw_meta m ≡ typed t p → MetaNamed m
  unfolding kind_fits carries raw_of
  whole m f o l e = as_read rules (typed t p) (meta m) f o l e

  needed : (m : Meta (List ℕ)) (u : ℕ) (q : List ℕ) → meta_fits rules m ≡ true → misnamed rules length (meta_carries m) ≡ false → load_or [] (meta_carries m) ≡ [] → raw_meta m ≡ typed u q → length q ≤ length p → MetaNamed m
  unfolding kind_fits carries raw_of
  needed m u q f o l e h =
      record { fits = f; own = o; carries = inr l; after = ap running_after e; shorter = λ running. rw e (typed_shorter running t u p q h) }

  itself : is_named rules t (length p) ≡ false → MetaNamed (unknown t p)
  unfolding meta_fits meta_carries raw_meta
  itself o = whole (unknown t p) refl o refl refl

  -- a kind that is named from n bytes up, and is `Unknown` below
  from_named : (n u : ℕ) (named : Answer (Meta (List ℕ))) → t ≡ u → (leb n (length p) ≡ false → is_named rules u (length p) ≡ false) → (n ≤ length p → Gives MetaNamed named) → Gives MetaNamed (from n t p named)
  from_named n u named e short long =
      pick_test (Gives MetaNamed) (leb n (length p)) (λ l. long (leb-true n (length p) l)) (λ l. itself (rw e (short l)))

  narrow_below : (limit b : ℕ) → 0 < limit → Gives (λ (c : ℕ). c < limit) (narrow rules limit b)
  unfolding narrow
  narrow_below limit b h =
      let P = Gives (λ (c : ℕ). c < limit) in
      pick_test P (ltb b limit) (ltb-true b limit) (λ _. pick_test P rules.strict (λ _. tt) (λ _. mod-lt b h))

  narrow_named : (limit : ℕ) (of : ℕ → Meta (List ℕ)) → 0 < limit → ((c : ℕ) → c < limit → MetaNamed (of c))
      → Gives MetaNamed (and_then (narrow rules limit (byte p 0)) (λ c. gives (of c)))
  narrow_named limit of some h = then_gives (λ (c : ℕ). c < limit) MetaNamed _ (narrow rules limit (byte p 0)) (narrow_below limit (byte p 0) some) h

  track_named : MetaNamed (track_number_of p)
  unfolding meta_fits meta_carries raw_meta track_number_of
  track_named =
      pick_test MetaNamed (leb 2 (length p))
      (λ l. let n = byte p 0 * 256 + byte p 1 in needed (track_number n) 0x00 _ (lt-ltb n 65536 (omega arith)) refl refl refl (leb-true 2 (length p) l))
      (λ l. needed no_track_number 0x00 [] refl refl refl refl (omega arith))

  channel_named : 1 ≤ length p → (c : ℕ) → c < 16 → MetaNamed (midi_channel c)
  unfolding meta_fits meta_carries raw_meta
  channel_named l c h = needed (midi_channel c) 0x20 (c ∷ []) (lt-ltb c 16 h) refl refl refl l

  port_named : 1 ≤ length p → (c : ℕ) → c < 128 → MetaNamed (midi_port c)
  unfolding meta_fits meta_carries raw_meta
  port_named l c h = needed (midi_port c) 0x21 (c ∷ []) (lt-ltb c 128 h) refl refl refl l

  tempo_named : 3 ≤ length p → MetaNamed (tempo_of p)
  unfolding meta_fits meta_carries raw_meta
  tempo_named l = let v = byte p 0 * 65536 + byte p 1 * 256 + byte p 2 in needed (tempo v) 0x51 _ (lt-ltb v 16777216 (omega arith)) refl refl refl l

  time_named : 5 ≤ length p → Gives MetaNamed (and_then (time_in rules p) (λ time. gives (smpte_offset time)))
  unfolding meta_fits meta_carries raw_meta
  time_named l =
      then_gives (λ (time : Time). is_time rules time ≡ true) MetaNamed _ (time_in rules p) time-legal
      (λ time is. needed (smpte_offset time) 0x54 (time_bytes time) is refl refl refl (omega (arith, time_length time))) where
        time-legal : Gives (λ (time : Time). is_time rules time ≡ true) (time_in rules p)
        time-legal = by (time_in rules p) refl where
          by : (a : Answer Time) → time_in rules p ≡ a → Gives (λ (time : Time). is_time rules time ≡ true) a
          by (gives time) e = (time_read rules (byte p 0) (byte p 1) (byte p 2) (byte p 3) (byte p 4) e).legal
          by (refuses n) e = tt

  signature_named : 4 ≤ length p → MetaNamed (signature_of p)
  unfolding meta_fits meta_carries raw_meta
  signature_named l =
      let below : (i : ℕ) → ltb (byte p i) 256 ≡ true = λ i. lt-ltb (byte p i) 256 (omega arith) in
      needed (signature_of p) 0x58 _ (rw (below 0, below 1, below 2, below 3)) refl refl refl l

  sharps_fit : (b : ℕ) → b < 256 → mag (signed_byte b) < 128
  sharps_fit b h = by_lt b 128 (λ low. rw (signed_low b low) low) (λ high. rw (signed_high b high h) (omega arith))

  key_named : 2 ≤ length p → MetaNamed (key_of p)
  unfolding meta_fits meta_carries raw_meta
  key_named l = needed (key_of p) 0x59 _ (lt-ltb _ 128 (sharps_fit (byte p 0) (omega arith))) refl refl refl l

  meta_named_lem : Gives MetaNamed (called_meta rules t p)
  unfolding called_meta meta_fits meta_carries raw_meta is_named
  meta_named_lem =
      let P = Gives MetaNamed in
      pick_test P (eqb t 0x00) (λ e. track_named)
      (λ n00. pick_test P (is_text t) (λ e. whole (text t p) e refl refl refl)
      (λ ntext. pick_test P (eqb t 0x20) (λ e. from_named 1 0x20 _ (eqb-true t 0x20 e) (λ l. rw l) (λ l. narrow_named 16 midi_channel (omega arith) (channel_named l)))
      (λ n20. pick_test P (eqb t 0x21) (λ e. from_named 1 0x21 _ (eqb-true t 0x21 e) (λ l. rw l) (λ l. narrow_named 128 midi_port (omega arith) (port_named l)))
      (λ n21. pick_test P (eqb t 0x2F) (λ e. needed end_of_track 0x2F [] refl refl refl refl (omega arith))
      (λ n2F. pick_test P (eqb t 0x51) (λ e. from_named 3 0x51 _ (eqb-true t 0x51 e) (λ l. rw l) tempo_named)
      (λ n51. pick_test P (eqb t 0x54) (λ e. from_named 5 0x54 _ (eqb-true t 0x54 e) (λ l. rw l) time_named)
      (λ n54. pick_test P (eqb t 0x58) (λ e. from_named 4 0x58 _ (eqb-true t 0x58 e) (λ l. rw l) signature_named)
      (λ n58. pick_test P (eqb t 0x59) (λ e. pick_test P (leb 2 (length p)) (λ l. key_named (leb-true 2 (length p) l)) (λ l. tt))
      (λ n59. pick_test P (eqb t 0x7F) (λ e. whole (sequencer_specific p) refl refl refl (ap (λ (n : ℕ). typed n p) (sym (eqb-true t 0x7F e))))
      (λ n7F. itself (rw (lt-leb t 0x09 (past_text t ntext n00), n20, n21, n2F, n51, n54, n58, n59, n7F))))))))))))

typed_named : (rules : Rules) (t : ℕ) (p : List ℕ) → Gives (Named rules (typed t p)) (called rules (typed t p))
unfolding called
typed_named rules t p = then_gives (MetaNamed rules t p) (Named rules (typed t p)) _ (called_meta rules t p) (meta_named_lem rules t p) (λ m k. k)

pub raw_named : (rules : Rules) (raw : Raw) → Sound raw → Gives (Named rules raw) (called rules raw)
unfolding called kind_fits carries raw_of
raw_named rules (one status a) h = said rules status h.0 (one status a) (message_one (status / 16) a) refl (one_said rules status h.0 a h.1 h.2)
raw_named rules (two status a b) h = said rules status h.0 (two status a b) (message_two (status / 16) a b) refl (two_said rules status h.0 a b h.1 h.2 h.3)
raw_named rules (system status p) h =
    pick_test (Named rules (system status p)) (eqb status 0xF0)
    (λ e. as_read rules (system status p) (sys_ex p) refl refl refl (ap (λ (n : ℕ). system n p) (sym (eqb-true status 0xF0 e))))
    (λ e. as_read rules (system status p) (escape p) refl refl refl (ap (λ (n : ℕ). system n p) (⊎_elim (λ z. absurd (eqb-false status 0xF0 e z)) sym h.0)))
raw_named rules (typed t p) h = typed_named rules t p

-- an `Unknown` is misnamed exactly when it is not called itself
pub unnamed_exactly : (rules : Rules) (t : ℕ) (p : List ℕ) → (is_named rules t (length p) ≡ false) ↔ (called rules (typed t p) ≡ gives (meta (unknown t p)))
unfolding called carries meta_carries
unnamed_exactly rules t p = (
  λ h. rw (unnamed_itself rules t p h),
  λ e. (said_of (Gives (Named rules (typed t p))) (typed_named rules t p) e).own,
)

-- what strict reading calls an event, lenient reading calls it too
module _ (rules : Rules) where
  narrow_alike : (limit b : ℕ) → Alike (narrow rules limit b) (narrow (leniently rules) limit b)
  unfolding narrow
  narrow_alike limit b = pick_alike Alike (ltb b limit) refl (strictly_alike rules 12 (b % limit))

  narrowed_alike : (limit b : ℕ) (of : ℕ → Meta (List ℕ)) → Alike (and_then (narrow rules limit b) (λ c. gives (of c))) (and_then (narrow (leniently rules) limit b) (λ c. gives (of c)))
  narrowed_alike limit b of = then_alike _ _ (narrow rules limit b) (narrow (leniently rules) limit b) (narrow_alike limit b) (λ c. refl)

  -- a time is a time in either mode
  time_alike : (p : List ℕ) → Alike (time_in rules p) (time_in (leniently rules) p)
  unfolding time_of to_time is_time
  time_alike p = alike_self (time_in rules p)

  meta_alike : (t : ℕ) (p : List ℕ) → Alike (called_meta rules t p) (called_meta (leniently rules) t p)
  unfolding called_meta
  meta_alike t p =
      pick_alike Alike (eqb t 0x00) refl
      (pick_alike Alike (is_text t) refl
      (pick_alike Alike (eqb t 0x20) (pick_alike Alike (leb 1 (length p)) (narrowed_alike 16 (byte p 0) midi_channel) refl)
      (pick_alike Alike (eqb t 0x21) (pick_alike Alike (leb 1 (length p)) (narrowed_alike 128 (byte p 0) midi_port) refl)
      (pick_alike Alike (eqb t 0x2F) refl
      (pick_alike Alike (eqb t 0x51) (alike_self (from 3 t p (gives (tempo_of p))))
      (pick_alike Alike (eqb t 0x54) (pick_alike Alike (leb 5 (length p)) (then_alike _ _ (time_in rules p) (time_in (leniently rules) p) (time_alike p) (λ time. refl)) refl)
      (pick_alike Alike (eqb t 0x58) (alike_self (from 4 t p (gives (signature_of p))))
      (pick_alike Alike (eqb t 0x59) (alike_self (pick (leb 2 (length p)) (gives (key_of p)) (refuses 14)))
      (pick_alike Alike (eqb t 0x7F) refl refl)))))))))

  pub called_alike : (raw : Raw) → Alike (called rules raw) (called (leniently rules) raw)
  unfolding called
  called_alike (one status a) = refl
  called_alike (two status a b) = refl
  called_alike (system status p) = refl
  called_alike (typed t p) = then_alike _ _ (called_meta rules t p) (called_meta (leniently rules) t p) (meta_alike t p) (λ m. refl)
