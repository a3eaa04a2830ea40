-- The bytes of legal events are bytes, below 256, where what the events carry is.
use mathlib.Core.Path.{◌≡◌}
use mathlib.Core.Bool.{Bool, true, false}
use mathlib.Core.List.{List, [], ◌∷◌, ◌++◌}
use mathlib.Core.Logic.{⊎_elim}
use Prim.Native.Nat.{ℕ, zero, suc, ◌/◌, ◌<◌}
use native.Mathlib.Omega.{arith}
use lib.Dec.{eqb}
use lib.IntN.{ℤ, pos, negsuc}
use lib.Signed.{mag}
use lib.ListN.{length}
use borrow.Author.Tests.{ltb-true}
use Rattle.smf.specs.Answer.{pick, Rules}
use Rattle.smf.specs.Number.{ahead, encode_number}
use Rattle.smf.specs.Payload.{encode_payload}
use Rattle.smf.specs.Signed.{byte_of_signed}
use Rattle.smf.specs.Smpte.{Time, is_time, time_bytes}
use Rattle.smf.specs.Wire.{Raw, one, two, system, typed, encode_raw, encode_raw_event}
use Rattle.smf.specs.Kind as kind
use Rattle.smf.specs.Kind.{Message, Meta, Kind, raw_message, raw_meta, raw_of}
use Rattle.smf.specs.Event.{Event, meta_fits, kind_fits, carries, meta_carries, encode_event, event_after}
use Rattle.smf.specs.Lists.{encode_list}
use Rattle.smf.proofs.Answer.{both, pick_both}
use Rattle.smf.proofs.Smpte.{rate_small, rate_coded, in_range}
use Rattle.smf.proofs.Wire.{Sound}
use Rattle.smf.proofs.Kind.{is_text_lem, kind_sound}
use Rattle.smf.proofs.Event.{is_legal_lem}
use Rattle.smf.proofs.Legal.{is_legal, AllLegal}
use Rattle.claims.specs.Point3.{Bytes, BytesCarried, CarryBytes}

pub both_bytes : (a b : List ℕ) → Bytes a → Bytes b → Bytes (a ++ b)
both_bytes [] b p q = q
both_bytes (x ∷ a) b p q = (p.0, both_bytes a b p.1 q)

ahead_bytes : (k v : ℕ) → Bytes (ahead k v)
unfolding ahead
ahead_bytes zero v = tt
ahead_bytes (suc k) v = pick_both Bytes (eqb v 0) tt (both_bytes (ahead k (v / 128)) _ (ahead_bytes k (v / 128)) (omega arith, tt))

pub number_bytes_lem : (v : ℕ) → Bytes (encode_number v)
unfolding encode_number
number_bytes_lem v = both_bytes (ahead 3 (v / 128)) _ (ahead_bytes 3 (v / 128)) (omega arith, tt)

payload_bytes_lem : (p : List ℕ) → Bytes p → Bytes (encode_payload p)
unfolding encode_payload
payload_bytes_lem p h = both_bytes (encode_number (length p)) p (number_bytes_lem (length p)) h

-- what a raw event carries
abbrev RawBytes : Raw → Type 0
RawBytes (one status a) = Unit {0}
RawBytes (two status a b) = Unit {0}
RawBytes (system status p) = Bytes p
RawBytes (typed t p) = (t < 256) × Bytes p

raw_bytes : (running : ℕ) (raw : Raw) → Sound raw → RawBytes raw → Bytes (encode_raw running raw)
unfolding encode_raw
raw_bytes running (one status a) s h = pick_both Bytes (eqb running status) (omega (arith, s.2), tt) (omega (arith, s.0.high), (omega (arith, s.2), tt))
raw_bytes running (two status a b) s h =
    pick_both Bytes (eqb running status) (omega (arith, s.2), (omega (arith, s.3), tt)) (omega (arith, s.0.high), (omega (arith, s.2), (omega (arith, s.3), tt)))
raw_bytes running (system status p) s h = (⊎_elim (λ e. omega arith) (λ e. omega arith) s.0, payload_bytes_lem p h)
raw_bytes running (typed t p) s h = (omega arith, (h.0, payload_bytes_lem p h.1))

signed_byte_lem : (z : ℤ) → mag z < 128 → byte_of_signed z < 256
unfolding byte_of_signed
signed_byte_lem (pos n) h = omega arith
signed_byte_lem (negsuc n) h = omega arith

mode_byte : (minor : Bool) → pick minor 1 0 < 256
mode_byte true = omega arith
mode_byte false = omega arith

time_bytes_lem : (rules : Rules) (t : Time) → is_time rules t ≡ true → Bytes (time_bytes t)
unfolding time_bytes
time_bytes_lem rules t is =
    let r = in_range rules t is in
    let c = rate_coded t.rate r.rated in
    let few = rate_small t.rate r.rated in
    (omega (arith, c.small, r.hour-below), (omega (arith, r.minute-below), (omega (arith, r.second_below), (omega (arith, r.frame_below, few), (omega (arith, r.subframe-below), tt)))))

meta_bytes : (rules : Rules) (m : Meta (List ℕ)) → meta_fits rules m ≡ true → BytesCarried (meta_carries m) → RawBytes (raw_meta m)
unfolding meta_fits meta_carries raw_meta
meta_bytes rules (kind.track_number n) f h = let g = ltb-true n 65536 f in (omega arith, (omega arith, (omega arith, tt)))
meta_bytes rules kind.no_track_number f h = (omega arith, tt)
meta_bytes rules (kind.text t p) f h = (omega (arith, (is_text_lem t f).1), h)
meta_bytes rules (kind.midi_channel c) f h = let g = ltb-true c 16 f in (omega arith, (omega arith, tt))
meta_bytes rules (kind.midi_port c) f h = let g = ltb-true c 128 f in (omega arith, (omega arith, tt))
meta_bytes rules kind.end_of_track f h = (omega arith, tt)
meta_bytes rules (kind.tempo v) f h = let g = ltb-true v 16777216 f in (omega arith, (omega arith, (omega arith, (omega arith, tt))))
meta_bytes rules (kind.smpte_offset t) f h = (omega arith, time_bytes_lem rules t f)
meta_bytes rules (kind.time_signature a b c d) f h =
    let f1 = both _ _ f in
    let f2 = both _ _ f1.0 in
    let f3 = both _ _ f2.0 in
    (omega arith, (ltb-true a 256 f3.0, (ltb-true b 256 f3.1, (ltb-true c 256 f2.1, (ltb-true d 256 f1.1, tt)))))
meta_bytes rules (kind.key_signature z minor) f h = (omega arith, (signed_byte_lem z (ltb-true (mag z) 128 f), (mode_byte minor, tt)))
meta_bytes rules (kind.sequencer_specific p) f h = (omega arith, h)
meta_bytes rules (kind.unknown t p) f h = h

message_bytes : (c : ℕ) (m : Message) → RawBytes (raw_message c m)
unfolding raw_message
message_bytes c (kind.note_off key vel) = tt
message_bytes c (kind.note_on key vel) = tt
message_bytes c (kind.aftertouch key vel) = tt
message_bytes c (kind.controller number value) = tt
message_bytes c (kind.program_change program) = tt
message_bytes c (kind.channel_aftertouch vel) = tt
message_bytes c (kind.pitch_bend raw) = tt

kind_bytes : (rules : Rules) (k : Kind (List ℕ)) → kind_fits rules k ≡ true → BytesCarried (carries k) → RawBytes (raw_of k)
unfolding kind_fits carries raw_of
kind_bytes rules (kind.midi c m) f h = message_bytes c m
kind_bytes rules (kind.sys_ex p) f h = h
kind_bytes rules (kind.escape p) f h = h
kind_bytes rules (kind.meta m) f h = meta_bytes rules m f h

event_bytes : (rules : Rules) (running : ℕ) (e : Event (List ℕ)) → is_legal rules e ≡ true → BytesCarried (carries e.kind) → Bytes (encode_event running e)
unfolding encode_event encode_raw_event
event_bytes rules running e is h =
    let l = (is_legal_lem rules e is).kind in
    both_bytes (encode_number e.delta) _ (number_bytes_lem e.delta)
    (raw_bytes running (raw_of e.kind) (kind_sound rules e.kind l) (kind_bytes rules e.kind l.fits h))

pub list_bytes : (rules : Rules) (running : ℕ) (es : List (Event (List ℕ))) → AllLegal rules es → CarryBytes es → Bytes (encode_list running es)
unfolding encode_list
list_bytes rules running [] l h = tt
list_bytes rules running (e ∷ es) l h =
    both_bytes (encode_event running e) _ (event_bytes rules running e l.0 h.0) (list_bytes rules (event_after e) es l.1 h.1)
