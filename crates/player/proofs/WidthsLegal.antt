-- Every legal event is one that the player takes, and so is every event that is read: a restricted field that legality allows is within its width.
-- Legality asks for more, as the ranges of an SMPTE time.
use mathlib.Core.Path.{◌≡◌, refl, ap}
use mathlib.Core.Bool.{Bool, true, false, ◌&&◌, not}
use mathlib.Core.List.{List, [], ◌∷◌, map}
use Prim.Native.Nat.{ℕ, zero, suc, ◌^◌}
use native.Mathlib.Omega.{arith}
use lib.Dec.{ltb}
use lib.ListN.{length, take}
use Rattle.smf.specs.Answer.{Answer, gives, unless, Rules}
use Rattle.smf.specs.Place.{Span, place_of}
use Rattle.smf.specs.Kind.{Message, note_off, note_on, aftertouch, controller, program_change, channel_aftertouch, pitch_bend}
use Rattle.smf.specs.Kind.{Meta, track_number, no_track_number, text, midi_channel, midi_port, end_of_track, tempo, smpte_offset, time_signature, key_signature, sequencer_specific, unknown}
use Rattle.smf.specs.Kind.{Kind, midi, sys_ex, escape, meta}
use Rattle.smf.specs.Event.{Event, map_meta, map_kind, map_event, span_before, message_fits, meta_fits, kind_fits, kind_load, kind_misnamed, legal}
use Rattle.smf.specs.Wire.{Taken}
use Rattle.smf.specs.Lists.{taken_event, event_from, records_judged}
use Rattle.smf.proofs.Answer.{both}
use Rattle.smf.proofs.Legal.{is_legal, AllLegal}
use Rattle.player.specs.Widths.{message_within, meta_within, kind_within, event_within, all_within}

message_within_lem : (rules : Rules) (m : Message) → message_fits rules m ≡ message_within m
unfolding message_fits message_within
message_within_lem rules (note_off key vel) = refl
message_within_lem rules (note_on key vel) = refl
message_within_lem rules (aftertouch key vel) = refl
message_within_lem rules (controller number value) = refl
message_within_lem rules (program_change program) = refl
message_within_lem rules (channel_aftertouch vel) = refl
message_within_lem rules (pitch_bend raw) = refl

meta_within_lem : {P : Type 0} (rules : Rules) (m : Meta P) → meta_fits rules m ≡ true → meta_within m ≡ true
unfolding meta_fits meta_within
meta_within_lem rules (track_number n) h = refl
meta_within_lem rules no_track_number h = refl
meta_within_lem rules (text t p) h = refl
meta_within_lem rules (midi_channel c) h = h
meta_within_lem rules (midi_port c) h = h
meta_within_lem rules end_of_track h = refl
meta_within_lem rules (tempo v) h = h
meta_within_lem rules (smpte_offset time) h = refl
meta_within_lem rules (time_signature a b c d) h = refl
meta_within_lem rules (key_signature sharps minor) h = refl
meta_within_lem rules (sequencer_specific p) h = refl
meta_within_lem rules (unknown t p) h = refl

kind_within_lem : {P : Type 0} (rules : Rules) (k : Kind P) → kind_fits rules k ≡ true → kind_within k ≡ true
unfolding kind_fits kind_within
kind_within_lem rules (midi channel m) h = rw (message_within_lem rules m) at h
kind_within_lem rules (sys_ex p) h = refl
kind_within_lem rules (escape p) h = refl
kind_within_lem rules (meta m) h = meta_within_lem rules m h

fits_within : {P : Type 0} (rules : Rules) (e : Event P) → (ltb e.delta (2 ^ 28) && kind_fits rules e.kind) ≡ true → event_within e ≡ true
unfolding event_within
fits_within rules e h = let b = both (ltb e.delta (2 ^ 28)) (kind_fits rules e.kind) h in rw b.0 (kind_within_lem rules e.kind b.1)

-- the first of the tests that were passed
passed : {A : Type 0} (t : Bool) (n : ℕ) (a : Answer A) (x : A) → unless t n a ≡ gives x → t ≡ true
passed true n a x h = refl
passed false n a x h = let z : ◌≡◌ {A = ℕ} 0 1 = cc in absurd (omega arith)

module _ (rules : Rules) (bytes : List ℕ) where
  pub legal_within : (e : Event Span) (l : Event (List ℕ)) → legal rules bytes e ≡ gives l → event_within e ≡ true
  unfolding legal
  legal_within e l h = fits_within rules e (passed (ltb e.delta (2 ^ 28) && kind_fits rules e.kind) 18 _ l h)

  -- so many records that are legal
  pub all_legal_within : (count : ℕ) (records : List (Event Span)) (es : List (Event (List ℕ))) → take count (records_judged rules bytes records) ≡ map gives es
      → all_within (take count records) ≡ true
  unfolding all_within
  all_legal_within zero records es h = refl
  all_legal_within (suc n) [] es h = refl
  all_legal_within (suc n) (r ∷ rs) [] h = absurd (omega (arith, ap length h))
  all_legal_within (suc n) (r ∷ rs) (e ∷ es) h =
      let q : legal rules bytes r ≡ gives e = cc in
      let behind : take n (records_judged rules bytes rs) ≡ map gives es = cc in
      rw (legal_within r e q) (all_legal_within n rs es behind)

-- What is read is legal: payloads by their places are within as those by their bytes

meta_mapped : {P Q : Type 0} (f : P → Q) (m : Meta P) → meta_within (map_meta f m) ≡ meta_within m
unfolding meta_within map_meta
meta_mapped f (track_number n) = refl
meta_mapped f no_track_number = refl
meta_mapped f (text t p) = refl
meta_mapped f (midi_channel c) = refl
meta_mapped f (midi_port c) = refl
meta_mapped f end_of_track = refl
meta_mapped f (tempo v) = refl
meta_mapped f (smpte_offset time) = refl
meta_mapped f (time_signature a b c d) = refl
meta_mapped f (key_signature sharps minor) = refl
meta_mapped f (sequencer_specific p) = refl
meta_mapped f (unknown t p) = refl

kind_mapped : {P Q : Type 0} (f : P → Q) (k : Kind P) → kind_within (map_kind f k) ≡ kind_within k
unfolding kind_within map_kind
kind_mapped f (midi channel m) = refl
kind_mapped f (sys_ex p) = refl
kind_mapped f (escape p) = refl
kind_mapped f (meta m) = meta_mapped f m

event_mapped : {P Q : Type 0} (f : P → Q) (e : Event P) → event_within (map_event f e) ≡ event_within e
unfolding event_within map_event
event_mapped f e = rw (kind_mapped f e.kind)

-- an event that is legal of itself
itself_within : (rules : Rules) (e : Event (List ℕ)) → is_legal rules e ≡ true → event_within e ≡ true
unfolding is_legal
itself_within rules e h =
    let fits = ltb e.delta (2 ^ 28) && kind_fits rules e.kind in
    let small = ltb (length (kind_load [] e.kind)) (2 ^ 28) in
    fits_within rules e (both fits small (both (fits && small) (not (kind_misnamed rules length e.kind)) h).0).0

-- the events of a list that was read
pub read_within : (rules : Rules) (s : List ℕ) (at : ℕ) (ts : List (Taken (Event (List ℕ)))) → AllLegal rules (map taken_event ts) → all_within (map (event_from s at) ts) ≡ true
unfolding all_within
read_within rules s at [] h = refl
read_within rules s at (t ∷ ts) h =
    rw (event_mapped (span_before (place_of s at t.rest)) t.value, itself_within rules t.value h.0) (read_within rules s at ts h.1)
