-- Legality: whether bytes are read strictly or leniently does not touch it.
use mathlib.Core.Path.{◌≡◌, refl, ◌∙◌}
use mathlib.Core.Bool.{Bool, true, ◌&&◌, not}
use mathlib.Core.List.{List, [], ◌∷◌}
use Prim.Native.Nat.{ℕ, ◌^◌}
use lib.Dec.{ltb}
use lib.ListN.{length}
use Rattle.smf.specs.Answer.{Rules, strict_of}
use Rattle.smf.specs.Smpte.{is_time}
use Rattle.smf.specs.Kind.{Message, note_off, note_on, aftertouch, controller, program_change, channel_aftertouch, pitch_bend}
use Rattle.smf.specs.Kind.{Meta, track_number, no_track_number, text, midi_channel, midi_port, end_of_track, tempo, smpte_offset, time_signature, key_signature, sequencer_specific, unknown}
use Rattle.smf.specs.Kind.{Kind, midi, sys_ex, escape, meta}
use Rattle.smf.specs.Event.{Event, message_fits, meta_fits, kind_fits, Carried, nothing, owned, untold, carries, kind_load, is_named, misnamed, kind_misnamed}

-- whether an event is legal of itself, whatever record and payload bytes it came from
unfoldable pub is_legal : Rules → Event (List ℕ) → Bool
is_legal rules e =
    ltb e.delta (2 ^ 28)
    && kind_fits rules e.kind
    && ltb (length (kind_load [] e.kind)) (2 ^ 28)
    && not (kind_misnamed rules length e.kind)

-- each event of a list is legal
abbrev pub AllLegal : Rules → List (Event (List ℕ)) → Type 0
AllLegal rules [] = Unit {0}
AllLegal rules (e ∷ es) = (is_legal rules e ≡ true) × AllLegal rules es

module _ (rules : Rules) where
  message_fits_strictly : (m : Message) → message_fits (strict_of rules) m ≡ message_fits rules m
  unfolding message_fits
  message_fits_strictly (note_off key vel) = refl
  message_fits_strictly (note_on key vel) = refl
  message_fits_strictly (aftertouch key vel) = refl
  message_fits_strictly (controller number value) = refl
  message_fits_strictly (program_change program) = refl
  message_fits_strictly (channel_aftertouch vel) = refl
  message_fits_strictly (pitch_bend raw) = refl

  meta_fits_strictly : {P : Type 0} (m : Meta P) → meta_fits (strict_of rules) m ≡ meta_fits rules m
  unfolding meta_fits is_time
  meta_fits_strictly (track_number n) = refl
  meta_fits_strictly no_track_number = refl
  meta_fits_strictly (text t p) = refl
  meta_fits_strictly (midi_channel c) = refl
  meta_fits_strictly (midi_port c) = refl
  meta_fits_strictly end_of_track = refl
  meta_fits_strictly (tempo v) = refl
  meta_fits_strictly (smpte_offset time) = refl
  meta_fits_strictly (time_signature a b c d) = refl
  meta_fits_strictly (key_signature sharps minor) = refl
  meta_fits_strictly (sequencer_specific p) = refl
  meta_fits_strictly (unknown t p) = refl

  kind_fits_strictly : {P : Type 0} (k : Kind P) → kind_fits (strict_of rules) k ≡ kind_fits rules k
  unfolding kind_fits
  kind_fits_strictly (midi channel m) = rw (message_fits_strictly m)
  kind_fits_strictly (sys_ex p) = refl
  kind_fits_strictly (escape p) = refl
  kind_fits_strictly (meta m) = meta_fits_strictly m

  misnamed_strictly : {P : Type 0} (size : P → ℕ) (c : Carried P) → misnamed (strict_of rules) size c ≡ misnamed rules size c
  unfolding is_named
  misnamed_strictly size nothing = refl
  misnamed_strictly size (owned p) = refl
  misnamed_strictly size (untold t p) = refl

  -- an event is legal under strict rules exactly when it is legal under the same rules, strict or not
  pub legal_strictly : (e : Event (List ℕ)) → is_legal (strict_of rules) e ≡ is_legal rules e
  unfolding is_legal
  legal_strictly e = rw (kind_fits_strictly e.kind, misnamed_strictly length (carries e.kind))

  -- and so are all of a list
  pub all_strictly : (es : List (Event (List ℕ))) → AllLegal rules es → AllLegal (strict_of rules) es
  all_strictly [] h = tt
  all_strictly (e ∷ es) h = (legal_strictly e ∙ h.0, all_strictly es h.1)
