-- The last note message for a channel and key, found in a list: what it leaves there.
use mathlib.Core.Path.{◌≡◌, refl, ap, ◌∙◌}
use mathlib.Core.Bool.{◌&&◌}
use mathlib.Core.List.Memᴰ
use mathlib.Core.List.{List, [], ◌∷◌, ◌++◌}
use Prim.Native.Nat.{ℕ, ◌<◌}
use borrow.Author.Tests.{eqb-true, eq-eqb}
use lib.Dec.{eqb}
use Rattle.smf.specs.Place.{Span}
use Rattle.smf.specs.Kind.{Message, note_off, note_on, aftertouch, controller, program_change, channel_aftertouch, pitch_bend}
use Rattle.smf.specs.Kind.{Kind, midi, sys_ex, escape, meta}
use Rattle.smf.specs.Event.{Event, event}
use Rattle.smf.proofs.Answer.{by_test, both}
use Rattle.player.specs.Table.{channels, keys, Table, entry}
use Rattle.player.specs.Notes.{message_note, kind_note, Change, stays, becomes, note, change_by, last_of, last_note, changed, table_after}
use Rattle.player.proofs.Joined.{last_joined, entry_after}
use Rattle.claims.specs.Sounding.{NoNote, LeavesLast}

module _ (c k : ℕ) where
  -- no note message for them changes their entry
  message_stays : (delta channel : ℕ) (m : Message) → NoNote c k (event delta (midi channel m) ∷ []) → change_by c k (message_note channel m) ≡ stays
  unfolding change_by message_note
  message_stays delta channel (note_off key vel) h =
      by_test (eqb channel c && eqb key k)
      (λ t.
      let b = both (eqb channel c) (eqb key k) t in
      absurd ((h delta vel).1 (Memᴰ.head (rw (eqb-true channel c b.0, eqb-true key k b.1)))))
      (λ t. rw t)
  message_stays delta channel (note_on key vel) h =
      by_test (eqb channel c && eqb key k)
      (λ t.
      let b = both (eqb channel c) (eqb key k) t in
      absurd ((h delta vel).0 (Memᴰ.head (rw (eqb-true channel c b.0, eqb-true key k b.1)))))
      (λ t. rw t)
  message_stays delta channel (aftertouch key vel) h = refl
  message_stays delta channel (controller number value) h = refl
  message_stays delta channel (program_change program) h = refl
  message_stays delta channel (channel_aftertouch vel) h = refl
  message_stays delta channel (pitch_bend raw) h = refl

  kind_stays : (delta : ℕ) (kind : Kind Span) → NoNote c k (event delta kind ∷ []) → change_by c k (kind_note kind) ≡ stays
  unfolding change_by kind_note
  kind_stays delta (midi channel m) h = message_stays delta channel m h
  kind_stays delta (sys_ex p) h = refl
  kind_stays delta (escape p) h = refl
  kind_stays delta (meta m) h = refl

  last_stays : (es : List (Event Span)) → NoNote c k es → last_note c k es ≡ stays
  unfolding last_note last_of
  last_stays [] h = refl
  last_stays (e ∷ es) h =
      let only : NoNote c k (e ∷ []) = λ delta vel.
      ((λ m. (h delta vel).0 (Memᴰ.head (Memᴰ.eq_of_singleton m))), (λ m. (h delta vel).1 (Memᴰ.head (Memᴰ.eq_of_singleton m)))) in
      let later : NoNote c k es = λ delta vel. ((λ m. (h delta vel).0 (Memᴰ.tail m)), (λ m. (h delta vel).1 (Memᴰ.tail m))) in
      rw (last_stays es later) (kind_stays e.delta e.kind only)

  -- a note message for them, and none behind it
  last_note_lem : (front behind : List (Event Span)) (e : Event Span) (v : ℕ) → kind_note e.kind ≡ note c k v → NoNote c k behind
      → last_note c k (front ++ (e ∷ behind)) ≡ becomes v
  unfolding last_note last_of change_by
  last_note_lem front behind e v is h =
      last_joined c k front (e ∷ behind) ∙ rw (last_stays behind h, is, eq-eqb c c refl, eq-eqb k k refl)

pub leaves_last : (t : Table) (es : List (Event Span)) → LeavesLast t es (table_after t es)
unfolding kind_note message_note
leaves_last t es =
    let after : (c k : ℕ) (change : Change) → c < channels → k < keys → last_note c k es ≡ change → entry (table_after t es) c k ≡ changed (entry t c k) change
    = λ c k change hc hk is. entry_after t es c k hc hk ∙ ap (changed (entry t c k)) is in
    record {
      on = λ front behind delta c k vel hc hk e h.
          after c k (becomes vel) hc hk (ap (last_note c k) e ∙ last_note_lem c k front behind (event delta (midi c (note_on k vel))) vel refl h);
      off = λ front behind delta c k vel hc hk e h.
          after c k (becomes 0) hc hk (ap (last_note c k) e ∙ last_note_lem c k front behind (event delta (midi c (note_off k vel))) 0 refl h);
      none = λ c k hc hk h. after c k stays hc hk (last_stays c k es h);
    }
