-- Two lists in turn equal their joined events.
use mathlib.Core.Path.{◌≡◌, refl, sym, ap, ◌∙◌}
use mathlib.Core.List.{List, [], ◌∷◌, ◌++◌}
use Prim.Native.Nat.{ℕ, ◌<◌}
use Rattle.smf.specs.Event.{Event}
use Rattle.player.specs.Table.{channels, keys, Table, entry}
use Rattle.player.specs.Notes.{Change, stays, becomes, change_by, last_of, last_note, changed, kind_note, table_after}
use Rattle.player.proofs.Tables.{Shaped, shaped_of, entry_of, table_same}

last_last : (a b c : Change) → last_of (last_of a b) c ≡ last_of a (last_of b c)
unfolding last_of
last_last a b stays = refl
last_last a b (becomes v) = refl

last_stays : (a : Change) → last_of stays a ≡ a
unfolding last_of
last_stays stays = refl
last_stays (becomes v) = refl

pub last_joined : {P : Type 0} (c k : ℕ) (es fs : List (Event P)) → last_note c k (es ++ fs) ≡ last_of (last_note c k es) (last_note c k fs)
unfolding last_note
last_joined c k [] fs = sym (last_stays (last_note c k fs))
last_joined c k (e ∷ es) fs =
    ap (last_of (change_by c k (kind_note e.kind))) (last_joined c k es fs)
    ∙ sym (last_last (change_by c k (kind_note e.kind)) (last_note c k es) (last_note c k fs))

changed_last : (v : ℕ) (a b : Change) → changed (changed v a) b ≡ changed v (last_of a b)
unfolding last_of
changed_last v a stays = refl
changed_last v a (becomes w) = refl

pub shaped_after : {P : Type 0} (t : Table) (es : List (Event P)) → Shaped (table_after t es)
unfolding table_after
shaped_after t es = shaped_of (λ c k. changed (entry t c k) (last_note c k es))

-- the entry of a table after events
pub entry_after : {P : Type 0} (t : Table) (es : List (Event P)) (c k : ℕ) → c < channels → k < keys
    → entry (table_after t es) c k ≡ changed (entry t c k) (last_note c k es)
unfolding table_after
entry_after t es c k hc hk = entry_of (λ c' k'. changed (entry t c' k') (last_note c' k' es)) c k hc hk

pub joined : {P : Type 0} (t : Table) (es fs : List (Event P)) → table_after (table_after t es) fs ≡ table_after t (es ++ fs)
unfolding table_after
joined t es fs =
    table_same (λ c k. changed (entry (table_after t es) c k) (last_note c k fs)) (λ c k. changed (entry t c k) (last_note c k (es ++ fs)))
    (λ c k hc hk.
    ap (λ (v : ℕ). changed v (last_note c k fs)) (entry_after t es c k hc hk)
    ∙ changed_last (entry t c k) (last_note c k es) (last_note c k fs)
    ∙ ap (changed (entry t c k)) (sym (last_joined c k es fs)))
