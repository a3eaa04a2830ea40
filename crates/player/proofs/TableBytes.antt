-- A table and its bytes: the bytes of a table are taken back as that table, so that it can go from call to call as bytes; those of a fresh table are 0.
use mathlib.Core.Path.{◌≡◌, sym, ◌∙◌}
use mathlib.Core.List.{List}
use Prim.Native.Nat.{ℕ, ◌<◌, ◌/◌, ◌%◌}
use lib.ListN.{replicate, length-replicate, get_or-replicate}
use lib.Seq.{ext_get_or}
use Rattle.player.specs.Table.{keys, Table, entry, fresh, places, key_place, velocity_at}
use Rattle.player.specs.Entries.{table_in, bytes_in}
use Rattle.player.proofs.Tables.{Shaped, shaped_of, mapped_at, length_mapped, entry_of, table_same, table_of_entries}
use Rattle.player.proofs.Places.{place_channel, place_key, place_within, velocity_at_lem}

pub table_back : {t : Table} → Shaped t → table_in (bytes_in t) ≡ t
unfolding table_in bytes_in
table_back {t} h =
    table_same _ (entry t)
    (λ c k hc hk.
    mapped_at (velocity_at t) places (key_place c k) 0 (place_within c k hc hk) ∙ velocity_at_lem t c k hk)
    ∙ table_of_entries h

pub shaped_in : (bytes : List ℕ) → Shaped (table_in bytes)
unfolding table_in
shaped_in bytes = shaped_of _

-- the bytes of a fresh table
pub bytes_fresh : bytes_in fresh ≡ replicate places 0
unfolding bytes_in fresh
bytes_fresh =
    let own = length_mapped (velocity_at fresh) places in
    ext_get_or 0 (bytes_in fresh) (replicate places 0) (own ∙ sym (length-replicate {A = ℕ} places 0))
    (λ p h.
    let there : p < places = rw own at h in
    mapped_at (velocity_at fresh) places p 0 there
    ∙ entry_of (λ c k. 0) (p / keys) (p % keys) (place_channel p there) (place_key p)
    ∙ sym (get_or-replicate places p 0 0 there))
