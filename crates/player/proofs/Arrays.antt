-- An array of arrays of the code is a full table: the kit says so of the value of every argument, by its type.
use mathlib.Core.Path.{◌≡◌}
use mathlib.Core.List.{List, [], ◌∷◌}
use Prim.Native.Nat.{ℕ, zero, suc, ◌<◌}
use native.Mathlib.Nat.{le_of_suc-le-suc, not-suc-le-zero}
use lib.ListN.{length, get_or}
use mir.Syntax.{w8}
use mir.Val.{Val}
use borrow.Kind.Array.{e_int, e_arr, good_length}
use denote.Array.{Array, each}
use denote.Shadow.{shadow}
use denote.Laws.{Is}
use denote.Plain.{UInt}
use denote.RattleType.{RattleType}
use Rattle.player.specs.Table.{channels, keys, Table}
use Rattle.player.proofs.Tables.{Shaped}

abbrev Channel : RattleType
Channel = Array (UInt w8) keys

rows_full : (t : Table) (us : List Val) → shadow (each Channel.Denot Channel.own_val t us) → (c : ℕ) → c < length t → length (get_or t c []) ≡ keys
rows_full [] us p c h = absurd (not-suc-le-zero h)
rows_full (row ∷ t) [] p c h = absurd p
rows_full (row ∷ t) (u ∷ us) p zero h = good_length (e_int w8) keys row (u ∷ []) p.0
rows_full (row ∷ t) (u ∷ us) p (suc c) h = rows_full t us p.1 c (le_of_suc-le-suc h)

pub shaped_array : (t : Table) (vs : List Val) → Is (Array Channel channels) t vs → Shaped t
shaped_array t vs p =
    let long : length t ≡ channels = good_length (e_arr (e_int w8) keys) channels t vs p in
    record { rows = long; row = λ c h. rows_full t p.0 p.1.1 c (rw long h) }
