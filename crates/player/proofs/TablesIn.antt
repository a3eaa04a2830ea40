-- A table in bytes: what a loop keeps that fills the table from them, place by place.
use mathlib.Core.Path.{◌≡◌, sym, ◌∙◌}
use mathlib.Core.List.{List}
use Prim.Native.Nat.{ℕ, ◌≤◌, ◌<◌}
use native.Mathlib.Omega.{arith}
use borrow.Author.Count.{below_none}
use lib.ListN.{get_or}
use Rattle.player.specs.Table.{Table, places, key_place, velocity_at}
use Rattle.player.specs.Entries.{table_in}
use Rattle.player.proofs.Tables.{Shaped, shaped_of, entry_of, table_ext}
use Rattle.player.proofs.Places.{place_within, velocity_at_lem}

module _ (bytes : List ℕ) where
  pub record Filled (t : Table) (place : ℕ) : Type 0 where
    pub within : place ≤ places
    pub shaped : Shaped t
    pub there : (p : ℕ) → p < place → velocity_at t p ≡ get_or bytes p 0

  pub filled_first : {t : Table} → Shaped t → Filled t 0
  filled_first h = record { within = omega arith; shaped = h; there = below_none _ }

  module _ {t : Table} {place : ℕ} (f : Filled t place) where
    pub filled_all : places ≤ place → t ≡ table_in bytes
    unfolding table_in
    filled_all last =
        table_ext f.shaped (shaped_of (λ c k. get_or bytes (key_place c k) 0))
        (λ c k hc hk.
        sym (velocity_at_lem t c k hk)
        ∙ f.there (key_place c k) (omega (arith, place_within c k hc hk))
        ∙ sym (entry_of (λ c' k'. get_or bytes (key_place c' k') 0) c k hc hk))
