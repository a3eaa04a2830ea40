-- The places of a table: each is one channel and key, and each channel and key has its own.
use mathlib.Core.Path.{◌≡◌, sym, ap, ap₂, ◌∙◌}
use mathlib.Core.Logic.{⊎_elim}
use Prim.Native.Nat.{ℕ, ◌/◌, ◌%◌, ◌<◌}
use native.Mathlib.Nat.{div-add-mod'}
use native.Mathlib.Omega.{arith}
use Rattle.player.specs.Table.{channels, keys, Table, entry, places, key_place, velocity_at}
use Rattle.player.proofs.Tables.{Shaped, set_entry, entry_set_same, entry_set_key, entry_set_channel, same_or_other}

pub place_channel : (p : ℕ) → p < places → p / keys < channels
place_channel p h = omega arith

pub place_key : (p : ℕ) → p % keys < keys
place_key p = omega arith

place_back : (p : ℕ) → key_place (p / keys) (p % keys) ≡ p
place_back p = div-add-mod' p keys

pub channel_back : (c k : ℕ) → k < keys → key_place c k / keys ≡ c
channel_back c k h = omega arith

pub key_back : (c k : ℕ) → k < keys → key_place c k % keys ≡ k
key_back c k h = omega arith

pub place_within : (c k : ℕ) → c < channels → k < keys → key_place c k < places
place_within c k hc hk = omega arith

-- the entry of a channel and key is the one at their place
pub velocity_at_lem : (t : Table) (c k : ℕ) → k < keys → velocity_at t (key_place c k) ≡ entry t c k
velocity_at_lem t c k h = ap₂ (entry t) (channel_back c k h) (key_back c k h)

module _ {t : Table} (h : Shaped t) (p v : ℕ) (hp : p < places) where
  abbrev pub set_place : Table
  set_place = set_entry t (p / keys) (p % keys) v

  pub velocity_set_same : velocity_at set_place p ≡ v
  velocity_set_same = entry_set_same h (p / keys) (p % keys) v (place_channel p hp) (place_key p)

  pub velocity_set_other : (q : ℕ) → (q ≡ p → ⊥) → velocity_at set_place q ≡ velocity_at t q
  velocity_set_other q other =
      ⊎_elim
      (λ (same : q / keys ≡ p / keys).
      let key : q % keys ≡ p % keys → ⊥ = λ e. other (sym (place_back q) ∙ ap₂ key_place same e ∙ place_back p) in
      ap (λ (c : ℕ). entry set_place c (q % keys)) same
      ∙ entry_set_key h (p / keys) (p % keys) v (place_channel p hp) (place_key p) (q % keys) key
      ∙ ap (λ (c : ℕ). entry t c (q % keys)) (sym same))
      (λ (differs : q / keys ≡ p / keys → ⊥). entry_set_channel h (p / keys) (p % keys) v (place_channel p hp) (place_key p) (q / keys) (q % keys) differs)
      (same_or_other (q / keys) (p / keys))
