-- The records of a list that it counts, as a loop over them meets them.
use mathlib.Core.Path.{◌≡◌, sym, ap, ◌∙◌}
use mathlib.Core.List.{List, map}
use Prim.Native.Nat.{ℕ, ◌<◌, ◌≤◌}
use native.Mathlib.Omega.{arith}
use lib.ListN.{length, get_or, get_or-map, length-map, take, length-take}
use lib.Seq.{get_or-take}
use Rattle.track.specs.List.{record_of}
use Rattle.track.specs.declared.list.Record.{Record}
use Rattle.track.proofs.Held.{past}

module _ (rs : List Record) (count : ℕ) {index : ℕ} where
  -- at one of them
  module _ (there : index < length (take count rs)) where
    pub counted : index < count
    counted = omega (arith, length-take count rs)

    pub counted_event : get_or (map record_of rs) index (record_of past) ≡ record_of (get_or (take count rs) index past)
    counted_event = get_or-map record_of rs index past ∙ ap record_of (sym (get_or-take count rs index past counted))

  -- behind the last
  pub all_counted : count ≤ length (map record_of rs) → length (take count rs) ≤ index → count ≤ index
  all_counted fits last = omega (arith, length-take count rs, length-map rs record_of)
