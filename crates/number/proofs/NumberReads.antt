-- The walk over a number's bytes, as the reader at a place takes it.
use mathlib.Core.Path.{◌≡◌, refl, sym, ◌∙◌}
use mathlib.Core.Bool.{true, false}
use mathlib.Core.List.{List, [], ◌∷◌}
use Prim.Native.Nat.{ℕ, zero, suc, ◌+◌, ◌-◌, ◌*◌, ◌%◌, ◌^◌, ◌≤◌, ◌<◌}
use native.Mathlib.Numerals.{add-one, sub-one}
use native.Mathlib.Nat.{pow-succ', pow-le-pow_right, mul-le-mul_left, mul-le-mul_right, mul_assoc}
use native.Mathlib.Omega.{arith}
use lib.ListN.{length, get_or, drop, drop_of_length-le}
use lib.Seq.{drop-cons}
use borrow.Author.Tests.{lt-ltb, le-ltb}
use Rattle.smf.specs.Answer.{gives, refuses, Rules}
use Rattle.smf.specs.Number.{joined, encode_number, number_from, read_number}
use Rattle.smf.specs.Place.{NumberAt, number_at}
use Rattle.smf.proofs.Place.{Sited, site_begun, site_next, site_bounds, number_placed_lem, number_refused}

-- the bits leave room for k more groups of seven under 28 bits
abbrev Room : ℕ → ℕ → Type 0
Room bits k = (bits + 1) * 128 ^ k ≤ 128 ^ 4

room_step : (bits x k : ℕ) → 0 < k → x < 128 → Room bits k → Room (bits * 128 + x) (k - 1)
room_step bits x zero z h r = absurd (omega arith)
room_step bits x (suc k) z h r =
    let more : bits * 128 + x + 1 ≤ (bits + 1) * 128 = omega arith in
    let same : (bits + 1) * 128 ^ suc k ≡ (bits + 1) * 128 * 128 ^ k = rw (pow-succ', mul_assoc) in
    rw sub-one (omega (arith, mul-le-mul_right (128 ^ k) more))

-- a reader that began at place at of s: the bits read, the place it is at, and how many more bytes may be read
pub record Walking (rules : Rules) (s : List ℕ) (at bits place k : ℕ) : Type 0 where
  pub some : 0 < k
  pub room : Room bits k
  pub site : Sited s at place
  pub same : number_from rules k bits (drop place s) ≡ read_number rules (drop at s)

pub begun : (rules : Rules) (s : List ℕ) (at : ℕ) → Walking rules s at 0 at 4
unfolding read_number
begun rules s at = record { some = omega arith; room = omega arith; site = site_begun s at; same = refl }

-- a number of these bits that was read up to a place
abbrev found : ℕ → ℕ → ℕ → NumberAt
found at bits place = record { value = bits; next = place; padding = place - at - length (encode_number bits) }

module _ {rules : Rules} {s : List ℕ} {at bits place k : ℕ} (w : Walking rules s at bits place k) where
  -- the place is not before the first
  pub onward : at ≤ place
  onward = site_bounds s at place w.site

  -- so the bits have room for another byte's
  pub room_more : bits < 2 ^ 21
  room_more = omega (arith, mul-le-mul_left (bits + 1) (pow-le-pow_right {n = 128} (omega arith) {i = 1} {j = k} (omega (arith, w.some))), w.room)

  -- the walk where the bytes end
  ended : length s ≤ place → read_number rules (drop at s) ≡ number_from rules (suc (k - 1)) bits []
  ended h = let n : k ≡ suc (k - 1) = omega (arith, w.some) in sym w.same ∙ rw (← n, drop_of_length-le s h)

  pub cut_strict : length s ≤ place → rules.strict ≡ true → refuses 2 ≡ number_at rules s at
  unfolding number_from
  cut_strict h t = sym (number_refused rules s at (ended h ∙ rw t))

  pub cut_lenient : length s ≤ place → rules.strict ≡ false → gives (found at bits place) ≡ number_at rules s at
  unfolding number_from
  cut_lenient h t = sym (number_placed_lem rules s at (ended h ∙ rw (t, drop_of_length-le s {i = place} h)) w.site)

  -- the walk at a byte
  at_byte : place < length s → read_number rules (drop at s) ≡ number_from rules (suc (k - 1)) bits (get_or s place 0 ∷ drop (place + 1) s)
  at_byte h = let n : k ≡ suc (k - 1) = omega (arith, w.some) in sym w.same ∙ rw (← n, drop-cons s place 0 h, add-one place)

  pub last : place < length s → get_or s place 0 < 128 → gives (found at (joined bits (get_or s place 0)) (place + 1)) ≡ number_at rules s at
  unfolding number_from
  last h b = sym (number_placed_lem rules s at (at_byte h ∙ rw (lt-ltb _ _ b)) (site_next s at place h w.site))

  -- the walk past a byte that continues
  past : place < length s → 128 ≤ get_or s place 0 → number_from rules (k - 1) (joined bits (get_or s place 0)) (drop (place + 1) s) ≡ read_number rules (drop at s)
  unfolding number_from
  past h b = sym (at_byte h ∙ rw (le-ltb _ _ b))

  pub fourth_strict : place < length s → 128 ≤ get_or s place 0 → k - 1 ≡ 0 → rules.strict ≡ true → refuses 3 ≡ number_at rules s at
  unfolding number_from
  fourth_strict h b z t = sym (number_refused rules s at (sym (past h b) ∙ rw (z, t)))

  pub fourth_lenient : place < length s → 128 ≤ get_or s place 0 → k - 1 ≡ 0 → rules.strict ≡ false
      → gives (found at (joined bits (get_or s place 0)) (place + 1)) ≡ number_at rules s at
  unfolding number_from
  fourth_lenient h b z t = sym (number_placed_lem rules s at (sym (past h b) ∙ rw (z, t)) (site_next s at place h w.site))

  pub more : place < length s → 128 ≤ get_or s place 0 → (k - 1 ≡ 0 → ⊥) → Walking rules s at (joined bits (get_or s place 0)) (place + 1) (k - 1)
  more h b z = record { some = omega arith; room = room_step bits (get_or s place 0 % 128) k w.some (omega arith) w.room; site = site_next s at place h w.site; same = past h b }

  -- and still 28 bits
  pub room_now : (x : ℕ) → joined bits x < 2 ^ 28
  room_now x = omega (arith, room_more)
