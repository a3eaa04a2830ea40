-- A number and its four bytes: the number of a number's bytes is that number, and the bytes of the number at a place are those that stand there.
use mathlib.Core.Path.{◌≡◌, refl, sym, ap}
use mathlib.Core.List.{List, [], ◌∷◌, ◌++◌}
use Prim.Native.Nat.{ℕ, ◌+◌, ◌/◌, ◌%◌, ◌≤◌, ◌<◌}
use native.Mathlib.Numerals.{add-one}
use native.Mathlib.Omega.{arith}
use lib.ListN.{length, get_or, drop}
use lib.Seq.{drop-cons, get_or-append_seam, get_or-append-add}
use Rattle.bank.specs.Bank.{four_bytes}
use Rattle.bank.specs.Read.{wide, wide_from}

-- the number of a number's four bytes
pub wide_four : (x : ℕ) → wide (x / 65536 / 256) (x / 65536 % 256) (x % 65536 / 256) (x % 65536 % 256) ≡ x
wide_four x = omega arith

-- the four bytes of the number that four bytes are
pub four_wide : (a b c d : ℕ) → b < 256 → c < 256 → d < 256 → four_bytes (wide a b c d) ≡ a ∷ b ∷ c ∷ d ∷ []
four_wide a b c d hb hc hd =
    let first : wide a b c d / 65536 / 256 ≡ a = omega arith in
    let second : wide a b c d / 65536 % 256 ≡ b = omega arith in
    let third : wide a b c d % 65536 / 256 ≡ c = omega arith in
    let fourth : wide a b c d % 65536 % 256 ≡ d = omega arith in
    rw (first, second, third, fourth)

-- the number at a place, where its bytes stand behind so many
pub wide_at : (front more : List ℕ) (x at : ℕ) → length front ≡ at → wide_from (front ++ (four_bytes x ++ more)) at ≡ x
unfolding wide_from
wide_at front more x at e =
    let block : List ℕ = four_bytes x ++ more in
    rw (← e, get_or-append_seam front (x / 65536 / 256) _ 0, get_or-append-add front block 1 0, get_or-append-add front block 2 0, get_or-append-add front block 3 0)
    (wide_four x)

-- from a place on: the byte there, and behind it the others
one_more : (block : List ℕ) (at next : ℕ) → at < length block → next ≡ at + 1 → drop at block ≡ get_or block at 0 ∷ drop next block
one_more block at next h e = rw (e, add-one, drop-cons block at 0 h)

-- from a place on: the bytes of the number there, where they are bytes, and behind it the others
pub drop_four : (block : List ℕ) → ((i : ℕ) → get_or block i 0 < 256) → (at : ℕ) → at + 4 ≤ length block → drop at block ≡ four_bytes (wide_from block at) ++ drop (at + 4) block
unfolding wide_from
drop_four block bytes at h =
    let a = one_more block at (at + 1) (omega arith) refl in
    let b = one_more block (at + 1) (at + 2) (omega arith) (omega arith) in
    let c = one_more block (at + 2) (at + 3) (omega arith) (omega arith) in
    let d = one_more block (at + 3) (at + 4) (omega arith) (omega arith) in
    let four = four_wide (get_or block at 0) (get_or block (at + 1) 0) (get_or block (at + 2) 0) (get_or block (at + 3) 0) (bytes (at + 1)) (bytes (at + 2)) (bytes (at + 3)) in
    rw (a, b, c, d) (ap (λ (l : List ℕ). l ++ drop (at + 4) block) (sym four))
