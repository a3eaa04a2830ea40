-- The bytes of a range, as the code cuts them out of those that there are.
use mathlib.Core.Path.{◌≡◌, refl, sym, ap, ◌∙◌}
use mathlib.Core.List.{List, [], ◌∷◌}
use Prim.Native.Nat.{ℕ, ◌-◌, min}
use native.Mathlib.Omega.{arith}
use lib.ListN.{length, take, drop, length-take, length-drop}
use lib.Seq.{take_all, take-length}
use Rattle.smf.specs.Place.{bytes_of}
use Rattle.smf.proofs.Answer.{by_lt}
use Rattle.same.specs.Same.{span}

nothing : (l : List ℕ) → length l ≡ 0 → l ≡ []
nothing [] e = refl
nothing (x ∷ l) e = absurd (omega arith)

-- no more of a list than there is
no_more : (l : List ℕ) (size k : ℕ) → k ≡ min size (length l) → take k l ≡ take size l
no_more l size k e =
    by_lt (length l) size
    (λ h. let all : k ≡ length l = omega arith in ap (λ (n : ℕ). take n l) all ∙ take-length l ∙ sym (take_all size l (omega arith)))
    (λ h. let all : k ≡ size = omega arith in ap (λ (n : ℕ). take n l) all)

pub part_of : (s : List ℕ) (start size m k : ℕ) → m ≡ min start (length s) → k ≡ min size (length (take (length s - m) (drop m s)))
    → take k (take (length s - m) (drop m s)) ≡ bytes_of s (span start size)
unfolding bytes_of
part_of s start size m k from e =
    let d = drop m s in
    let whole : take (length s - m) d ≡ d = take_all (length s - m) d (omega (arith, length-drop m s)) in
    let few : k ≡ min size (length d) = rw whole at e in
    let same : take size d ≡ take size (drop start s) =
    by_lt start (length s)
    (λ h. let at : m ≡ start = omega arith in ap (λ (n : ℕ). take size (drop n s)) at)
    (λ h. nothing (take size d) (omega (arith, length-take size d, length-drop m s)) ∙ sym (nothing (take size (drop start s)) (omega (arith, length-take size (drop start s), length-drop start s))))
    in
    rw whole (no_more d size k few ∙ same)
