-- A number's bytes, put into a buffer from the last to the first.
use mathlib.Core.Path.{◌≡◌, refl, ap, sym, ◌∙◌}
use mathlib.Core.List.{List, [], ◌∷◌, ◌++◌, append_assoc}
use Prim.Native.Nat.{ℕ, zero, suc, ◌+◌, ◌-◌, ◌/◌, ◌%◌, ◌^◌, ◌≤◌, ◌<◌}
use native.Mathlib.Numerals.{add-one}
use native.Mathlib.Nat.{pow-suc}
use native.Mathlib.Omega.{arith}
use lib.ListN.{length, take, set, length-append, length-take, length-drop, length-set}
use lib.Seq.{take-suc, set_at, split_at, get_or-set_same, take-set-le, drop-set-lt, length-take-le}
use Rattle.smf.specs.Number.{ahead, encode_number}
use Rattle.smf.specs.Write.{over}
use Rattle.smf.proofs.Number.{ahead_none, ahead_more, ahead_length, encode_length}

-- the buffer out that came as s, with the number v to stand at place at: what is there from place p on, and high is what is to come
pub record Putting (s : List ℕ) (v at p high : ℕ) (out : List ℕ) : Type 0 where
  pub k : ℕ
  pub bs : List ℕ
  pub fits : high < 128 ^ k
  pub within : p + length bs ≤ length s
  pub here : p ≡ at + length (ahead k high)
  pub whole : ahead k high ++ bs ≡ encode_number v
  pub list : out ≡ over bs s p

-- one byte more, in front
set_front : (s bs : List ℕ) (p g : ℕ) → suc p + length bs ≤ length s → set (over bs s (suc p)) p g ≡ over (g ∷ bs) s p
set_front s bs p g h =
    let e : p + length (g ∷ bs) ≡ suc p + length bs = omega arith in
    rw (e, take-suc s p 0 (omega arith), append_assoc) (set_at (take p s) _ _ g p (length-take-le p s (omega arith)))

module _ {s : List ℕ} {v at p high : ℕ} {out : List ℕ} (w : Putting s v at p high out) where
  pub put_length : length out ≡ length s
  put_length = rw w.list (simp (length-append, length-take, length-drop) (omega (arith, w.within)))

  pub put_more : (high ≡ 0 → ⊥) → (at < p) × (p ≤ length s)
  put_more z = more w.k w.fits w.here where
    more : (k : ℕ) → high < 128 ^ k → p ≡ at + length (ahead k high) → (at < p) × (p ≤ length s)
    more zero f h = absurd (omega arith)
    more (suc k) f h = (omega (arith, ahead_length k high z), omega (arith, w.within))

  pub put_done : high ≡ 0 → out ≡ over (encode_number v) s at
  put_done z =
      let n = ahead_none w.k high z in
      let b : w.bs ≡ encode_number v = ap (λ (l : List ℕ). l ++ w.bs) (sym n) ∙ w.whole in
      let e : p ≡ at = omega (arith, w.here, ap length n) in
      rw (← b, ← e) w.list

  pub put_step : (high ≡ 0 → ⊥) → Putting s v at (p - 1) (high / 128) (set out (p - 1) (128 + high % 128))
  put_step z = step w.k w.fits w.here w.whole where
    g : ℕ
    g = 128 + high % 128

    step : (k : ℕ) → high < 128 ^ k → p ≡ at + length (ahead k high) → ahead k high ++ w.bs ≡ encode_number v
        → Putting s v at (p - 1) (high / 128) (set out (p - 1) g)
    step zero f h e = absurd (omega arith)
    step (suc k) f h e =
        let l = ahead_length k high z in
        let q : p ≡ suc (p - 1) = omega arith in
        record {
          k = k;
          bs = g ∷ w.bs;
          fits = omega (arith, pow-suc 128 k);
          within = omega (arith, w.within);
          here = omega arith;
          whole = sym (append_assoc (ahead k (high / 128)) (g ∷ []) w.bs) ∙ rw (ahead_more k high z) at e;
          list =
              ap (λ (m : List ℕ). set m (p - 1) g) (w.list ∙ ap (λ (n : ℕ). over w.bs s n) q)
              ∙ set_front s w.bs (p - 1) g (omega (arith, w.within));
        }

-- the last byte is put first: from there on the buffer counts as it then is
abbrev pub last_put : List ℕ → ℕ → ℕ → List ℕ
last_put s v end = set s (end - 1) (v % 128)

module _ (s : List ℕ) (v at end : ℕ) (q : at + length (encode_number v) ≡ end) (h : end ≤ length s) where
  pub put_begun : v < 2 ^ 28 → Putting (last_put s v end) v at (end - 1) (v / 128) (last_put s v end)
  unfolding encode_number
  put_begun f =
      let l = encode_length v in
      let p : end - 1 < length s = omega arith in
      let e : length (last_put s v end) ≡ length s = length-set s _ _ in
      record {
        k = 3;
        bs = (v % 128) ∷ [];
        fits = omega arith;
        within = omega arith;
        here = omega arith;
        whole = refl;
        list =
            split_at (last_put s v end) (end - 1) 0 (omega arith)
            ∙ rw (get_or-set_same s (end - 1) (v % 128) 0 p, add-one (end - 1));
      }

  pub put_ended : {p high : ℕ} {out : List ℕ} → Putting (last_put s v end) v at p high out → high ≡ 0 → out ≡ over (encode_number v) s at
  put_ended w z =
      let l = encode_length v in
      put_done w z
      ∙ rw (take-set-le at s (end - 1) (v % 128) (omega arith), drop-set-lt (at + length (encode_number v)) s (end - 1) (v % 128) (omega arith))
