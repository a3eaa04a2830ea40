-- Where a part of the bytes stands: right before the rest of them.
use mathlib.Core.Path.{◌≡◌, refl, sym, ap, ◌∙◌}
use mathlib.Core.List.{List, [], ◌++◌, append_assoc}
use Prim.Native.Nat.{ℕ, ◌+◌, ◌-◌}
use native.Mathlib.Omega.{arith}
use lib.ListN.{length, take, drop, length-append, take-append-drop}
use lib.Seq.{take-append_seam, drop_at, drop-drop}
use Rattle.smf.specs.Answer.{Rules}
use Rattle.smf.specs.Payload.{Payload}
use Rattle.smf.proofs.Payload.{Loaded}

-- s ends in the load and, behind it, the rest
pub record Ends (s load rest : List ℕ) : Type 0 where
  pub before : List ℕ
  pub whole : s ≡ before ++ (load ++ rest)

-- more bytes in front change nothing
pub ends_after : (front t : List ℕ) {s load rest : List ℕ} → s ≡ front ++ t → Ends t load rest → Ends s load rest
ends_after front t {s} {load} {rest} e h =
    record {
      before = front ++ h.before;
      whole = e ∙ ap (λ (l : List ℕ). front ++ l) h.whole ∙ sym (append_assoc front h.before (load ++ rest));
    }

-- and the load may be left out
pub ends_bare : {s load rest : List ℕ} → Ends s load rest → Ends s [] rest
ends_bare {s} {load} {rest} h = record { before = h.before ++ load; whole = h.whole ∙ sym (append_assoc h.before load rest) }

module _ (s load rest : List ℕ) (h : Ends s load rest) where
  pub ends_length : length s ≡ length h.before + (length load + length rest)
  ends_length = ap length h.whole ∙ simp length-append

  pub ends_tail : rest ≡ drop (length s - length rest) s
  ends_tail =
      let n = ends_length in
      sym
      (ap (drop (length s - length rest)) (h.whole ∙ sym (append_assoc h.before load rest))
      ∙ drop_at (h.before ++ load) rest (length s - length rest) (omega (arith, length-append h.before load)))

  pub ends_load : load ≡ take (length load) (drop (length s - length rest - length load) s)
  ends_load =
      let n = ends_length in
      sym
      (ap (λ (l : List ℕ). take (length load) (drop (length s - length rest - length load) l)) h.whole
      ∙ ap (take (length load)) (drop_at h.before (load ++ rest) (length s - length rest - length load) (omega arith))
      ∙ take-append_seam load rest)

-- what a payload's reading says is that the bytes end in it
pub loaded_ends : (rules : Rules) (s : List ℕ) (p : Payload) → Loaded rules s p → Ends s p.bytes p.rest
loaded_ends rules s p l =
    let n = length s - length p.rest - length p.bytes in
    let m : n + length p.bytes ≡ length s - length p.rest = omega (arith, l.within) in
    let back : drop (length p.bytes) (drop n s) ≡ p.rest = drop-drop (length p.bytes) n s ∙ ap (λ (x : ℕ). drop x s) m ∙ sym l.tail in
    record {
      before = take n s;
      whole = sym (take-append-drop n s) ∙ ap (λ (x : List ℕ). take n s ++ x) (sym (take-append-drop (length p.bytes) (drop n s)) ∙ rw (back, ← l.place) refl);
    }
