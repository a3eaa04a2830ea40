-- Events that silence: the keys that they name are those of their places, so that the table after them is 0 there and elsewhere as it was.
use mathlib.Core.Path.{◌≡◌, sym, ap, ◌∙◌}
use mathlib.Core.Bool.{true, true≢false, ◌&&◌, or-true}
use mathlib.Core.List.Memᴰ
use mathlib.Core.List.{List, [], ◌∷◌, map, Memᴰ}
use mathlib.Core.Logic.{⊎_elim}
use Prim.Native.Nat.{ℕ, ◌/◌, ◌%◌}
use borrow.Author.Tests.{eqb-true, eq-eqb}
use lib.Dec.{eqb}
use Rattle.smf.specs.Place.{Span}
use Rattle.smf.specs.Kind.{midi, note_off}
use Rattle.smf.specs.Event.{Event}
use Rattle.smf.proofs.Answer.{by_test, both}
use Rattle.player.specs.Table.{keys, Table}
use Rattle.player.specs.Notes.{table_after}
use Rattle.player.specs.Sounding.{note_off_at, silence_from}
use Rattle.player.proofs.Silencing.{silenced, at, entry_silenced}
use Rattle.claims.specs.Sounding.{off, Silenced}

mem_at : (c k : ℕ) (ps : List ℕ) → Memᴰ (off c k) (map note_off_at ps) → at c k ps ≡ true
unfolding at
mem_at c k [] m = absurd (Memᴰ.not-nil m)
mem_at c k (p ∷ ps) m =
    ⊎_elim
    (λ (e : off c k ≡ note_off_at p).
    let kinds : midi c (note_off k 0) ≡ midi (p / keys) (note_off (p % keys) 0) = ap (λ (x : Event Span). x.kind) e in
    let channel : p / keys ≡ c = cc in
    let key : p % keys ≡ k = cc in
    rw (eq-eqb (p / keys) c channel, eq-eqb (p % keys) k key))
    (λ (later : Memᴰ (off c k) (map note_off_at ps)). rw (mem_at c k ps later) (or-true (eqb (p / keys) c && eqb (p % keys) k)))
    (Memᴰ.cases_cons m)

at_mem : (c k : ℕ) (ps : List ℕ) → at c k ps ≡ true → Memᴰ (off c k) (map note_off_at ps)
unfolding at
at_mem c k [] e = absurd (true≢false (sym e))
at_mem c k (p ∷ ps) e =
    by_test (eqb (p / keys) c && eqb (p % keys) k)
    (λ t.
    let b = both (eqb (p / keys) c) (eqb (p % keys) k) t in
    Memᴰ.head (rw (eqb-true (p / keys) c b.0, eqb-true (p % keys) k b.1)))
    (λ t. Memᴰ.tail (at_mem c k ps (rw t at e)))

module _ (most : ℕ) (t : Table) (place : ℕ) where
  pub silenced_by : Silenced t (silence_from most t place) (table_after t (silence_from most t place))
  unfolding silence_from
  silenced_by =
      let ps = silenced most t place in
      record {
        named = λ c k hc hk m. entry_silenced most t place c k hc hk ∙ rw (mem_at c k ps m);
        others = λ c k hc hk not.
            entry_silenced most t place c k hc hk
            ∙ by_test (at c k ps) (λ e. absurd (not (at_mem c k ps e))) (λ e. rw e);
      }
