-- Tables: what a rule's table has at each channel and key, and that two tables with the same entries are the same.
use mathlib.Core.Path.{◌≡◌, refl, sym, ap, ◌∙◌}
use mathlib.Core.Bool.{Bool, true, false}
use mathlib.Core.List.{List, [], map}
use mathlib.Core.Logic.{◌⊎◌, inl, inr, ⊎_elim}
use Prim.Native.Nat.{ℕ, zero, suc, ◌+◌, ◌<◌}
use native.Mathlib.Nat.{add-zero, zero-add, add-suc, suc-add, le_of_suc-le-suc, not-suc-le-zero}
use borrow.Author.Tests.{eqb-true, eqb-false}
use lib.Dec.{eqb}
use lib.ListN.{length, get_or, set, length-map, length-set}
use lib.Seq.{ext_get_or, get_or-set_same, get_or-set_other}
use Rattle.player.specs.Table.{channels, keys, Table, entry, numbers_from, table_of}

-- Numbers one behind the other

pub length_numbers : (i n : ℕ) → length (numbers_from i n) ≡ n
unfolding numbers_from
length_numbers i zero = refl
length_numbers i (suc n) = ap suc (length_numbers (suc i) n)

-- what a rule gives at each of them
pub mapped : {B : Type 0} (f : ℕ → B) (i n k : ℕ) (d : B) → k < n → get_or (map f (numbers_from i n)) k d ≡ f (i + k)
unfolding numbers_from
mapped f i zero k d h = absurd (not-suc-le-zero h)
mapped f i (suc n) zero d h = ap f (sym (add-zero i))
mapped f i (suc n) (suc k) d h = mapped f (suc i) n k d (le_of_suc-le-suc h) ∙ ap f (suc-add i k ∙ sym (add-suc i k))

pub mapped_at : {B : Type 0} (f : ℕ → B) (n k : ℕ) (d : B) → k < n → get_or (map f (numbers_from 0 n)) k d ≡ f k
mapped_at f n k d h = mapped f 0 n k d h ∙ ap f (zero-add k)

pub length_mapped : {B : Type 0} (f : ℕ → B) (n : ℕ) → length (map f (numbers_from 0 n)) ≡ n
length_mapped f n = length-map (numbers_from 0 n) f ∙ length_numbers 0 n

-- Tables

-- so many channels of so many keys
pub record Shaped (t : Table) : Type 0 where
  pub rows : length t ≡ channels
  pub row : (c : ℕ) → c < channels → length (get_or t c []) ≡ keys

pub shaped_of : (f : ℕ → ℕ → ℕ) → Shaped (table_of f)
unfolding table_of
shaped_of f =
    let own : ℕ → List ℕ = λ (c : ℕ). map (f c) (numbers_from 0 keys) in
    record {
      rows = length_mapped own channels;
      row = λ c h. ap length (mapped_at own channels c [] h) ∙ length_mapped (f c) keys;
    }

pub entry_of : (f : ℕ → ℕ → ℕ) (c k : ℕ) → c < channels → k < keys → entry (table_of f) c k ≡ f c k
unfolding table_of
entry_of f c k hc hk =
    ap (λ (row : List ℕ). get_or row k 0) (mapped_at (λ (c' : ℕ). map (f c') (numbers_from 0 keys)) channels c [] hc)
    ∙ mapped_at (f c) keys k 0 hk

pub table_ext : {t u : Table} → Shaped t → Shaped u → ((c k : ℕ) → c < channels → k < keys → entry t c k ≡ entry u c k) → t ≡ u
table_ext {t} {u} ht hu same =
    ext_get_or [] t u (ht.rows ∙ sym hu.rows)
    (λ c h.
    let hc : c < channels = rw ht.rows at h in
    ext_get_or 0 (get_or t c []) (get_or u c []) (ht.row c hc ∙ sym (hu.row c hc))
    (λ k hk. same c k hc (rw (ht.row c hc) at hk)))

-- two rules that agree give one table
pub table_same : (f g : ℕ → ℕ → ℕ) → ((c k : ℕ) → c < channels → k < keys → f c k ≡ g c k) → table_of f ≡ table_of g
table_same f g same = table_ext (shaped_of f) (shaped_of g) (λ c k hc hk. entry_of f c k hc hk ∙ same c k hc hk ∙ sym (entry_of g c k hc hk))

-- a table is that of its entries
pub table_of_entries : {t : Table} → Shaped t → table_of (entry t) ≡ t
table_of_entries {t} h = table_ext (shaped_of (entry t)) h (λ c k hc hk. entry_of (entry t) c k hc hk)

-- One entry changed

same_by : (m n : ℕ) (b : Bool) → eqb m n ≡ b → (m ≡ n) ⊎ (m ≡ n → ⊥)
same_by m n true e = inl (eqb-true m n e)
same_by m n false e = inr (eqb-false m n e)

pub same_or_other : (m n : ℕ) → (m ≡ n) ⊎ (m ≡ n → ⊥)
same_or_other m n = same_by m n (eqb m n) refl

abbrev pub set_entry : Table → ℕ → ℕ → ℕ → Table
set_entry t c k v = set t c (set (get_or t c []) k v)

module _ {t : Table} (h : Shaped t) (c k v : ℕ) (hc : c < channels) (hk : k < keys) where
  changed_row : get_or (set_entry t c k v) c [] ≡ set (get_or t c []) k v
  changed_row = get_or-set_same t c (set (get_or t c []) k v) [] (rw h.rows hc)

  other_row : (c' : ℕ) → (c' ≡ c → ⊥) → get_or (set_entry t c k v) c' [] ≡ get_or t c' []
  other_row c' other = get_or-set_other t c c' (set (get_or t c []) k v) [] other

  pub shaped_set : Shaped (set_entry t c k v)
  shaped_set =
      record {
        rows = length-set t c (set (get_or t c []) k v) ∙ h.rows;
        row = λ c' hc'. ⊎_elim
            (λ (e : c' ≡ c). rw e (ap length changed_row ∙ length-set (get_or t c []) k v ∙ h.row c hc))
            (λ (ne : c' ≡ c → ⊥). ap length (other_row c' ne) ∙ h.row c' hc')
            (same_or_other c' c);
      }

  pub entry_set_same : entry (set_entry t c k v) c k ≡ v
  entry_set_same = ap (λ (row : List ℕ). get_or row k 0) changed_row ∙ get_or-set_same (get_or t c []) k v 0 (rw (h.row c hc) hk)

  -- another key of the channel, or another channel
  pub entry_set_key : (k' : ℕ) → (k' ≡ k → ⊥) → entry (set_entry t c k v) c k' ≡ entry t c k'
  entry_set_key k' other = ap (λ (row : List ℕ). get_or row k' 0) changed_row ∙ get_or-set_other (get_or t c []) k k' v 0 other

  pub entry_set_channel : (c' k' : ℕ) → (c' ≡ c → ⊥) → entry (set_entry t c k v) c' k' ≡ entry t c' k'
  entry_set_channel c' k' other = ap (λ (row : List ℕ). get_or row k' 0) (other_row c' other)
