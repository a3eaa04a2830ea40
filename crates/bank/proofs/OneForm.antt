-- What is read as a bank is the bank of its tracks: one form alone, so that no other block reads as the same tracks.
use mathlib.Core.Path.{◌≡◌, refl, sym, ap, ◌∙◌}
use mathlib.Core.Bool.{Bool, true, ◌&&◌, ◌||◌}
use mathlib.Core.List.{List, [], ◌∷◌, ◌++◌, flatten}
use Prim.Native.Nat.{ℕ, zero, suc, ◌+◌, ◌*◌, ◌≤◌, ◌<◌}
use native.Mathlib.Omega.{arith}
use lib.Dec.{eqb, leb, ltb}
use lib.ListN.{length, get_or, drop, length-drop, length-map, take-append-drop}
use lib.Seq.{drop-drop, drop-length}
use borrow.Author.Tests.{leb-true, le-leb, le-ltb, eqb-true}
use Rattle.smf.specs.Answer.{Answer, unless, gives}
use Rattle.smf.specs.Place.{Span, inside, bytes_of}
use Rattle.smf.specs.Event.{no_span}
use Rattle.smf.proofs.Answer.{both, held}
use Rattle.smf.proofs.Write.{part_length}
use Rattle.bank.specs.Bank.{most_bytes, four_bytes, behind_entries, entries, bank_length, encode_bank}
use Rattle.bank.specs.Read.{wide_from, count_of, total_of, entry_at, ranges, entries_of, no_gap, agrees, read_bank}
use Rattle.bank.specs.Write.{all_inside, tracks_of}
use Rattle.bank.proofs.FourBytes.{drop_four}
use Rattle.bank.proofs.Filling.{ranges_length}

-- what is known of a block that is read as a bank
record Accepted (most : ℕ) (block : List ℕ) (spans : List Span) : Type 0 where
  few : count_of block ≤ most
  long : behind_entries (count_of block) ≤ length block
  small : length block ≤ most_bytes
  total : total_of block ≡ length block
  stand : no_gap (behind_entries (count_of block)) (entries_of block) (length block) ≡ true
  same : entries_of block ≡ spans

accepted : (most : ℕ) (block : List ℕ) {spans : List Span} → read_bank most block ≡ gives spans → Accepted most block spans
unfolding read_bank agrees
accepted most block {spans} e =
    let last : Answer (List Span) = unless (agrees block) 26 (gives (entries_of block)) in
    let next : Answer (List Span) = unless (leb (behind_entries (count_of block)) (length block)) 24 last in
    let a = held (ltb (length block) 4 || leb (count_of block) most) 25 next e in
    let b = held (leb (behind_entries (count_of block)) (length block)) 24 last a.1 in
    let c = held (agrees block) 26 (gives (entries_of block)) b.1 in
    let rest : Bool = no_gap (behind_entries (count_of block)) (entries_of block) (length block) in
    let d = both (leb (length block) most_bytes) (eqb (total_of block) (length block) && rest) c.0 in
    let f = both (eqb (total_of block) (length block)) rest d.1 in
    let long = leb-true (behind_entries (count_of block)) (length block) b.0 in
    let counted : leb (count_of block) most ≡ true = rw (le-ltb (length block) 4 (omega arith)) at a.0 in
    record {
      few = leb-true (count_of block) most counted;
      long = long;
      small = leb-true (length block) most_bytes d.0;
      total = eqb-true (total_of block) (length block) f.0;
      stand = f.1;
      same = cc;
    }

-- ranges with no gap end where the last does, at or behind where the first starts
pub stand_within : (place : ℕ) (spans : List Span) (end : ℕ) → no_gap place spans end ≡ true → place ≤ end
unfolding no_gap
stand_within place [] end e = omega (arith, eqb-true place end e)
stand_within place (span ∷ spans) end e =
    omega (arith, stand_within (place + span.length) spans end (both (eqb span.start place) _ e).1)

-- the bytes from the first range on are those of all of them
stand_bytes : (block : List ℕ) (place : ℕ) (spans : List Span) → no_gap place spans (length block) ≡ true → drop place block ≡ flatten (tracks_of block spans)
unfolding no_gap flatten bytes_of
stand_bytes block place [] e = rw (eqb-true place (length block) e) (drop-length block)
stand_bytes block place (span ∷ spans) e =
    let t = both (eqb span.start place) (no_gap (place + span.length) spans (length block)) e in
    let first = eqb-true span.start place t.0 in
    let more : drop (place + span.length) block ≡ flatten (tracks_of block spans) = stand_bytes block (place + span.length) spans t.1 in
    rw (first, ← more, ← drop-drop span.length place block) (sym (take-append-drop span.length (drop place block)))

-- and each is inside the block
pub stand_inside : (block : List ℕ) (place : ℕ) (spans : List Span) → no_gap place spans (length block) ≡ true → all_inside block spans ≡ true
unfolding no_gap inside all_inside
stand_inside block place [] e = refl
stand_inside block place (span ∷ spans) e =
    let t = both (eqb span.start place) (no_gap (place + span.length) spans (length block)) e in
    let end = stand_within (place + span.length) spans (length block) t.1 in
    rw (le-leb (span.start + span.length) (length block) (omega (arith, eqb-true span.start place t.0))) (stand_inside block (place + span.length) spans t.1)

module _ (block : List ℕ) (bytes : (i : ℕ) → get_or block i 0 < 256) where
  -- an entry's bytes, from its own place on
  entry_is : (i : ℕ) → behind_entries (i + 1) ≤ length block
      → drop (behind_entries i) block ≡ four_bytes (entry_at block i).start ++ (four_bytes (entry_at block i).length ++ drop (behind_entries (i + 1)) block)
  unfolding entry_at
  entry_is i h =
      let next : behind_entries i + 4 + 4 ≡ behind_entries (i + 1) = omega arith in
      drop_four block bytes (behind_entries i) (omega arith)
      ∙ ap (λ (l : List ℕ). four_bytes (wide_from block (behind_entries i)) ++ l) (drop_four block bytes (behind_entries i + 4) (omega arith))
      ∙ rw next

  -- so many entries from an index on are those of the tracks that they say
  entries_are : (n i place end : ℕ) → end ≡ behind_entries i + 8 * n → end ≤ length block → no_gap place (ranges (entry_at block) i n) (length block) ≡ true
      → drop (behind_entries i) block ≡ entries place (tracks_of block (ranges (entry_at block) i n)) ++ drop end block
  unfolding ranges no_gap entries
  entries_are zero i place end h within e = let same : end ≡ behind_entries i = omega arith in rw same
  entries_are (suc n) i place end h within e =
      let span : Span = entry_at block i in
      let t = both (eqb span.start place) (no_gap (place + span.length) (ranges (entry_at block) (i + 1) n) (length block)) e in
      let first = eqb-true span.start place t.0 in
      let inner = stand_within (place + span.length) (ranges (entry_at block) (i + 1) n) (length block) t.1 in
      let long : length (bytes_of block span) ≡ span.length = part_length block span (omega arith) in
      let more = entries_are n (i + 1) (place + span.length) end (omega arith) within t.1 in
      let entry = entry_is i (omega arith) in
      rw (long, entry, more, first)

  module _ (most : ℕ) {spans : List Span} (e : read_bank most block ≡ gives spans) where
    is_form : block ≡ encode_bank (tracks_of block (entries_of block))
    unfolding encode_bank
    is_form =
        let a = accepted most block e in
        let long = a.long in
        let count : ℕ = count_of block in
        let tracks : List (List ℕ) = tracks_of block (entries_of block) in
        let counted : length tracks ≡ count_of block = length-map (entries_of block) (bytes_of block) ∙ ranges_length (entry_at block) 0 count in
        let behind = stand_bytes block (behind_entries count) (entries_of block) a.stand in
        let middle = entries_are count 0 (behind_entries count) (behind_entries count) (omega arith) long a.stand in
        let size : bank_length tracks ≡ total_of block = omega (arith, length-drop (behind_entries count) block, ap length behind, a.total) in
        let first = drop_four block bytes 0 (omega arith) in
        let second = drop_four block bytes 4 (omega arith) in
        rw (size, counted, ← behind)
        (first
        ∙ ap (λ (l : List ℕ). four_bytes count ++ l) second
        ∙ ap (λ (l : List ℕ). four_bytes count ++ (four_bytes (total_of block) ++ l)) middle)

    -- a block of bytes that is read as a bank is the bank of its tracks
    pub one_form : block ≡ encode_bank (tracks_of block spans)
    one_form = rw (← (accepted most block e).same) is_form

-- whatever the elements are, what is read as a bank has no more tracks and bytes than the most, and each of its tracks is inside it
module _ (most : ℕ) (block : List ℕ) {spans : List Span} (e : read_bank most block ≡ gives spans) where
  pub read_few : length spans ≤ most
  read_few =
      let a = accepted most block e in
      rw (← a.same, ranges_length (entry_at block) 0 (count_of block)) a.few

  pub read_small : length block ≤ most_bytes
  read_small = (accepted most block e).small

  pub read_inside : all_inside block spans ≡ true
  read_inside =
      let a = accepted most block e in
      rw (← a.same) (stand_inside block (behind_entries (count_of block)) (entries_of block) a.stand)

-- the range of an index, where all are inside
pub inside_at : (bytes : List ℕ) (spans : List Span) (i : ℕ) → i < length spans → all_inside bytes spans ≡ true → inside bytes (get_or spans i no_span) ≡ true
unfolding all_inside
inside_at bytes [] i h e = absurd (omega arith)
inside_at bytes (span ∷ spans) zero h e = (both (inside bytes span) (all_inside bytes spans) e).0
inside_at bytes (span ∷ spans) (suc i) h e = inside_at bytes spans i (omega arith) (both (inside bytes span) (all_inside bytes spans) e).1

-- no other block reads as the same tracks, however many either may have
pub one_alone :
    (a b : List ℕ) (n m : ℕ) {spans others : List Span} →
    ((i : ℕ) → get_or a i 0 < 256) →
    ((i : ℕ) → get_or b i 0 < 256) →
    read_bank n a ≡ gives spans →
    read_bank m b ≡ gives others →
    tracks_of a spans ≡ tracks_of b others →
    a ≡ b
one_alone a b n m p q e f same = one_form a p n e ∙ ap encode_bank same ∙ sym (one_form b q m f)
