-- The bank of tracks, read: how long it is, and that it gives the ranges of those tracks, one behind the other, and so those tracks.
use mathlib.Core.Path.{◌≡◌, refl, sym, ap, ◌∙◌}
use mathlib.Core.Bool.{true}
use mathlib.Core.List.{List, [], ◌∷◌, ◌++◌, append_assoc, flatten}
use Prim.Native.Nat.{ℕ, ◌+◌, ◌*◌, ◌≤◌}
use native.Mathlib.Omega.{arith}
use lib.ListN.{length, take, drop, length-append}
use lib.Seq.{take-append_seam, drop_at}
use borrow.Author.Tests.{eq-eqb}
use Rattle.smf.specs.Answer.{gives}
use Rattle.smf.specs.Place.{Span, bytes_of}
use Rattle.bank.specs.Bank.{most_bytes, four_bytes, behind_entries, entries, bank_length, encode_bank}
use Rattle.bank.specs.Read.{wide_from, count_of, total_of, entry_at, ranges, no_gap, read_bank}
use Rattle.bank.specs.Write.{tracks_of}
use Rattle.bank.proofs.FourBytes.{wide_four, wide_at}
use Rattle.bank.proofs.Tested.{walked}

-- eight bytes for each track
pub entries_length : (offset : ℕ) (tracks : List (List ℕ)) → length (entries offset tracks) ≡ 8 * length tracks
unfolding entries
entries_length offset [] = refl
entries_length offset (track ∷ tracks) = omega (arith, entries_length (offset + length track) tracks)

-- as many bytes as the total says
pub bank_length_lem : (tracks : List (List ℕ)) → length (encode_bank tracks) ≡ bank_length tracks
unfolding encode_bank
bank_length_lem tracks =
    omega (arith, length-append (entries (behind_entries (length tracks)) tracks) (flatten tracks), entries_length (behind_entries (length tracks)) tracks)

-- the ranges of tracks that stand one behind the other from a place on
unfoldable pub spans_from : ℕ → List (List ℕ) → List Span
spans_from place [] = []
spans_from place (track ∷ tracks) = record { start = place; length = length track } ∷ spans_from (place + length track) tracks

-- the entries of a bank say those ranges
entries_say :
    (tracks : List (List ℕ)) (block front more : List ℕ) (place i : ℕ) →
    block ≡ front ++ (entries place tracks ++ more) →
    length front ≡ behind_entries i →
    ranges (entry_at block) i (length tracks) ≡ spans_from place tracks
unfolding entries ranges spans_from entry_at
entries_say [] block front more place i e h = refl
entries_say (track ∷ tracks) block front more place i e h =
    let rest : List ℕ = entries (place + length track) tracks ++ more in
    let start : wide_from block (behind_entries i) ≡ place =
    ap (λ (b : List ℕ). wide_from b (behind_entries i)) e ∙ wide_at front (four_bytes (length track) ++ rest) place (behind_entries i) h in
    let split : block ≡ (front ++ four_bytes place) ++ (four_bytes (length track) ++ rest) = e ∙ simp append_assoc in
    let size : wide_from block (behind_entries i + 4) ≡ length track =
    ap (λ (b : List ℕ). wide_from b (behind_entries i + 4)) split ∙ wide_at (front ++ four_bytes place) rest (length track) (behind_entries i + 4) (rw length-append (omega arith)) in
    let next : block ≡ (front ++ (four_bytes place ++ four_bytes (length track))) ++ rest = e ∙ simp append_assoc in
    rw (start, size)
    (ap (λ (more : List Span). record { start = place; length = length track } ∷ more)
    (entries_say tracks block (front ++ (four_bytes place ++ four_bytes (length track))) more (place + length track) (i + 1) next (rw length-append (omega arith))))

-- and they stand with no gap
spans_stand :
    (tracks : List (List ℕ)) (place end : ℕ) → place + length (flatten tracks) ≡ end → no_gap place (spans_from place tracks) end ≡ true
unfolding flatten no_gap spans_from
spans_stand [] place end e = eq-eqb place end (omega arith)
spans_stand (track ∷ tracks) place end e =
    rw (eq-eqb place place refl)
    (spans_stand tracks (place + length track) end (omega (arith, length-append track (flatten tracks))))

-- the bytes of those ranges are those tracks
spans_hold :
    (tracks : List (List ℕ)) (block front : List ℕ) (place : ℕ) →
    block ≡ front ++ flatten tracks →
    length front ≡ place →
    tracks_of block (spans_from place tracks) ≡ tracks
unfolding flatten spans_from bytes_of
spans_hold [] block front place e h = refl
spans_hold (track ∷ tracks) block front place e h =
    let behind : drop place block ≡ track ++ flatten tracks = rw e (drop_at front (track ++ flatten tracks) place h) in
    let there : take (length track) (drop place block) ≡ track = rw behind (take-append_seam track (flatten tracks)) in
    let next : block ≡ (front ++ track) ++ flatten tracks = e ∙ simp append_assoc in
    rw there
    (ap (λ (more : List (List ℕ)). track ∷ more) (spans_hold tracks block (front ++ track) (place + length track) next (rw length-append (omega arith))))

-- where the tracks of a bank stand
abbrev pub bank_spans : List (List ℕ) → List Span
bank_spans tracks = spans_from (behind_entries (length tracks)) tracks

module _ (tracks : List (List ℕ)) where
  count_said : count_of (encode_bank tracks) ≡ length tracks
  unfolding encode_bank wide_from
  count_said = wide_four (length tracks)

  total_said : total_of (encode_bank tracks) ≡ bank_length tracks
  unfolding encode_bank wide_from
  total_said = wide_four (bank_length tracks)

  entries_said : ranges (entry_at (encode_bank tracks)) 0 (length tracks) ≡ bank_spans tracks
  unfolding encode_bank
  entries_said =
      entries_say tracks (encode_bank tracks) (four_bytes (length tracks) ++ four_bytes (bank_length tracks)) (flatten tracks) (behind_entries (length tracks)) 0 refl refl

  -- its tracks, byte for byte
  pub bank_holds : tracks_of (encode_bank tracks) (bank_spans tracks) ≡ tracks
  unfolding encode_bank
  bank_holds =
      let front : List ℕ = four_bytes (length tracks) ++ (four_bytes (bank_length tracks) ++ entries (behind_entries (length tracks)) tracks) in
      spans_hold tracks (encode_bank tracks) front (behind_entries (length tracks)) (simp append_assoc) (omega (arith, entries_length (behind_entries (length tracks)) tracks))

  -- the bank of tracks is read as where they stand, wherever they are few and small enough
  pub bank_reads : (most : ℕ) → length tracks ≤ most → bank_length tracks ≤ most_bytes → read_bank most (encode_bank tracks) ≡ gives (bank_spans tracks)
  bank_reads most few small =
      let size = bank_length_lem tracks in
      let said = entries_said in
      let counted = count_said in
      let stand = spans_stand tracks (behind_entries (length tracks)) (length (encode_bank tracks)) (sym size) in
      walked most (encode_bank tracks) (omega arith) (omega arith) (omega arith) (omega arith) (total_said ∙ sym size)
      ∙ rw (counted, said, stand)
