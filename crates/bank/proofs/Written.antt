-- Writing a bank, test by test; and that its four parts, put one behind the other, are the bank.
use mathlib.Core.Path.{◌≡◌, sym, ap, ◌∙◌}
use mathlib.Core.Bool.{true, false}
use mathlib.Core.List.{List, ◌++◌, flatten}
use Prim.Native.Nat.{ℕ, ◌+◌, ◌≤◌, ◌<◌}
use native.Mathlib.Omega.{arith}
use borrow.Author.Tests.{le-leb, lt-leb}
use lib.ListN.{length, take, length-map}
use lib.Seq.{length-take-le}
use Rattle.smf.specs.Answer.{gives}
use Rattle.smf.specs.Place.{Span, bytes_of}
use Rattle.smf.specs.Write.{Written, over, left, put}
use Rattle.smf.proofs.Write.{over_over, length_over, put_fits, put_full}
use Rattle.bank.specs.Bank.{most_bytes, four_bytes, behind_entries, entries, bank_length, encode_bank}
use Rattle.bank.specs.Write.{all_inside, tracks_of, bank_bytes, ranges_bank, write_bank}
use Rattle.bank.proofs.Encoded.{entries_length, bank_length_lem}

module _ (most : ℕ) (bytes : List ℕ) (spans : List Span) (count : ℕ) (out : List ℕ) where
  abbrev tracks : List (List ℕ)
  tracks = tracks_of bytes (take count spans)

  abbrev Asked : Written
  Asked = write_bank most bytes spans count out

  pub write_many : most < count → left out 25 ≡ Asked
  unfolding ranges_bank
  write_many h = rw (lt-leb count most h)

  module _ (few : count ≤ most) where
    pub write_outside : all_inside bytes (take count spans) ≡ false → left out 19 ≡ Asked
    unfolding ranges_bank
    write_outside h = rw (le-leb count most few, h)

    module _ (all : all_inside bytes (take count spans) ≡ true) where
      pub write_above : most_bytes < bank_length tracks → left out 20 ≡ Asked
      unfolding ranges_bank bank_bytes
      write_above h = rw (le-leb count most few, all, lt-leb (bank_length tracks) most_bytes h)

      module _ (small : bank_length tracks ≤ most_bytes) where
        pub write_whole : put (encode_bank tracks) out 0 ≡ Asked
        unfolding ranges_bank bank_bytes
        write_whole = rw (le-leb count most few, all, le-leb (bank_length tracks) most_bytes small)

        pub write_full : length out < bank_length tracks → left out 20 ≡ Asked
        write_full h = put_full (encode_bank tracks) out 0 (omega (arith, bank_length_lem tracks)) ∙ write_whole

        module _ (long : count ≤ length spans) (room : bank_length tracks ≤ length out) where
          many : length tracks ≡ count
          many = length-map (take count spans) (bytes_of bytes) ∙ length-take-le count spans long

          -- the count, the total, the entries and the tracks
          pub write_put : (n : ℕ) → bank_length tracks ≡ n → (a b c d : List ℕ)
              → a ≡ over (four_bytes count) out 0
              → b ≡ over (four_bytes n) a 4
              → c ≡ over (entries (behind_entries count) tracks) b 8
              → d ≡ over (flatten tracks) c (behind_entries count)
              → record { buffer = d; answer = gives n } ≡ Asked
          unfolding encode_bank
          write_put n sized a b c d first second third fourth =
              let es = entries (behind_entries count) tracks in
              let ts = flatten tracks in
              let la : length a ≡ length out = ap length first ∙ length_over (four_bytes count) out 0 (omega (arith, many)) in
              let lb : length b ≡ length out = ap length second ∙ length_over (four_bytes n) a 4 (omega (arith, many)) ∙ la in
              let place : behind_entries count ≡ 8 + length es = omega (arith, entries_length (behind_entries count) tracks, many) in
              let end : d ≡ over (four_bytes count ++ (four_bytes n ++ (es ++ ts))) out 0 =
              fourth
              ∙ ap (λ (l : List ℕ). over ts l (behind_entries count)) third
              ∙ ap (over ts (over es b 8)) place
              ∙ over_over es ts b 8 (omega (arith, many))
              ∙ ap (λ (l : List ℕ). over (es ++ ts) l 8) second
              ∙ over_over (four_bytes n) (es ++ ts) a 4 (omega (arith, many))
              ∙ ap (λ (l : List ℕ). over (four_bytes n ++ (es ++ ts)) l 4) first
              ∙ over_over (four_bytes count) (four_bytes n ++ (es ++ ts)) out 0 (omega arith)
              in
              let bank : four_bytes count ++ (four_bytes n ++ (es ++ ts)) ≡ encode_bank tracks =
              ap (λ (m : ℕ). four_bytes m ++ (four_bytes n ++ (entries (behind_entries m) tracks ++ ts))) (sym many)
              ∙ ap (λ (m : ℕ). four_bytes (length tracks) ++ (four_bytes m ++ (entries (behind_entries (length tracks)) tracks ++ ts))) (sym sized)
              in
              let sum : n ≡ 0 + length (encode_bank tracks) = omega (arith, bank_length_lem tracks, sized) in
              ap (λ (l : List ℕ). record { buffer = l; answer = gives n }) (end ∙ ap (λ (l : List ℕ). over l out 0) bank)
              ∙ ap (λ (m : ℕ). record { buffer = over (encode_bank tracks) out 0; answer = gives m }) sum
              ∙ put_fits (encode_bank tracks) out 0 (omega arith)
              ∙ write_whole
