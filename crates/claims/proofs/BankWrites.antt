-- The writer of banks: when it accepts and by which number it refuses, and what it leaves.
use mathlib.Core.Path.{◌≡◌, sym, ap, ◌∙◌}
use mathlib.Core.Bool.{true, false}
use mathlib.Core.List.{List, ◌++◌}
use mathlib.Core.Logic.{◌⊎◌, inl, inr, ◌↔◌}
use Prim.Native.Nat.{ℕ, ◌+◌, ◌≤◌, ◌<◌}
use native.Mathlib.Omega.{arith}
use lib.ListN.{length, take, drop, length-map, length-take}
use lib.Seq.{take-append_seam, drop-append_seam}
use Rattle.smf.specs.Answer.{gives, refuses}
use Rattle.smf.specs.Place.{Span, bytes_of}
use Rattle.smf.specs.Write.{Written, over}
use Rattle.smf.proofs.Answer.{by_test, by_lt}
use Rattle.smf.proofs.Write.{put_fits, length_over}
use Rattle.bank.specs.Bank.{most_bytes, bank_length, encode_bank}
use Rattle.bank.specs.Write.{all_inside, tracks_of, write_bank}
use Rattle.bank.proofs.Encoded.{bank_length_lem}
use Rattle.bank.proofs.Written.{write_many, write_outside, write_above, write_whole, write_full}
use Rattle.claims.specs.Bank.{Allowed, Leaves}
use Rattle.claims.proofs.BankForms.{is_bank}

module _ (most : ℕ) (bytes : List ℕ) (ranges : List Span) (count : ℕ) (out : List ℕ) where
  -- its tracks, and what it leaves and answers
  abbrev asked : List (List ℕ)
  asked = tracks_of bytes (take count ranges)

  abbrev wrote : Written
  wrote = write_bank most bytes ranges count out

  said : {w : Written} → w ≡ wrote → wrote.answer ≡ w.answer
  said e = ap (λ (w : Written). w.answer) (sym e)

  pub accepts : Allowed most bytes ranges count (length out) → wrote ≡ record { buffer = over (encode_bank asked) out 0; answer = gives (bank_length asked) }
  accepts a =
      let fits = a.fits in
      let long = bank_length_lem asked in
      sym (write_whole most bytes ranges count out a.few a.inner a.small) ∙ sym (put_fits (encode_bank asked) out 0 (omega arith))
      ∙ ap (λ (n : ℕ). record { buffer = over (encode_bank asked) out 0; answer = gives n }) (omega arith)

  pub many : most < count → wrote.answer ≡ refuses 25
  many h = said (write_many most bytes ranges count out h)

  pub outside : count ≤ most → all_inside bytes (take count ranges) ≡ false → wrote.answer ≡ refuses 19
  outside few h = said (write_outside most bytes ranges count out few h)

  module _ (few : count ≤ most) (inner : all_inside bytes (take count ranges) ≡ true) where
    above : most_bytes < bank_length asked → wrote.answer ≡ refuses 20
    above h = said (write_above most bytes ranges count out few inner h)

    full : bank_length asked ≤ most_bytes → length out < bank_length asked → wrote.answer ≡ refuses 20
    full small h = said (write_full most bytes ranges count out few inner small h)

    pub large : (most_bytes < bank_length asked) ⊎ (length out < bank_length asked) → wrote.answer ≡ refuses 20
    large (inl h) = above h
    large (inr h) = by_lt most_bytes (bank_length asked) (λ more. above more) (λ small. full small h)

  -- it accepts only what is allowed
  module _ (total : ℕ) (e : wrote.answer ≡ gives total) where
    never : (n : ℕ) → wrote.answer ≡ refuses n → ⊥
    never n refused = let z : ◌≡◌ {A = ℕ} 0 1 = cc in omega arith

    pub accepts_only : Allowed most bytes ranges count (length out)
    accepts_only =
        by_lt most count (λ h. absurd (never 25 (many h)))
        (λ few. by_test (all_inside bytes (take count ranges))
        (λ inner. by_lt most_bytes (bank_length asked) (λ h. absurd (never 20 (above few inner h)))
        (λ small. by_lt (length out) (bank_length asked) (λ h. absurd (never 20 (full few inner small h)))
        (λ fits. record { few = few; inner = inner; small = small; fits = fits })))
        (λ not. absurd (never 19 (outside few not))))

    -- what it leaves then
    pub leaves : Leaves most asked out total wrote.buffer
    leaves =
        let a = accepts_only in
        let few = a.few in
        let fits = a.fits in
        let w = accepts a in
        let long = bank_length_lem asked in
        let size : total ≡ bank_length asked = cc (e, ap (λ (w : Written). w.answer) w) in
        let from : 0 + length (encode_bank asked) ≡ length (encode_bank asked) = omega arith in
        let buffer : wrote.buffer ≡ encode_bank asked ++ drop (length (encode_bank asked)) out =
        ap (λ (w : Written). w.buffer) w ∙ ap (λ (n : ℕ). encode_bank asked ++ drop n out) from in
        let whole : total ≡ length (encode_bank asked) = size ∙ sym long in
        let count_fits : length asked ≤ most = omega (arith, length-map (take count ranges) (bytes_of bytes), length-take count ranges) in
        record {
          size = size;
          written = rw (buffer, whole, take-append_seam (encode_bank asked) (drop (length (encode_bank asked)) out)) (is_bank most asked count_fits a.small);
          behind = rw (buffer, whole, drop-append_seam (encode_bank asked) (drop (length (encode_bank asked)) out));
          long = ap (λ (w : Written). length w.buffer) w ∙ length_over (encode_bank asked) out 0 (omega arith);
        }

  pub exactly : ((total : ℕ) × (wrote.answer ≡ gives total)) ↔ Allowed most bytes ranges count (length out)
  exactly = ((λ is. accepts_only is.0 is.1), (λ allowed. (bank_length asked, ap (λ (w : Written). w.answer) (accepts allowed))))
