-- No two answers of one function of this crate say the same, so that its promise permits one answer alone.
use Rattle.base.specs.declared.Refusal.{Refusal}
use Rattle.std.specs.Prelude.{Err, Ok, Result}
use mathlib.Core.Path.{◌≡◌, refl, ap}
use mathlib.Core.List.{List, [], ◌∷◌, map}
use Prim.Native.Nat.{ℕ}
use native.Mathlib.Omega.{arith}
use Rattle.base.specs.Refusal.{number_of}
use Rattle.smf.specs.Answer.{Answer, gives, refuses}
use Rattle.smf.specs.Place.{Span}
use Rattle.smf.specs.Write.{Written}
use Rattle.smf.proofs.Answer.{answered, injective}
use Rattle.base.specs.declared.Range.{Range}
use Rattle.base.proofs.RefusalNumbers.{refusal_of, number_back, number_of_injective}
use Rattle.base.proofs.Said.{said_injective}
use Rattle.meta.specs.Meta.{span_of}
use Rattle.track.specs.declared.read.ReadList.{ReadList}
use Rattle.track.proofs.Identical.{list_read_injective}
use Rattle.bank.specs.Answers.{spans_of, bank_read, bank_track, listed_track, bank_wrote, bank_left, BankAnswer, ListAnswer}
use Rattle.bank.specs.declared.Bank.{Bank}

back_range_lem : Span → Range
back_range_lem s = record { start = s.start; length = s.length }

same_range : (r : Range) → back_range_lem (span_of r) ≡ r
unfolding back_range_lem
same_range r = refl

same_ranges : (l : List Range) → map back_range_lem (spans_of l) ≡ l
unfolding back_range_lem
same_ranges [] = refl
same_ranges (r ∷ l) = ap (λ (more : List Range). r ∷ more) (same_ranges l)

back_bank : BankAnswer → Result Bank Refusal
back_bank b = answered (λ (u : Unit {0}). Ok (record { tracks = map back_range_lem b.bank.tracks; count = b.bank.count })) (λ n. Err (refusal_of n)) b.verdict

same_bank : (r : Result Bank Refusal) → back_bank (bank_read r) ≡ r
unfolding back_bank
same_bank (Ok b) = rw (same_ranges b.tracks)
same_bank (Err n) = ap Err (number_back n)

pub bank_read_injective : {x y : Result Bank Refusal} → bank_read x ≡ bank_read y → x ≡ y
bank_read_injective = injective bank_read back_bank same_bank

pub bank_track_injective : {x y : Result Range Refusal} → bank_track x ≡ bank_track y → x ≡ y
bank_track_injective = said_injective span_of back_range_lem same_range

both_listed : (x y : Result ReadList Refusal) → listed_track x ≡ listed_track y → x ≡ y
both_listed (Ok r) (Ok s) e = ap Ok (list_read_injective (ap (λ (a : ListAnswer). a.list) e))
both_listed (Err n) (Err m) e = let same : ◌≡◌ {A = Answer (Unit {0})} (refuses (number_of n)) (refuses (number_of m)) = ap (λ (a : ListAnswer). a.verdict) e in ap Err (number_of_injective cc)
both_listed (Ok r) (Err m) e = let same : gives (tt {0}) ≡ refuses (number_of m) = ap (λ (a : ListAnswer). a.verdict) e in let z : ◌≡◌ {A = ℕ} 0 1 = cc in absurd (omega arith)
both_listed (Err n) (Ok s) e = let same : refuses (number_of n) ≡ gives (tt {0}) = ap (λ (a : ListAnswer). a.verdict) e in let z : ◌≡◌ {A = ℕ} 0 1 = cc in absurd (omega arith)

pub listed_track_injective : {x y : Result ReadList Refusal} → listed_track x ≡ listed_track y → x ≡ y
listed_track_injective {x} {y} = both_listed x y

pub bank_wrote_injective : {x y : Result ℕ Refusal} → bank_wrote x ≡ bank_wrote y → x ≡ y
bank_wrote_injective = said_injective (λ n. n) (λ n. n) (λ n. refl)

pub bank_left_injective : {x y : Result ℕ Refusal} {b d : List ℕ} → bank_left x b ≡ bank_left y d → (x ≡ y) × (b ≡ d)
bank_left_injective e =
    (bank_wrote_injective (ap (λ (w : Written). w.answer) e), ap (λ (w : Written). w.buffer) e)
