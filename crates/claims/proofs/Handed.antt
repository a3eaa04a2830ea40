-- What a caller holds is what the promises say.
use Rattle.std.specs.Prelude.{Result, Ok, Err}
use Prim.Native.Nat.{ℕ, zero, suc}
use mathlib.Core.Path.{◌≡◌, refl, sym, ap, ◌∙◌}
use Rattle.smf.specs.Lists.{Held, holding}
use Rattle.base.specs.Refusal.{number_of}
use Rattle.base.specs.declared.Refusal.{Refusal}
use Rattle.base.proofs.Said.{said_injective}
use Rattle.base.proofs.RefusalNumbers.{refusal_of, number_back}
use Rattle.track.specs.List.{held_of}
use Rattle.track.specs.Read.{list_read_of}
use Rattle.track.specs.declared.list.EventList.{EventList}
use Rattle.track.proofs.Identical.{held_of_injective}
use Rattle.track.specs.declared.read.ReadList.{ReadList}
use Rattle.player.specs.Table.{Table}
use Rattle.player.specs.Answers.{Beside, with_number, table_said, list_said}
use Rattle.player.specs.declared.notes.Untaken.{Untaken}
use Rattle.player.proofs.Nought.{never_nought}
use Rattle.bank.specs.Answers.{BankAnswer, ListAnswer, bank_of, held_tracks, bank_read, listed_track}
use Rattle.bank.specs.declared.Bank.{Bank}
use Rattle.claims.specs.Handed.{ReadBank, ListedTrack, list_handed, bank_handed, track_handed, verdict_of}

-- what is held, in the terms of the definitions
abbrev pub bank_shown : ReadBank → BankAnswer
bank_shown r = record { bank = bank_of r.bank; verdict = verdict_of r.verdict }

abbrev pub track_shown : ListedTrack → ListAnswer
track_shown r = record { list = list_read_of r.read; verdict = verdict_of r.verdict }

pub handed_list : (r : Result EventList Refusal) → with_number (held_of (list_handed r)) (list_said r).number ≡ list_said r
unfolding holding
handed_list (Ok l) = refl
handed_list (Err n) = refl

pub handed_bank : (r : Result Bank Refusal) → bank_shown (bank_handed r) ≡ bank_read r
unfolding held_tracks
handed_bank (Ok b) = refl
handed_bank (Err n) = refl

pub handed_track : (r : Result ReadList Refusal) → track_shown (track_handed r) ≡ listed_track r
unfolding holding
handed_track (Ok r) = refl
handed_track (Err n) = refl

pub verdict_of_injective : {x y : Result (Unit {0}) Refusal} → verdict_of x ≡ verdict_of y → x ≡ y
verdict_of_injective = said_injective (λ x. x) (λ x. x) (λ x. refl)

-- What `after` and `silence` answer is told apart by what it says.

same_refusal : (m n : Refusal) → number_of m ≡ number_of n → m ≡ n
same_refusal m n e = sym (number_back m) ∙ ap refusal_of e ∙ number_back n

hands_back : Refusal → Table → Result Table Untaken
hands_back n t = Err (record { refusal = n; table = t })

untold : ℕ → Table → Result Table Untaken
untold zero t = Ok t
untold (suc m) t = hands_back (refusal_of (suc m)) t

untold_refused : (n : Refusal) (m : ℕ) → number_of n ≡ m → (t : Table) → untold m t ≡ hands_back n t
unfolding untold
untold_refused n zero e t = absurd (never_nought n e)
untold_refused n (suc m) e t =
    ap (λ (k : Refusal). hands_back k t) (ap refusal_of (sym e) ∙ number_back n)

untold_back : (r : Result Table Untaken) → untold (table_said r).number (table_said r).value ≡ r
unfolding untold hands_back
untold_back (Ok t) = refl
untold_back (Err u) = untold_refused u.refusal (number_of u.refusal) refl u.table

pub table_said_injective : {x y : Result Table Untaken} → table_said x ≡ table_said y → x ≡ y
table_said_injective {x} {y} e =
    sym (untold_back x) ∙ ap (λ (b : Beside Table). untold b.number b.value) e ∙ untold_back y

list_same : (x y : Result EventList Refusal) → list_said x ≡ list_said y → x ≡ y
list_same (Ok l) (Ok m) e = ap Ok (held_of_injective (ap (λ (b : Beside Held). b.value) e))
list_same (Ok l) (Err n) e = absurd (never_nought n (sym (ap (λ (b : Beside Held). b.number) e)))
list_same (Err n) (Ok m) e = absurd (never_nought n (ap (λ (b : Beside Held). b.number) e))
list_same (Err m) (Err n) e = ap Err (same_refusal m n (ap (λ (b : Beside Held). b.number) e))

pub list_said_injective : {x y : Result EventList Refusal} → list_said x ≡ list_said y → x ≡ y
list_said_injective {x} {y} e = list_same x y e
