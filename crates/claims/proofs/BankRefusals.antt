-- By which numbers a bank of programs is refused, and what is left then.
use mathlib.Core.Path.{refl}
use mathlib.Core.Bool.{◌||◌}
use mathlib.Core.List.{List, [], ◌∷◌}
use Prim.Native.Nat.{ℕ}
use lib.Dec.{ltb, leb}
use lib.ListN.{length, take}
use Rattle.smf.specs.Answer.{Answer, gives, refuses, Rules}
use Rattle.smf.specs.Place.{Span, inside}
use Rattle.smf.specs.Write.{part}
use Rattle.smf.specs.Lists.{ListAt}
use Rattle.smf.proofs.Answer.{pick_both}
use Rattle.bank.specs.Bank.{most_bytes, behind_entries, bank_length}
use Rattle.bank.specs.Read.{count_of, agrees, read_bank, track_at, track_listed}
use Rattle.bank.specs.Write.{all_inside, tracks_of, bank_bytes, ranges_bank}
use Rattle.bank.specs.Answers.{held_tracks, bank_answer, empty_list, list_answer}
use Rattle.claims.specs.Table.{By, Keeps, of_bank, of_bank_track, of_bank_writing}
use Rattle.claims.proofs.Refusals.{then_by, by_more}

pub bank_by : (most : ℕ) (block : List ℕ) → By of_bank (read_bank most block)
unfolding read_bank
bank_by most block =
    pick_both (By of_bank) (ltb (length block) 4 || leb (count_of block) most)
    (pick_both (By of_bank) (leb (behind_entries (count_of block)) (length block)) (pick_both (By of_bank) (agrees block) tt refl) refl)
    refl

pub track_by : (most : ℕ) (block : List ℕ) (index : ℕ) → By of_bank_track (track_at most block index)
unfolding track_at
track_by most block index =
    then_by of_bank_track (read_bank most block) _ (by_more of_bank_track of_bank (read_bank most block) refl (bank_by most block))
    (λ (tracks : List Span). pick_both (By of_bank_track) (ltb index (length tracks)) tt refl)

pub listed_by : (rules : Rules) (events most : ℕ) (block : List ℕ) (index : ℕ) → By of_bank_track (track_listed rules events most block index)
unfolding track_listed
listed_by rules events most block index = then_by of_bank_track (track_at most block index) _ (track_by most block index) (λ (track : Span). tt)

pub ranges_bank_by : (most : ℕ) (bytes : List ℕ) (ranges : List Span) (count : ℕ) → By of_bank_writing (ranges_bank most bytes ranges count)
unfolding ranges_bank bank_bytes
ranges_bank_by most bytes ranges count =
    pick_both (By of_bank_writing) (leb count most)
    (pick_both (By of_bank_writing) (all_inside bytes (take count ranges))
    (pick_both (By of_bank_writing) (leb (bank_length (tracks_of bytes (take count ranges))) most_bytes) tt refl)
    refl)
    refl

pub part_by : (bytes : List ℕ) (span : Span) → By (19 ∷ 20 ∷ []) (part bytes span)
unfolding part
part_by bytes span = pick_both (By (19 ∷ 20 ∷ [])) (inside bytes span) tt refl

-- after a refusal a bank of no tracks, and an empty list
pub bank_keeps : (most : ℕ) (x : Answer (List Span)) → By of_bank x → Keeps of_bank (bank_answer most x).verdict (held_tracks most []) (bank_answer most x).bank
unfolding bank_answer
bank_keeps most (gives tracks) b = tt
bank_keeps most (refuses n) b = (b, refl)

pub list_keeps : (events : ℕ) (x : Answer ListAt) → By of_bank_track x → Keeps of_bank_track (list_answer events x).verdict (empty_list events) (list_answer events x).list
unfolding list_answer
list_keeps events (gives l) b = tt
list_keeps events (refuses n) b = (b, refl)
