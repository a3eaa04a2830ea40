-- What an answer of the code says of what was asked: a bank and its tracks, and a track of an index.
use Rattle.std.specs.Prelude.{Err, Ok, Result}
use mathlib.Core.Path.{◌≡◌, refl, sym, ap, ◌∙◌}
use mathlib.Core.List.{List, [], ◌∷◌, ◌++◌}
use Prim.Native.Nat.{ℕ, zero, suc, ◌+◌, ◌-◌, ◌≤◌, ◌<◌}
use native.Mathlib.Omega.{arith}
use lib.ListN.{length, get_or, take, drop, get_or-map}
use Rattle.smf.specs.Answer.{Answer, gives, refuses, Rules}
use Rattle.smf.specs.Place.{Span, bytes_of}
use Rattle.smf.specs.Lists.{list_at}
use Rattle.smf.specs.Event.{no_span}
use Rattle.smf.proofs.Write.{inside_within}
use Rattle.base.specs.Refusal.{number_of}
use Rattle.base.specs.declared.Range.{Range}
use Rattle.base.specs.declared.Refusal.{Refusal}
use Rattle.base.specs.Said.{said}
use Rattle.meta.specs.Meta.{span_of}
use Rattle.loader.specs.Entry.{answered, leaves}
use Rattle.bank.specs.Read.{read_bank, track_at, track_listed}
use Rattle.bank.specs.Answers.{spans_of, BankHeld, held_tracks, BankAnswer, bank_answer, bank_of, bank_read, bank_track}
use Rattle.bank.specs.Entries.{cells_of}
use Rattle.bank.specs.declared.Bank.{Bank}
use Rattle.bank.proofs.OneForm.{read_few}
use Rattle.bank.proofs.Tracks.{track_there, track_none, track_inside, listed_there, listed_refused}

-- an element of the front, whatever stands for one past the end
get_d_front : {A : Type 0} (front behind : List A) (i : ℕ) (d e : A) → i < length front → get_or (front ++ behind) i d ≡ get_or front i e
get_d_front [] behind i d e h = absurd (omega arith)
get_d_front (x ∷ front) behind zero d e h = refl
get_d_front (x ∷ front) behind (suc i) d e h = get_d_front front behind i d e (omega arith)

-- a bank that was read, and the ranges of its tracks
pub record Told (most : ℕ) (asked : Answer (List Span)) (b : Bank) : Type 0 where
  pub tracks : List Span
  pub there : asked ≡ gives tracks
  pub held : bank_of b ≡ held_tracks most tracks

module _ (most : ℕ) {r : Result Bank Refusal} where
  pub bank_refused : (asked : Answer (List Span)) → bank_read r ≡ bank_answer most asked → (n : Refusal) → r ≡ Err n → asked ≡ refuses (number_of n)
  unfolding bank_answer
  bank_refused (gives tracks) e n v =
      let says : refuses (number_of n) ≡ gives (tt {0}) = rw v at (ap (λ (b : BankAnswer). b.verdict) e) in
      let z : ◌≡◌ {A = ℕ} 0 1 = cc in
      absurd (omega arith)
  bank_refused (refuses m) e n v =
      let says : ◌≡◌ {A = Answer (Unit {0})} (refuses (number_of n)) (refuses m) = rw v at (ap (λ (b : BankAnswer). b.verdict) e) in
      let same : number_of n ≡ m = cc in
      ap refuses (sym same)

  pub bank_told : (asked : Answer (List Span)) → bank_read r ≡ bank_answer most asked → (b : Bank) → r ≡ Ok b → Told most asked b
  unfolding bank_answer
  bank_told (gives tracks) e b v = record { tracks = tracks; there = refl; held = ap (λ (a : BankAnswer). a.bank) (rw v at e) }
  bank_told (refuses m) e b v =
      let says : gives (tt {0}) ≡ refuses m = rw v at (ap (λ (a : BankAnswer). a.verdict) e) in
      let z : ◌≡◌ {A = ℕ} 0 1 = cc in
      absurd (omega arith)

module _ {most : ℕ} {asked : Answer (List Span)} {b : Bank} (t : Told most asked b) where
  pub told_count : b.count ≡ length t.tracks
  unfolding held_tracks
  told_count = ap (λ (h : BankHeld). h.count) t.held

  pub told_tracks : spans_of b.tracks ≡ (held_tracks most t.tracks).tracks
  told_tracks = ap (λ (h : BankHeld). h.tracks) t.held

-- what C is handed of a bank that was read: its cells and its count; after a refusal what it held
module _ (most : ℕ) where
  pub read_cells : (r : Result Bank Refusal) (asked : Answer (List Span)) → bank_read r ≡ bank_answer most asked → (held : List ℕ)
      → leaves (λ (tracks : List Span). cells_of (held_tracks most tracks).tracks) asked held ≡ leaves (λ (b : Bank). cells_of (spans_of b.tracks)) (said (λ (b : Bank). b) r) held
  read_cells (Ok b) asked e held = let t = bank_told most asked e b refl in rw t.there (ap cells_of (sym (told_tracks t)))
  read_cells (Err n) asked e held = rw (bank_refused most asked e n refl)

  pub read_count : (r : Result Bank Refusal) (asked : Answer (List Span)) → bank_read r ≡ bank_answer most asked → (held : ℕ)
      → leaves (λ (tracks : List Span). length tracks) asked held ≡ leaves (λ (b : Bank). b.count) (said (λ (b : Bank). b) r) held
  read_count (Ok b) asked e held = let t = bank_told most asked e b refl in rw t.there (sym (told_count t))
  read_count (Err n) asked e held = rw (bank_refused most asked e n refl)

  pub read_answered : (r : Result Bank Refusal) (asked : Answer (List Span)) → bank_read r ≡ bank_answer most asked → answered asked ≡ answered (said (λ (b : Bank). b) r)
  read_answered (Ok b) asked e = let t = bank_told most asked e b refl in rw t.there
  read_answered (Err n) asked e = rw (bank_refused most asked e n refl)

-- the track of an index
module _ (most : ℕ) (block : List ℕ) (index : ℕ) {b : Bank} (t : Told most (read_bank most block) b) where
  pub told_few : b.count ≤ most
  told_few = omega (arith, told_count t, read_few most block t.there)

  pub told_none : b.count ≤ index → track_at most block index ≡ refuses 34
  told_none h = track_none most block index t.tracks t.there (omega (arith, told_count t))

  pub told_there : (past : Range) → index < b.count → track_at most block index ≡ gives (span_of (get_or b.tracks index past))
  unfolding held_tracks
  told_there past h =
      let inner : index < length t.tracks = omega (arith, told_count t) in
      let own : span_of (get_or b.tracks index past) ≡ get_or t.tracks index no_span =
      sym (get_or-map span_of b.tracks index past)
      ∙ ap (λ (l : List Span). get_or l index (span_of past)) (told_tracks t)
      ∙ get_d_front t.tracks _ index (span_of past) no_span inner
      in
      track_there most block index t.tracks t.there inner ∙ ap gives (sym own)

-- what an answer for a track says
module _ (most : ℕ) (block : List ℕ) (index : ℕ) (r : Result Range Refusal) (says : bank_track r ≡ track_at most block index) where
  pub said_refused : (n : Refusal) → r ≡ Err n → track_at most block index ≡ refuses (number_of n)
  said_refused n e = sym says ∙ ap bank_track e

  pub said_there : (range : Range) → r ≡ Ok range → track_at most block index ≡ gives (span_of range)
  said_there range e = sym says ∙ ap bank_track e

  pub said_within : (range : Range) → r ≡ Ok range → range.start + range.length ≤ length block
  said_within range e = inside_within block (span_of range) (track_inside most block index (said_there range e))

  -- and of its listing
  module _ (rules : Rules) (events : ℕ) where
    pub said_unlisted : (n : Refusal) → r ≡ Err n → track_listed rules events most block index ≡ refuses (number_of n)
    said_unlisted n e = listed_refused most block index rules events (number_of n) (said_refused n e)

    pub said_listed : (range : Range) → r ≡ Ok range → track_listed rules events most block index ≡ gives (list_at rules events 0 (bytes_of block (span_of range)) 0)
    said_listed range e = listed_there most block index rules events (span_of range) (said_there range e)

-- the bytes of a range, from its start to its end
pub range_bytes : (block : List ℕ) (range : Range) → take (range.start + range.length - range.start) (drop range.start block) ≡ bytes_of block (span_of range)
unfolding bytes_of
range_bytes block range = let same : range.start + range.length - range.start ≡ range.length = omega arith in ap (λ (n : ℕ). take n (drop range.start block)) same
