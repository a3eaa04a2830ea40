-- A track of a bank by its index: when it is given, that it is inside the block, and that it is listed as its bytes by themselves are.
use mathlib.Core.Path.{◌≡◌}
use mathlib.Core.Bool.{true}
use mathlib.Core.List.{List}
use Prim.Native.Nat.{ℕ, ◌≤◌, ◌<◌}
use native.Mathlib.Omega.{arith}
use borrow.Author.Tests.{lt-ltb, le-ltb, ltb-true}
use lib.Dec.{ltb}
use lib.ListN.{length, get_or}
use Rattle.smf.specs.Answer.{gives, refuses, Rules}
use Rattle.smf.specs.Place.{Span, inside, bytes_of}
use Rattle.smf.specs.Event.{no_span}
use Rattle.smf.specs.Lists.{list_at}
use Rattle.smf.proofs.Answer.{by_answer, given}
use Rattle.bank.specs.Read.{read_bank, track_at, track_listed}
use Rattle.bank.proofs.OneForm.{read_inside, inside_at}

module _ (most : ℕ) (block : List ℕ) (index : ℕ) where
  -- a block that is no bank has no track
  pub track_refused : {n : ℕ} → read_bank most block ≡ refuses n → track_at most block index ≡ refuses n
  unfolding track_at
  track_refused e = rw e

  -- the track of an index that there is
  pub track_there : (tracks : List Span) → read_bank most block ≡ gives tracks → index < length tracks → track_at most block index ≡ gives (get_or tracks index no_span)
  unfolding track_at
  track_there tracks e h = rw (e, lt-ltb index (length tracks) h)

  -- and of one that there is not
  pub track_none : (tracks : List Span) → read_bank most block ≡ gives tracks → length tracks ≤ index → track_at most block index ≡ refuses 34
  unfolding track_at
  track_none tracks e h = rw (e, le-ltb index (length tracks) h)

  -- a track that is there is inside the block
  pub track_inside : {track : Span} → track_at most block index ≡ gives track → inside block track ≡ true
  unfolding track_at
  track_inside {track} e =
      by_answer (read_bank most block)
      (λ tracks there.
      let g = given (ltb index (length tracks)) (get_or tracks index no_span) 34 (rw there at e) in
      rw (← g.1) (inside_at block tracks index (ltb-true index (length tracks) g.0) (read_inside most block there)))
      (λ n there. let none : refuses n ≡ gives track = rw there at e in let z : ◌≡◌ {A = ℕ} 0 1 = cc in absurd (omega arith))

  module _ (rules : Rules) (events : ℕ) where
    pub listed_there : (track : Span) → track_at most block index ≡ gives track
        → track_listed rules events most block index ≡ gives (list_at rules events 0 (bytes_of block track) 0)
    unfolding track_listed
    listed_there track e = rw e

    pub listed_refused : (n : ℕ) → track_at most block index ≡ refuses n → track_listed rules events most block index ≡ refuses n
    unfolding track_listed
    listed_refused n e = rw e
