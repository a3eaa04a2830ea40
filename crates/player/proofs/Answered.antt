-- What a player answers of a list: the table after it, or a number and the table as it came.
use mathlib.Core.Path.{◌≡◌}
use mathlib.Core.Bool.{false}
use mathlib.Core.List.{List}
use Prim.Native.Nat.{ℕ, ◌≤◌, ◌<◌}
use native.Mathlib.Omega.{arith}
use borrow.Author.Tests.{le-leb, lt-leb}
use lib.ListN.{length, get_or}
use Rattle.smf.specs.Place.{Span}
use Rattle.smf.specs.Event.{Event}
use Rattle.player.specs.Table.{Table}
use Rattle.player.specs.Widths.{event_within, accepted}
use Rattle.player.specs.Answers.{with_number, beside, table_beside}
use Rattle.player.proofs.Steps.{Played, played_refused}

module _ (t : Table) (most : ℕ) (es : List (Event Span)) (count : ℕ) where
  -- 21 comes first
  pub too_many : most < count → with_number t 21 ≡ table_beside t (accepted most es count)
  unfolding accepted beside
  too_many h = rw (lt-leb count most h)

  module _ (few : count ≤ most) where
    pub all_taken : {index : ℕ} {u : Table} → Played t es count index u → count ≤ index → with_number u 0 ≡ table_beside t (accepted most es count)
    unfolding accepted beside
    all_taken {index} p last =
        let all : index ≡ count = omega (arith, p.passed) in
        rw (le-leb count most few, ← all, p.fits, p.table)

    pub one_refused : {index : ℕ} {u : Table} → Played t es count index u → (d : Event Span) → index < count → count ≤ length es → event_within (get_or es index d) ≡ false
        → with_number t 18 ≡ table_beside t (accepted most es count)
    unfolding accepted beside
    one_refused p d more there h = rw (le-leb count most few, played_refused t es count p d more there h)
