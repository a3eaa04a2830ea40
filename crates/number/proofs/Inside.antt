-- Whether a range is inside the bytes, by a test that no sum can wrap.
use mathlib.Core.Path.{◌≡◌, sym, ◌∙◌}
use Prim.Native.Nat.{ℕ, ◌+◌, ◌-◌, ◌≤◌, ◌<◌}
use mathlib.Core.Bool.{false}
use mathlib.Core.List.{List}
use native.Mathlib.Omega.{arith}
use lib.Dec.{leb}
use lib.ListN.{length}
use borrow.Author.Tests.{le-leb, lt-leb}
use Rattle.smf.specs.Place.{Span, inside}
use Rattle.smf.proofs.Answer.{by_lt}

module _ (bytes : List ℕ) (span : Span) where
  pub inside_long : length bytes < span.length → false ≡ inside bytes span
  unfolding inside
  inside_long h = sym (lt-leb (span.start + span.length) (length bytes) (omega arith))

  pub inside_start : span.length ≤ length bytes → leb span.start (length bytes - span.length) ≡ inside bytes span
  unfolding inside
  inside_start h =
      by_lt (length bytes) (span.start + span.length)
      (λ beyond. lt-leb span.start (length bytes - span.length) (omega arith) ∙ sym (lt-leb (span.start + span.length) (length bytes) beyond))
      (λ within. le-leb span.start (length bytes - span.length) (omega arith) ∙ sym (le-leb (span.start + span.length) (length bytes) within))
