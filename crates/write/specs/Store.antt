-- Bytes stored at a place, one behind the other.
use Rattle.std.specs.Prelude.{◌≡◌, List, ℕ, ◌+◌, length}
use Rattle.smf.specs.Write.{over}

-- bytes were stored at a place: the next place, and what the buffer is then
pub record Stored (before : List ℕ) (at : ℕ) (bytes : List ℕ) (next : ℕ) (after : List ℕ) : Type 0 where
  pub place : next ≡ at + length bytes
  pub buffer : after ≡ over bytes before at
