-- The running status. SMF 1.0 and document 01, "Bytes of an event": the last channel status, 80..EF, or none, which is 0 here.
use Rattle.std.specs.Prelude.{Bool, true, false, ℕ, ltb, eqb}
use Rattle.smf.specs.Answer.{pick}

-- document 01, refusal 1: valid is none (0) and 80..EF; any other is invalid
unfoldable pub is_running : ℕ → Bool
is_running status = pick (eqb status 0) true (pick (ltb status 0x80) false (ltb status 0xF0))
