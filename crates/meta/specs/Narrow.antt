-- The two types whose first byte is to be below a limit.
use Rattle.std.specs.Prelude.{ℕ}

-- document 01: a type and its limit. 20 is a channel, below 16; 21 is a port, below 128
pub data Narrow : ℕ → ℕ → Type 0 where
  channel : Narrow 0x20 16
  port : Narrow 0x21 128
