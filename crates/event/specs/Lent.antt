-- What a call that reads an event answers, and the running status that it leaves.
use Rattle.event.specs.declared.read.EventRefused.{EventRefused}
use Rattle.event.specs.declared.read.EventAt.{EventAt}
use Rattle.std.specs.Prelude.{◌≡◌, ℕ, Result}
use Rattle.smf.specs.Event.{ReadAt, reads_at, refused_at}
use Rattle.base.specs.declared.Running.{Running}
use Rattle.event.specs.Event.{event_read}

-- document 01, "Refusal numbers": the running status after an event; of a refused read the one that the Rust is left with
abbrev pub read_running : ReadAt → ℕ
read_running (reads_at e) = e.running
read_running (refused_at n used running padding) = running

-- document 01, "What must change shape": the answer says what is read, and the running status at the end is the one that this leaves
abbrev pub Leaves : ReadAt → Result EventAt EventRefused → Running → Type 0
Leaves reading answer running = (event_read answer ≡ reading) × (running.status ≡ read_running reading)
