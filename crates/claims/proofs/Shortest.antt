-- Shortness holds of strict reading, and P7's bytes show that it does not of lenient reading.
use Rattle.write.specs.declared.answer.WriteRefused.{WriteRefused}
use Rattle.std.specs.Prelude.{Result}
use Rattle.write.specs.declared.answer.Past.{Past}
use Rattle.event.specs.declared.read.EventRefused.{EventRefused}
use Rattle.event.specs.declared.read.EventAt as code
use mathlib.Core.Path.{◌≡◌, refl, sym, ◌∙◌, subst}
use mathlib.Core.Bool.{true, false}
use mathlib.Core.List.{List, [], ◌∷◌}
use Prim.Native.Nat.{ℕ, ◌+◌, ◌≤◌}
use native.Mathlib.Omega.{arith}
use lib.ListN.{length, drop, length-drop}
use Rattle.smf.specs.Place.{bytes_of}
use Rattle.smf.specs.Answer.{gives, Rules}
use Rattle.smf.specs.Running.{is_running}
use Rattle.smf.specs.Number.{ahead, encode_number, number_from, read_number}
use Rattle.smf.specs.Payload.{payload_after, read_payload, encode_payload}
use Rattle.smf.specs.Wire.{taken, read_status, read_body, after_delta, read_raw, encode_raw, encode_raw_event}
use Rattle.smf.specs.Kind.{sys_ex, called, raw_of}
use Rattle.smf.specs.Event.{event, map_kind, map_event, named, name_raw, read_event, placed, event_at, EventAt, reads_at, legal, encode_event, write_event, Same}
use Rattle.smf.proofs.Event.{event_read_lem, Reached, EventReached, event_reached, legal_exactly}
use Rattle.base.specs.Rules.{rules_of}
use Rattle.base.specs.declared.Rules as base
use Rattle.base.specs.declared.Running.{Running}
use Rattle.event.specs.Event.{event_of, event_read}
use Rattle.event.specs.declared.TrackEvent.{TrackEvent}
use Rattle.write.specs.Wrote.{wrote_event}
use Rattle.claims.specs.Shortest.{WrittenFor, Shortest, NotLenient}
use Rattle.claims.proofs.Calls as calls
use Rattle.claims.proofs.EventWrites.{event_wrote}
use Rattle.claims.proofs.Refusals.{legal_by}

-- what is written of an event that is the same has its own length
written : (running : ℕ) (raw : List ℕ) (a : EventAt) (Reaches : ℕ → ℕ → Type 0) → ((from : ℕ) → Reaches from (from + length (encode_event running (map_event (bytes_of raw) a.event))))
    → WrittenFor running raw a Reaches
written running raw a Reaches law = calls.write_event_lem _ said where
  said : (event : TrackEvent) (running' : Running) (rules : base.Rules) (bytes out : List ℕ) (at : ℕ) (r : Result Past WriteRefused) (end : List ℕ)
      → wrote_event r end ≡ write_event running'.status (legal (rules_of rules) bytes (event_of event)) out at
      → Same bytes (event_of event) raw a.event → running'.status ≡ running
      → (n : ℕ) → (wrote_event r end).written.answer ≡ gives n → Reaches at n
  said event running' rules bytes out at r end told same from n e =
      let w = event_wrote running'.status (legal (rules_of rules) bytes (event_of event)) (legal_by (rules_of rules) bytes (event_of event)) out at n (rw told at e) in
      rw (w.size, ((legal_exactly (rules_of rules) bytes (event_of event) w.event).0 w.legal).2, same, from) (law at)

-- an event that was read strictly takes no fewer bytes than its own
used : (rules : Rules) (running : ℕ) (raw : List ℕ) (at : ℕ) (a : EventAt) → rules.strict ≡ true → event_at rules running raw at ≡ reads_at a
    → length (encode_event running (map_event (bytes_of raw) a.event)) ≤ a.used
used rules running raw at a strict e =
    let r : Reached rules running raw at a = subst (EventReached rules running raw at) e (event_reached rules running raw at) in
    let few = (event_read_lem rules running (drop at raw) (taken (map_event (bytes_of raw) a.event) (drop (at + a.used) raw) a.running a.padding) r.read).shortest strict in
    omega (arith, few, r.within, length-drop at raw, length-drop (at + a.used) raw)

pub shortest : Shortest
shortest =
    calls.read_event_lem _ said where
      said : (raw : List ℕ) (at : ℕ) (running : Running) (rules : base.Rules) (r : Result code.EventAt EventRefused) → event_read r ≡ event_at (rules_of rules) running.status raw at
          → (a : EventAt) → rules.strict ≡ true → event_read r ≡ reads_at a → WrittenFor running.status raw a (λ from n. n ≤ from + a.used)
      said raw at running rules r told a strict e =
          let few = used (rules_of rules) running.status raw at a strict (sym told ∙ e) in
          written running.status raw a (λ from n. n ≤ from + a.used) (λ from. omega (arith, few))

-- P7's bytes
abbrev p7 : List ℕ
p7 = 0x00 ∷ 0xF0 ∷ []

abbrev empty : EventAt
empty = record { event = event 0 (sys_ex (record { start = 2; length = 0 })); used = 2; running = 0; padding = 0 }

p7_read : event_at (record { strict = false }) 0 p7 0 ≡ reads_at empty
unfolding is_running ahead encode_number number_from read_number payload_after read_payload read_status read_body after_delta read_raw called map_kind map_event named name_raw read_event placed event_at
p7_read = refl

p7_length : length (encode_event 0 (map_event (bytes_of p7) empty.event)) ≡ 3
unfolding ahead encode_number encode_payload encode_raw encode_raw_event raw_of map_kind map_event bytes_of encode_event
p7_length = refl

pub not_lenient : NotLenient
not_lenient =
    calls.read_event_lem _ said where
      said : (raw : List ℕ) (at : ℕ) (running : Running) (rules : base.Rules) (r : Result code.EventAt EventRefused) → event_read r ≡ event_at (rules_of rules) running.status raw at
          → raw ≡ p7 → at ≡ 0 → running.status ≡ 0 → rules.strict ≡ false
          → (a : EventAt) × (event_read r ≡ reads_at a) × (a.used ≡ 2) × WrittenFor 0 raw a (λ from n. n ≡ from + 3)
      said raw at running rules r told q z none lenient = (
        empty,
        told ∙ rw (q, z, none, lenient) p7_read,
        refl,
        subst (λ (s : List ℕ). WrittenFor 0 s empty (λ from n. n ≡ from + 3)) (sym q) (written 0 p7 empty (λ from n. n ≡ from + 3) (λ from. rw p7_length)),
      )
