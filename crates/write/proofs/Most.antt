-- No event has more bytes than its payload and a few: so that the lengths of as many as a list holds can be added up.
use Rattle.write.specs.Size.{most}
use mathlib.Core.Path.{◌≡◌}
use mathlib.Core.Bool.{true}
use mathlib.Core.List.{List}
use Prim.Native.Nat.{ℕ, ◌+◌, ◌≤◌}
use native.Mathlib.Omega.{arith}
use lib.Dec.{eqb}
use lib.ListN.{length}
use Rattle.smf.specs.Answer.{Rules}
use Rattle.smf.specs.Wire.{Raw, one, two, system, typed, raw_event, encode_raw}
use Rattle.smf.specs.Kind.{raw_of}
use Rattle.smf.specs.Event.{Event, encode_event}
use Rattle.smf.proofs.Legal.{is_legal}
use Rattle.smf.proofs.Answer.{pick_both}
use Rattle.smf.proofs.Number.{encode_most}
use Rattle.smf.proofs.Payload.{encode_payload_length}
use Rattle.smf.proofs.Wire.{Sound, raw_event_length}
use Rattle.smf.proofs.Kind.{kind_sound}
use Rattle.smf.proofs.Event.{is_legal_lem}

raw_most : (running : ℕ) (raw : Raw) → Sound raw → length (encode_raw running raw) + 4 ≤ most
unfolding encode_raw
raw_most running (one status a) s = pick_both (λ (l : List ℕ). length l + 4 ≤ most) (eqb running status) (omega arith) (omega arith)
raw_most running (two status a b) s = pick_both (λ (l : List ℕ). length l + 4 ≤ most) (eqb running status) (omega arith) (omega arith)
raw_most running (system status p) s = omega (arith, encode_payload_length p, encode_most (length p), s.1)
raw_most running (typed t p) s = omega (arith, encode_payload_length p, encode_most (length p), s)

pub event_most : (rules : Rules) (running : ℕ) (e : Event (List ℕ)) → is_legal rules e ≡ true → length (encode_event running e) ≤ most
unfolding encode_event
event_most rules running e h =
    let l = is_legal_lem rules e h in
    omega (arith, raw_event_length running (raw_event e.delta (raw_of e.kind)), encode_most e.delta, raw_most running (raw_of e.kind) (kind_sound rules e.kind l.kind))
