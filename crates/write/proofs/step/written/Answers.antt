-- `written` meets its contract: what was let through is put where there is room for it.
use mathlib.Core.Path.{◌≡◌, sym, ap, subst, ◌∙◌}
use native.Mathlib.Omega.{arith}
use lib.ListN.{length}
use Rattle.smf.specs.Wire.{raw_event, encode_raw_event, running_after}
use Rattle.write.specs.declared.raw.RawEvent.{RawEvent}
use Rattle.base.specs.declared.Refusal.{Refusal}
use Rattle.write.specs.Raw.{LetThrough, judged_said, wire_of}
use Rattle.write.specs.Size.{Size}
use Rattle.write.specs.declared.answer.WriteRefused.{WriteRefused}
use Rattle.write.specs.Wrote.{wrote_event, write_raw}
use Rattle.std.specs.Prelude.{Ok, Err, Result}
use Rattle.std.proofs.Common.{rules}
use Rattle.std.proofs.lemmas.Result.{err_from_is_err_and}
use Rattle.event.proofs.Tried.{ok_back, err_back}
use Rattle.write.proofs.Doors.{said_raw}
use Rattle.write.proofs.Steps.{write_full, write_put}
use Rattle.write.proofs.step.written.Goals as goal
use Rattle.write.proofs.step.written.Goals.{In_ok-event, then-out-size-via-then-out-size, then-out-size-via-else-out-size+then-out-size-2}
use Prim.Native.Nat.{◌+◌, ◌<◌}

-- what was judged is the event
was : (c : In_ok-event) → c.args.judged ≡ Ok c.in_ok-event.event
was c = ok_back c.args.judged c.map_err.result _ c.map_err.ensures.cases c.map_err.ensures.variant c.in_ok-event.was

pub raw_size-size-requires : goal.raw_size-size-requires
raw_size-size-requires c = let t = subst (LetThrough c.args.bytes.now) (was (goal.at.raw_size-size-requires c).In_ok-event) c.requires in t.1

pub returns-then-out-size : goal.returns-then-out-size
returns-then-out-size c =
    let e = c.in_ok-event.event in
    let said = said_raw c.args.bytes.now c.args.judged e (was (goal.at.returns-then-out-size c).In_ok-event) c.requires in
    let raw = raw_event e.delta.0 (wire_of c.args.bytes.now e.raw) in
    let long : c.raw_size-size.result.length ≡ length (encode_raw_event c.args.running.status raw) = ap (λ (x : Size). x.length) c.raw_size-size.ensures in
    let full : length c.args.out.now < c.args.at + c.raw_size-size.result.length =
    elim c.then-out-size.branch [
      | then-out-size-via-then-out-size w ↦ omega arith
      | then-out-size-via-else-out-size+then-out-size-2 w ↦ omega arith
    ]
    in
    rw said (write_full c.args.running.status raw c.args.out.now c.args.at (omega (arith, long, full)))

pub put_raw-requires : goal.put_raw-requires
put_raw-requires c =
    let e = c.in_ok-event.event in
    let t = subst (LetThrough c.args.bytes.now) (was (goal.at.put_raw-requires c).In_ok-event) c.requires in
    let said = said_raw c.args.bytes.now c.args.judged e (was (goal.at.put_raw-requires c).In_ok-event) c.requires in
    let raw = raw_event e.delta.0 (wire_of c.args.bytes.now e.raw) in
    let long : c.raw_size-size.result.length ≡ length (encode_raw_event c.args.running.status raw) = ap (λ (x : Size). x.length) c.raw_size-size.ensures in
    (t.0, t.1, omega (arith, long, c.if-out-size-2.false, c.if-out-size.false))

pub returns-in_err-event : goal.returns-in_err-event
unfolding write_raw
returns-in_err-event c =
    let n = err_from_is_err_and c.from_residual.result c.from_residual.ensures.1 in
    let e = err_back c.args.judged c.map_err.result _ c.map_err.ensures.cases c.map_err.ensures.variant c.in_err-event.was in
    let same : c.in_err-event.field-0.0 ≡ record { refusal = e.0; running = c.args.running } = search (rules, e.2) in
    rw (n.1, n.2) (ap (λ (w : WriteRefused). wrote_event (Err w) c.args.out.now) same ∙ sym (ap (λ (j : Result RawEvent Refusal). write_raw c.args.running.status (judged_said c.args.bytes.now j) c.args.out.now c.args.at) e.1))

pub returns : goal.returns
returns c =
    let e = c.in_ok-event.event in
    let t = subst (LetThrough c.args.bytes.now) (was (goal.at.returns c).In_ok-event) c.requires in
    let said = said_raw c.args.bytes.now c.args.judged e (was (goal.at.returns c).In_ok-event) c.requires in
    let raw = raw_event e.delta.0 (wire_of c.args.bytes.now e.raw) in
    let long : c.raw_size-size.result.length ≡ length (encode_raw_event c.args.running.status raw) = ap (λ (x : Size). x.length) c.raw_size-size.ensures in
    let after : c.raw_size-size.result.running.status ≡ running_after raw.raw = ap (λ (x : Size). x.running) c.raw_size-size.ensures in
    rw (said, long, after) (write_put c.args.running.status raw c.args.out.now c.args.at (omega (arith, long, c.if-out-size-2.false, c.if-out-size.false)) _ c.put_raw.ensures)
