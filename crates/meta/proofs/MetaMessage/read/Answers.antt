-- `MetaMessage::read` meets its contract: the type byte, the payload, and what it is called.
use Prim.Native.Nat.{◌+◌, ◌≤◌}
use mathlib.Core.Path.{◌≡◌, sym}
use native.Mathlib.Omega.{arith}
use lib.ListN.{length}
use Rattle.std.proofs.lemmas.Result.{err_from_is_err_and}
use Rattle.smf.specs.Answer.{gives}
use Rattle.smf.specs.Place.{payload_at}
use Rattle.smf.proofs.Answer.{said_of}
use Rattle.smf.proofs.MetaAt.{PayloadReached, payload_reached, meta_missing, meta_refused, meta_called}
use Rattle.base.specs.Rules.{rules_of}
use Rattle.number.specs.Payload.{payload_of}
use Rattle.meta.proofs.Called.{placed}
use Rattle.meta.proofs.MetaMessage.read.Goals as goal
use Rattle.meta.proofs.MetaMessage.read.Goals.{In_ok-load}

pub returns-in_default : goal.returns-in_default
returns-in_default c = sym (meta_missing (rules_of c.args.rules) c.args.raw.now c.args.at (omega (arith, c.in_default.ensures.lookup)))

-- the payload that was read is within the bytes
inside : (c : In_ok-load) → c.in_ok-load.load.range.start + c.in_ok-load.load.range.length ≤ length c.args.raw.now
inside c =
    let a = c.args in
    let sliced : payload_at (rules_of a.rules) a.raw.now (a.at + 1) ≡ gives (payload_of c.in_ok-load.load) = sym c.in_ok-load.ensures in
    (said_of (PayloadReached (rules_of a.rules) a.raw.now (a.at + 1)) (payload_reached (rules_of a.rules) a.raw.now (a.at + 1) (omega (arith, c.in-Some.ensures.lookup.3.0))) sliced).inside

pub returns-in_err-load : goal.returns-in_err-load
returns-in_err-load c =
    let a = c.args in
    let n = err_from_is_err_and c.from_residual.result c.from_residual.ensures.1 in
    rw (n.1, n.2) (sym (meta_refused (rules_of a.rules) a.raw.now a.at c.in-Some.ensures.lookup.3.0 (sym c.in_err-load.ensures)))

pub overflow_add-next : goal.overflow_add-next
overflow_add-next c = omega (arith, inside (goal.at.overflow_add-next c).In_ok-load)

pub slice_bounds-named-end : goal.slice_bounds-named-end
slice_bounds-named-end c = omega (arith, inside (goal.at.slice_bounds-named-end c).In_ok-load)

pub returns-in_err-message : goal.returns-in_err-message
returns-in_err-message c =
    let a = c.args in
    let n = err_from_is_err_and c.from_residual-in_err-message.result c.from_residual-in_err-message.ensures.1 in
    let type_byte = c.in-Some.ensures.lookup.3 in
    rw (n.1, n.2, meta_called (rules_of a.rules) a.raw.now a.at type_byte.0 (sym c.in_ok-load.ensures), ← type_byte.1 0)
    (placed (rules_of a.rules) a.raw.now c.in-Some.type_byte.now (payload_of c.in_ok-load.load) c.in_err-message.ensures)

pub returns : goal.returns
returns c =
    let a = c.args in
    let type_byte = c.in-Some.ensures.lookup.3 in
    rw (meta_called (rules_of a.rules) a.raw.now a.at type_byte.0 (sym c.in_ok-load.ensures), ← type_byte.1 0)
    (placed (rules_of a.rules) a.raw.now c.in-Some.type_byte.now (payload_of c.in_ok-load.load) c.in_ok-message.ensures)
