-- `write_bank` meets its contract: the tests in their order, then the four parts one behind the other.
use mathlib.Core.Path.{◌≡◌, sym, ap, ◌∙◌}
use mathlib.Core.Bool.{true}
use Prim.Native.Nat.{◌≤◌}
use native.Mathlib.Omega.{arith}
use borrow.Author.Rules.{rules}
use lib.ListN.{length, take, length-map}
use lib.Seq.{length-take-le}
use Rattle.std.proofs.lemmas.List.{take-map}
use Rattle.std.proofs.lemmas.Result.{err_from_is_err_and}
use Rattle.smf.specs.Write.{left}
use Rattle.meta.specs.Meta.{span_of}
use Rattle.bank.specs.Bank.{most_tracks, most_bytes, bank_length}
use Rattle.bank.specs.Write.{all_inside, tracks_of}
use Rattle.bank.specs.Answers.{spans_of, bank_wrote}
use Rattle.bank.proofs.Measured.{measured_large, measured_small}
use Rattle.bank.proofs.Written.{write_many, write_outside, write_above, write_full, write_put}
use Rattle.bank.proofs.writing.write_bank.Goals as goal
use Rattle.bank.proofs.writing.write_bank.Goals.{After-total, In_ok-size}

pub returns-then-count-gt-TRACKS : goal.returns-then-count-gt-TRACKS
returns-then-count-gt-TRACKS c = let a = c.args in write_many most_tracks a.bytes.now (spans_of a.ranges) a.count a.out.now (omega arith)

pub returns-then-not-are_inside : goal.returns-then-not-are_inside
returns-then-not-are_inside c =
    let a = c.args in
    write_outside most_tracks a.bytes.now (spans_of a.ranges) a.count a.out.now (omega arith) (ap (all_inside a.bytes.now) (take-map span_of a.count a.ranges) ∙ sym c.are_inside.ensures ∙ c.if-not-are_inside.true)

-- past the test of the ranges: they are inside the bytes
inside : (c : After-total) → let a = c.args in all_inside a.bytes.now (take a.count (spans_of a.ranges)) ≡ true
inside c = let a = c.args in ap (all_inside a.bytes.now) (take-map span_of a.count a.ranges) ∙ sym c.are_inside.ensures ∙ c.if-not-are_inside.false

pub returns-in_err-size : goal.returns-in_err-size
returns-in_err-size c =
    let a = c.args in
    let p = err_from_is_err_and c.from_residual.result c.from_residual.ensures.1 in
    let large = rw (← take-map span_of a.count a.ranges) at (measured_large _ c.total.ensures (ap bank_wrote c.in_err-size.was)) in
    rw (p.1, p.2) (ap (left a.out.now) large.0 ∙ write_above most_tracks a.bytes.now (spans_of a.ranges) a.count a.out.now (omega arith) (inside (goal.at.returns-in_err-size c).After-total) large.1)

-- and their bank has so many bytes, not above the most
sized : (c : In_ok-size) → let a = c.args in let long = bank_length (tracks_of a.bytes.now (take a.count (spans_of a.ranges))) in (long ≡ c.in_ok-size.size) × (long ≤ most_bytes)
sized c = rw (← take-map span_of c.args.count c.args.ranges) at (measured_small _ c.total.ensures (ap bank_wrote c.in_ok-size.was))

pub returns-then-out-size : goal.returns-then-out-size
returns-then-out-size c =
    let a = c.args in
    let g = goal.at.returns-then-out-size c in
    let long = sized g.In_ok-size in
    write_full most_tracks a.bytes.now (spans_of a.ranges) a.count a.out.now (omega arith) (inside g.After-total) long.1 (omega (arith, long.0))

pub returns : goal.returns
returns c =
    let a = c.args in
    let g = goal.at.returns c in
    let long = sized g.In_ok-size in
    let room : length a.ranges ≡ most_tracks = search rules in
    let few : a.count ≤ length a.ranges = omega arith in
    write_put most_tracks a.bytes.now (spans_of a.ranges) a.count a.out.now (omega arith) (inside g.After-total) long.1 (omega (arith, length-map a.ranges span_of)) (omega (arith, long.0)) _ long.0
    _ _ _ _ c.put_wide.ensures c.put_wide-2.ensures
    (rw (← take-map span_of a.count a.ranges, length-take-le a.count a.ranges few) at c.put_entries.ensures)
    (rw (← take-map span_of a.count a.ranges, length-take-le a.count a.ranges few) at c.put_tracks.ensures)
