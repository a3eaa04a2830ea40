-- `put_entries` meets its contract. The invariant: the entries that are left, put over what is there, are all of them put.
use mathlib.Core.Path.{ap, ◌∙◌}
use native.Mathlib.Omega.{arith}
use lib.ListN.{length}
use Rattle.smf.proofs.Write.{length_over}
use Rattle.bank.specs.Bank.{four_bytes, behind_entries}
use Rattle.bank.proofs.Rest.{rest_bound}
use Rattle.bank.proofs.Putting.{entries_more, entries_all}
use Rattle.bank.proofs.inside.Inside.put_entries.Goals as goal

pub put_wide-requires-in-loop-index : goal.put_wide-requires-in-loop-index
put_wide-requires-in-loop-index c =
    let l = c.loop-index in
    let e = l.invariant in
    let p = c.requires in
    let kept = ap length c.put_wide.ensures ∙ length_over (four_bytes l.place) l.out (behind_entries l.index) (omega (arith, e.kept, p.count_in_bounds)) in
    (omega (arith, rest_bound _ _ e.rest (record { start = 0; length = 0 }) c.loop-index-test.true, p.ranges_bound), omega (arith, kept, e.kept, p.count_in_bounds))

pub overflow_add-place-in-loop-index : goal.overflow_add-place-in-loop-index
overflow_add-place-in-loop-index c =
    record { fits = omega (arith, rest_bound _ _ c.loop-index.invariant.rest (record { start = 0; length = 0 }) c.loop-index-test.true, c.requires.ranges_bound) }

pub loop-index-preserved : goal.loop-index-preserved
loop-index-preserved c =
    entries_more _ _ _ c.requires.count_in_bounds c.loop-index.invariant (record { start = 0; length = 0 }) _ _ c.loop-index-test.true c.put_wide.ensures c.put_wide-in-loop-index.ensures

pub returns : goal.returns
returns c = entries_all _ _ _ c.requires.count_in_bounds c.loop-index.invariant c.loop-index-test.false
