-- `put_tracks` meets its contract. The invariant: the tracks that are left, put over what is there, are all of them put.
use native.Mathlib.Omega.{arith}
use Rattle.bank.proofs.Rest.{rest_bound}
use Rattle.bank.proofs.Putting.{tracks_there, tracks_more, tracks_all}
use Rattle.bank.proofs.inside.Inside.put_tracks.Goals as goal

pub unwrap-place-requires : goal.unwrap-place-requires
unwrap-place-requires c =
    rw (tracks_there _ _ _ c.requires.ranges_in_bounds c.loop-range.invariant (record { start = 0; length = 0 }) _ _ c.loop-range-test.true c.write_slice.ensures)

pub overflow_add-place-in-loop-range : goal.overflow_add-place-in-loop-range
overflow_add-place-in-loop-range c =
    record { fits = omega (arith, rest_bound _ _ c.loop-range.invariant.rest (record { start = 0; length = 0 }) c.loop-range-test.true, c.requires.ranges_bound) }

pub loop-range-preserved : goal.loop-range-preserved
loop-range-preserved c =
    tracks_more _ _ _ c.requires.ranges_in_bounds c.loop-range.invariant (record { start = 0; length = 0 }) _ c.loop-range-test.true c.write_slice.ensures

pub returns : goal.returns
returns c = tracks_all _ _ _ c.requires.ranges_in_bounds c.loop-range.invariant c.loop-range-test.false
