use Rattle.bank.proofs.Putting.{TracksPut}
use Rattle.bank.proofs.inside.Inside.put_tracks.Given as goal

abbrev pub invariant-loop-range : goal.invariant-loop-range
invariant-loop-range l = TracksPut l.bytes l.ranges l.initial.out l.out l.place l.range-index
