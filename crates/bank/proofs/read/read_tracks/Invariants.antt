use Prim.Native.Nat.{◌≤◌}
use Rattle.bank.specs.Bank.{most_tracks}
use Rattle.bank.proofs.Gaps.{Walked}
use Rattle.bank.proofs.read.read_tracks.Given as goal

abbrev pub invariant-loop-index : goal.invariant-loop-index
invariant-loop-index l = (few : l.count ≤ most_tracks) × Walked most_tracks l.count few l.block l.tracks l.place l.index
