use mathlib.Core.List.{map}
use Prim.Native.Nat.{◌≤◌}
use lib.ListN.{length}
use Rattle.track.specs.List.{record_of}
use Rattle.player.proofs.Steps.{Played}
use Rattle.player.proofs.notes.after.Given as goal

abbrev pub invariant-loop-kept : goal.invariant-loop-kept
invariant-loop-kept l = (l.fn.list.count ≤ length (map record_of l.fn.list.records)) × Played l.fn.table (map record_of l.fn.list.records) l.fn.list.count l.kept-index l.left
