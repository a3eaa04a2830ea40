use mathlib.Core.List.{map}
use Prim.Native.Nat.{◌≤◌, ◌*◌}
use lib.ListN.{length}
use Rattle.track.specs.List.{record_of}
use Rattle.rows.specs.Rows.{width}
use Rattle.player.proofs.Laying.{LaidRows}
use Rattle.player.proofs.entries.put_rows.Given as goal

abbrev pub invariant-loop-index : goal.invariant-loop-index
invariant-loop-index l =
    (there : l.fn.list.count ≤ length (map record_of l.fn.list.records)) × (room : l.fn.list.count * width ≤ length l.initial.rows) × LaidRows (map record_of l.fn.list.records) l.fn.list.count l.initial.rows there room l.rows l.index
