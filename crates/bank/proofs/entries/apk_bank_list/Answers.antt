-- `apk_bank_list` meets its contract: what `apk_list_read` ensures of the bytes of the track.
use mathlib.Core.Path.{refl}
use native.Mathlib.Omega.{arith}
use Rattle.loader.specs.Entry.{from_bits}
use Rattle.track.specs.List.{capacity}
use Rattle.bank.specs.Bank.{most_tracks}
use Rattle.bank.proofs.Answered.{said_within, said_unlisted, said_listed, range_bytes}
use Rattle.bank.proofs.entries.apk_bank_list.Goals as goal

pub overflow_add-track : goal.overflow_add-track
overflow_add-track c =
    let a = c.args in
    let t = c.bank_track in
    omega (arith, said_within most_tracks a.block.now a.index t.result t.ensures _ c.in-Ok.is)

pub slice_bounds-track-end : goal.slice_bounds-track-end
slice_bounds-track-end c =
    let a = c.args in
    let t = c.bank_track in
    said_within most_tracks a.block.now a.index t.result t.ensures _ c.in-Ok.is

pub returns-in-Err : goal.returns-in-Err
returns-in-Err c =
    let a = c.args in
    let t = c.bank_track in
    rw (said_unlisted most_tracks a.block.now a.index t.result t.ensures (from_bits a.bits) capacity _ c.in-Err.is) (record { answer = c.from.ensures; rows = refl; count = refl; place = refl; after = refl; padding = refl })

pub returns-in-Ok : goal.returns-in-Ok
returns-in-Ok c =
    let a = c.args in
    let t = c.bank_track in
    rw (said_listed most_tracks a.block.now a.index t.result t.ensures (from_bits a.bits) capacity _ c.in-Ok.is, ← range_bytes a.block.now c.in-Ok.range) c.apk_list_read.ensures
