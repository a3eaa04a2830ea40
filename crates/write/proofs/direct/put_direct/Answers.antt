-- `put_direct` meets its contract: the message of the row's cells is put.
use mathlib.Core.Path.{◌≡◌, ap, ◌∙◌}
use native.Mathlib.Omega.{arith}
use Rattle.write.specs.Direct.{packed_of, message_at}
use Rattle.write.specs.declared.row_door.Data.{Data}
use Rattle.write.proofs.direct.put_direct.Goals as goal
use Rattle.write.proofs.direct.put_direct.Goals.{After-packed-c}

pub packed-c-requires : goal.packed-c-requires
packed-c-requires c =
    let p = c.requires.0 in
    let d = c.data_of-data.ensures in
    (p.high, p.channel, omega (arith, p.first, ap (λ (x : Data). x.a) d), omega (arith, p.second, ap (λ (x : Data). x.b) d))

-- the message that is made is the row's
same : (c : After-packed-c) → let a = c.args in c.packed-c.result ≡ message_at a.rows.now a.at
same c = c.packed-c.ensures ∙ ap (packed_of _ _) c.data_of-data.ensures

pub put_message-requires : goal.put_message-requires
put_message-requires c = let p = c.requires in (p.0.delta, rw (same (goal.at.put_message-requires c).After-packed-c) p.1)

pub returns : goal.returns
returns c = rw (same (goal.at.returns c).After-packed-c) at c.put_message.ensures
