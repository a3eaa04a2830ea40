-- `fixed` meets its contract.
use mathlib.Core.Path.{◌≡◌}
use native.Mathlib.Omega.{arith}
use borrow.Author.Rules.{rules}
use borrow.Author.Tests.{le-leb}
use lib.ListN.{length}
use Rattle.write.specs.Raw.{is_sound, wire_of}
use Rattle.write.proofs.make.fixed.Goals as goal

pub returns : goal.returns
unfolding is_sound wire_of
returns c =
    let room : length c.args.own ≡ 5 = search rules in
    λ bytes. rw (le-leb c.args.n 5 c.requires, le-leb c.args.n (length c.args.own) (omega (arith, room, c.requires)))
