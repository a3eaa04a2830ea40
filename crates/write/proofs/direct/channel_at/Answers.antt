-- `channel_at` meets its contract: each test that it passes is one of the row's widths.
use mathlib.Core.Path.{◌≡◌, sym, ap, ◌∙◌}
use mathlib.Core.Bool.{true}
use Prim.Native.Nat.{◌+◌, ◌≤◌}
use native.Mathlib.Omega.{arith}
use lib.ListN.{length}
use borrow.Author.Rules.{rules}
use borrow.Author.Tests.{leb-true}
use Rattle.rows.specs.Rows.{width}
use Rattle.write.specs.Direct.{packed_of}
use Rattle.write.specs.declared.row_door.Data.{Data}
use Rattle.write.proofs.direct.channel_at.Goals as goal
use Rattle.write.proofs.direct.channel_at.Goals.{After-is_there}

-- the row is all there
there : (c : After-is_there) → c.is_there.result ≡ true → c.args.at + width ≤ length c.args.rows.now
there c h = leb-true _ _ (sym c.is_there.ensures ∙ h)

pub packed-requires : goal.packed-requires
packed-requires c = search rules

pub returns : goal.returns
returns c =
    let d = c.data_of-data.ensures in (
      record {
        there = there (goal.at.returns c).After-is_there c.if-not-is_there.false;
        delta = omega (arith, c.if-rows-at-ge268435456.false);
        low = omega (arith, c.if-number-lt8.false);
        high = omega (arith, c.if-number-ge15.false);
        channel = omega (arith, c.if-channel-ge16.false);
        first = omega (arith, ap (λ (x : Data). x.a) d, c.if-data-ge128.false);
        second = omega (arith, ap (λ (x : Data). x.b) d, c.if-data-ge128-2.false);
      },
      c.packed.ensures ∙ ap (packed_of _ _) d,
    )
