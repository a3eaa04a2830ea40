-- `SmpteTime::read` meets its contract: a mask keeps the hour's five bits, a shift and a mask the rate code's two.
use mathlib.Core.Path.{◌∙◌}
use native.Mathlib.Nat.{mod-mod}
use lib.Bits.{and_mask}
use lib.ListN.{get_or}
use Rattle.smf.specs.Smpte.{time_of}
use Rattle.header.proofs.SmpteTime.read.Goals as goal

pub returns : goal.returns
unfolding time_of
returns c =
    let first = get_or c.args.bytes 0 0 in
    c.new-2.ensures ∙ rw (and_mask first 5, c.from_code-fps.ensures, c.new.ensures, mod-mod)
