-- `counts` meets its contract: each channel is counted by itself.
use mathlib.Core.Path.{◌≡◌, sym, ◌∙◌}
use mathlib.Core.List.{[]}
use Prim.Native.Nat.{◌<◌}
use native.Mathlib.Omega.{arith}
use borrow.Author.Rules.{rules}
use lib.ListN.{length, get_or, length-map, get_or-map}
use lib.Seq.{ext_get_or}
use Rattle.player.specs.Table.{channels}
use Rattle.player.specs.Sounding.{sounding_count, counts}
use Rattle.player.proofs.table.counts.Goals as goal

pub returns : goal.returns
unfolding counts
returns c =
    let xs = c.map.ensures.items in
    let t = c.args.table in
    let long : length t ≡ channels = search rules in
    let own : length c.map.result ≡ channels = xs.long in
    ext_get_or (sounding_count []) _ _ (own ∙ sym (length-map t sounding_count ∙ long))
    (λ k less.
    let there : k < channels = omega arith in
    let call = (xs.at k [] (sounding_count []) there).2.met in
    let one : get_or c.map.result k (sounding_count []) ≡ sounding_count (get_or t k []) = search rules in
    one ∙ sym (get_or-map sounding_count t k []))
