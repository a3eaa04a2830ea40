-- `own_bytes` meets its contract: of the five bytes the first two are used.
use mathlib.Core.Path.{ap, ◌∙◌}
use mathlib.Core.List.{List, [], ◌∷◌}
use Prim.Native.Nat.{ℕ}
use lib.Seq.{take-append-le}
use Rattle.smf.specs.Answer.{gives}
use Rattle.smf.specs.Wire.{typed}
use Rattle.write.proofs.make.own_bytes.Goals as goal

pub returns : goal.returns
returns c =
    λ bytes. c.fixed.ensures bytes ∙ ap (λ (l : List ℕ). gives (typed c.args.type_byte l)) (take-append-le c.args.n (c.args.a ∷ c.args.b ∷ []) (0 ∷ 0 ∷ 0 ∷ []) c.requires)
