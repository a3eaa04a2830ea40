-- The promises of sameness permit one answer alone, and one number behind the pointer.
use mathlib.Core.Path.{◌≡◌, sym, ap, ◌∙◌}
use Prim.Native.Nat.{ℕ}
use Rattle.smf.specs.Answer.{Answer, gives, refuses}
use Rattle.same.proofs.Identical.{tells_identical}
use Rattle.loader_track.specs.Same.{yes, Told, Handed}

told_identical : (Rule : Type 0) (r q : ℕ) → Told r Rule → Told q Rule → r ≡ q
told_identical Rule r q s t = s.1.0 ∙ ap yes (tells_identical Rule s.0 t.0 s.1.1 t.1.1) ∙ sym t.1.0

pub handed_identical : (asked : Answer (Unit {0})) (Rule : Type 0) (r r' before after after' : ℕ) → Handed r before after asked Rule → Handed r' before after' asked Rule → (r ≡ r') × (after ≡ after')
handed_identical (gives u) Rule r r' before after after' x y = (x.0 ∙ sym y.0, told_identical Rule after after' x.1 y.1)
handed_identical (refuses n) Rule r r' before after after' x y = (x.0 ∙ sym y.0, x.1 ∙ sym y.1)
