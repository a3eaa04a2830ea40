-- Any two answers that the promise permits are identical, and so is what stands behind the reference at the end.
use Rattle.std.specs.Prelude.{Result}
use Rattle.event.specs.declared.read.EventRefused.{EventRefused}
use Rattle.event.specs.declared.read.EventAt.{EventAt}
use mathlib.Core.Path.{◌≡◌, sym, ap, ap₂, ◌∙◌}
use Prim.Native.Nat.{ℕ}
use Rattle.smf.specs.Event.{ReadAt}
use Rattle.base.specs.declared.Running.{Running}
use Rattle.event.proofs.Identical.{event_read_injective}
use Rattle.event.specs.Lent.{Leaves}
use Rattle.event.specs.declared.running.Step.{Step}

pub leaves_identical : {reading : ReadAt} {x y : Result EventAt EventRefused} {running running' : Running} → Leaves reading x running → Leaves reading y running' → (x ≡ y) × (running ≡ running')
leaves_identical p q = (event_read_injective (p.0 ∙ sym q.0), ap (λ (n : ℕ). record { status = n }) (p.1 ∙ sym q.1))

pub step_identical : {reading : ReadAt} {x y : Step} → Leaves reading x.read x.running → Leaves reading y.read y.running → x ≡ y
step_identical {reading} {x} {y} p q =
    let same : (x.read ≡ y.read) × (x.running ≡ y.running) = leaves_identical p q in ap₂ (λ (r : Result EventAt EventRefused) (after : Running). record { read = r; running = after }) same.0 same.1
