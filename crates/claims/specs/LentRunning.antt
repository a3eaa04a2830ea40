-- `read_event` of `event`, to which the running status is lent as a struct. No reading of its contract by the checker is used here: the contract
-- itself, a statement in the program logic, is held to a plain one. So the claims that every input gets an answer, and that any two answers and
-- final running statuses are identical, speak of this function too.
use Rattle.event.specs.declared.read.EventRefused.{EventRefused}
use Rattle.event.specs.declared.read.EventAt.{EventAt}
use Rattle.std.specs.Prelude.{◌≡◌, List, ℕ, Result}
use seplogic.Ra.Ura.{Ura}
use base.Logic.{SProp, emp}
use contract.Monad.{Fun, fact}
use contract.Lifetimes.{Lfts}
use prog.Memory.{Memory}
use prog.Routine.{Routine}
use types.Logic.{Logic}
use denote.Triple.Entry.{Args, Res}
use denote.Triple.Clauses.{AtExit, ClausesAt}
use Rattle.smf.specs.Event.{event_at}
use Rattle.base.specs.Rules.{rules_of}
use Rattle.base.specs.declared.Rules.{Rules}
use Rattle.base.specs.declared.Running.{Running}
use Rattle.event.specs.Event.{event_read}
use Rattle.event.specs.Lent.{Leaves, read_running}
use Rattle.event.specs.contracts.running.read_event as read_event_lem
use Rattle.claims.specs.Calls.{first, second, third, fourth, ◌&◌}
use Rattle.claims.specs.Stands.{EventOrLeft}

-- `read_event(raw, at, running, rules)`: what is promised of its answer and of the running status at the end
abbrev pub Promised : List ℕ → ℕ → Running → Rules → Result EventAt EventRefused → Running → Type 0
Promised raw at running rules r after = Leaves (event_at (rules_of rules) running.status raw at) r after

-- a claim of the function's clauses, in every model of the program logic, at any lifetimes, arguments, answer and arguments at the end
abbrev pub OfClauses : ((M : Type 1) (𝓤 : Ura M) (κs : Lfts 2) → Args read_event_lem.signature κs → Res read_event_lem.signature κs → AtExit read_event_lem.ended κs
    → ClausesAt 𝓤 read_event_lem.ended κs → Type 2) → Type 2
OfClauses Claim =
    (M : Type 1) (𝓤 : Ura M) (𝓛 : Logic 𝓤) (mem : Memory → SProp 𝓤) (run : Routine → Fun 𝓤)
    (κs : Lfts 2) (a : Args read_event_lem.signature κs) (r : Res read_event_lem.signature κs) (e : AtExit read_event_lem.ended κs)
    → Claim M 𝓤 κs a r e (read_event_lem.clauses 𝓛 mem run κs a)

pub record LentRunning : Type 2 where
  -- it asks nothing of its caller, so that every input gets an answer
  pub asks : OfClauses (λ M 𝓤 κs a r e c. (g : c.ghost) → c.requires g ≡ emp 𝓤)
  -- and promises no more and no less than is said above
  pub promises : OfClauses (λ M 𝓤 κs a r e c. (g : c.ghost)
      → c.ensures g r e ≡ fact 𝓤 (Promised (first a).now (second a) (third a).now (fourth a) r (third e).now))
  -- any two answers that this permits, and what is lent at the end, are identical
  pub one_outcome : (raw : List ℕ) (at : ℕ) (running : Running) (rules : Rules) (y z : Result EventAt EventRefused) (d e : Running)
      → Promised raw at running rules y d → Promised raw at running rules z e → (y & d) ≡ (z & e)
  -- point 1: a refusal is one of 1 to 14, and leaves the running status that document 01 names
  pub leaves : (raw : List ℕ) (at : ℕ) (running : Running) (rules : Rules) (r : Result EventAt EventRefused) (after : Running) → Promised raw at running rules r after
      → EventOrLeft (rules_of rules) raw running.status at (event_read r) × (after.status ≡ read_running (event_read r))
