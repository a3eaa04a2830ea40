-- The contract of `read_event` is the plain one by computation; the plain one answers the definition of an event that is read.
use mathlib.Core.Path.{refl, sym, ap, ◌∙◌, subst}
use Rattle.base.specs.Rules.{rules_of}
use Rattle.event.specs.Lent.{read_running}
use Rattle.event.proofs.IdenticalRunning.{leaves_identical}
use Rattle.claims.specs.Stands.{EventOrLeft}
use Rattle.claims.specs.LentRunning.{LentRunning}
use Rattle.claims.proofs.Agree.{joined}
use Rattle.claims.proofs.ReadLeaves.{event_or_left}

pub lent_running : LentRunning
lent_running =
    record {
      asks = λ M 𝓤 𝓛 mem run κs a r e g. refl;
      promises = λ M 𝓤 𝓛 mem run κs a r e g. refl;
      one_outcome = λ raw at running rules y z d e p q. joined (leaves_identical p q);
      leaves = λ raw at running rules r after p. (
        subst (EventOrLeft (rules_of rules) raw running.status at) (sym p.0) (event_or_left (rules_of rules) raw running.status at),
        p.1 ∙ sym (ap read_running p.0),
      );
    }
