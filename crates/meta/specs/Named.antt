-- What a type and a payload are called, and what the function of one type finds.
use Rattle.base.specs.declared.Refusal.{Refusal}
use Rattle.meta.specs.declared.MetaMessage.{MetaMessage}
use Rattle.std.specs.Prelude.{List, ℕ, Option, Result, Some, None}
use Rattle.smf.specs.Answer.{Answer, Rules, and_then, gives}
use Rattle.smf.specs.Place.{Span}
use Rattle.smf.specs.Kind as kind
use Rattle.smf.specs.Event.{map_meta}
use Rattle.base.specs.Said.{said}
use Rattle.meta.specs.Meta.{meta_of}

-- what a payload of these bytes, which stands at a range of the bytes lent, is called under a type
abbrev pub called : Rules → ℕ → List ℕ → Span → Answer (kind.Meta Span)
called rules t p span = and_then (kind.called_meta rules t p) (λ m. gives (map_meta (λ q. span) m))

-- the message that was found, or an unknown one where the payload is too short for its type
abbrev pub found_or : ℕ → Span → Option MetaMessage → kind.Meta Span
found_or t span (Some m) = meta_of m
found_or t span None = kind.unknown t span

-- what the function of one type answers
abbrev pub found : ℕ → Span → Result (Option MetaMessage) Refusal → Answer (kind.Meta Span)
found t span = said (found_or t span)
