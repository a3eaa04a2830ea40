-- A meta message read at a place, from its type byte on. Document 01, "Bytes of an event": a type, and a payload.
use Rattle.std.specs.Prelude.{List, [], ◌∷◌, ℕ, drop}
use Rattle.smf.specs.Answer.{Answer, gives, refuses, and_then, Rules}
use Rattle.smf.specs.Payload.{Payload, read_payload}
use Rattle.smf.specs.Place.{Span, place_of}
use Rattle.smf.specs.Kind.{Meta, called_meta}
use Rattle.smf.specs.Event.{map_meta, span_before}

-- a meta message that was read, the bytes after it, and the padding of its length
pub record MetaTaken : Type 0 where
  pub message : Meta (List ℕ)
  pub rest : List ℕ
  pub padding : ℕ

-- a payload that was read, called by its type
abbrev pub meta_named : Rules → ℕ → Payload → Answer MetaTaken
meta_named rules t p = and_then (called_meta rules t p.bytes) (λ m. gives (record { message = m; rest = p.rest; padding = p.padding }))

-- the meta message that the bytes begin with; 10 where no type byte stands
unfoldable pub read_meta_message : Rules → List ℕ → Answer MetaTaken
read_meta_message rules [] = refuses 10
read_meta_message rules (t ∷ s) = and_then (read_payload rules s) (meta_named rules t)

-- a meta message that was read at a place: its payload as start and length in the bytes lent, the place after it, and the padding of its length
pub record MetaAt : Type 0 where
  pub message : Meta Span
  pub next : ℕ
  pub padding : ℕ

-- a meta message that was read from a place on
abbrev pub meta_placed : List ℕ → ℕ → MetaTaken → MetaAt
meta_placed s at t =
    record { message = map_meta (span_before (place_of s at t.rest)) t.message; next = place_of s at t.rest; padding = t.padding }

-- the meta message at a place
unfoldable pub meta_at : Rules → List ℕ → ℕ → Answer MetaAt
meta_at rules s at = and_then (read_meta_message rules (drop at s)) (λ t. gives (meta_placed s at t))
