-- What reading a payload answers, in the terms of the definitions.
use Rattle.base.specs.declared.Refusal.{Refusal}
use Rattle.std.specs.Prelude.{Result}
use Rattle.smf.specs.Answer.{Answer}
use Rattle.smf.specs.Place.{PayloadAt}
use Rattle.base.specs.Said.{said}
use Rattle.number.specs.declared.payload.Payload.{Payload}

-- a payload as its start and length, and the padding of its number
abbrev pub payload_of : Payload → PayloadAt
payload_of p = record { span = record { start = p.range.start; length = p.range.length }; padding = p.padding }

-- what `read_varlen_slice` answers
abbrev pub slice_read : Result Payload Refusal → Answer PayloadAt
slice_read = said payload_of
