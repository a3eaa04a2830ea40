-- What making an event of a row answers, in the terms of the definitions.
use Rattle.event.specs.declared.TrackEvent.{TrackEvent}
use Rattle.base.specs.declared.Refusal.{Refusal}
use Rattle.std.specs.Prelude.{Result}
use Rattle.smf.specs.Answer.{Answer}
use Rattle.smf.specs.Place.{Span}
use Rattle.smf.specs.Event.{Event}
use Rattle.base.specs.Said.{said}
use Rattle.event.specs.Event.{event_of}

-- what each case of the answer says
abbrev pub row_answer : Result TrackEvent Refusal → Answer (Event Span)
row_answer = said event_of
