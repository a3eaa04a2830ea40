-- No two answers of `row_event` say the same.
use Rattle.event.specs.declared.TrackEvent.{TrackEvent}
use Rattle.base.specs.declared.Refusal.{Refusal}
use Rattle.std.specs.Prelude.{Result}
use mathlib.Core.Path.{◌≡◌}
use Rattle.base.proofs.Said.{said_injective}
use Rattle.event.specs.Event.{event_of}
use Rattle.event.proofs.Identical.{back_event, same_event}
use Rattle.rows.specs.RowAnswer.{row_answer}

pub row_answer_injective : {x y : Result TrackEvent Refusal} → row_answer x ≡ row_answer y → x ≡ y
row_answer_injective = said_injective event_of back_event same_event
