-- What a caller holds behind a call that hands out a value or says why not: the value, and that it was accepted; else an empty one, and why. The claims of
-- tables, lists and banks speak of both at once.
use Rattle.std.specs.Prelude.{replicate, Result, Ok, Err}
use Rattle.smf.specs.Answer.{Answer}
use Rattle.base.specs.Said.{said}
use Rattle.base.specs.declared.Refusal.{Refusal}
use Rattle.meta.specs.declared.MetaMessage.TheVariants as meta
use Rattle.event.specs.declared.TrackEventKind.TheVariants as kind
use Rattle.track.specs.List.{capacity}
use Rattle.track.specs.declared.list.EventList.{EventList}
use Rattle.track.specs.declared.cursor.Stop.TheVariants as stop
use Rattle.track.specs.declared.read.ReadList.{ReadList}
use Rattle.bank.specs.Bank.{most_tracks}
use Rattle.bank.specs.declared.Bank.{Bank}

-- a list of no events
abbrev pub no_events : EventList
no_events =
    record {
      records = replicate capacity (record { event = record { delta = record { 0 = 0 }; kind = kind.Meta meta.EndOfTrack } });
      count = 0;
    }

-- the list that `silence` hands out; after a refusal one of no events
abbrev pub list_handed : Result EventList Refusal → EventList
list_handed (Ok l) = l
list_handed (Err n) = no_events

-- accepted, or why not, in the terms of the definitions
abbrev pub verdict_of : Result (Unit {0}) Refusal → Answer (Unit {0})
verdict_of = said (λ x. x)

-- what `read_bank` hands out
pub record ReadBank : Type 0 where
  pub bank : Bank
  pub verdict : Result (Unit {0}) Refusal

-- the bank; after a refusal one of no tracks
abbrev pub bank_handed : Result Bank Refusal → ReadBank
bank_handed (Ok b) = record { bank = b; verdict = Ok tt }
bank_handed (Err n) = record { bank = record { tracks = replicate most_tracks (record { start = 0; length = 0 }); count = 0 }; verdict = Err n }

-- what `list_track` hands out
pub record ListedTrack : Type 0 where
  pub read : ReadList
  pub verdict : Result (Unit {0}) Refusal

-- what reading the track answers; after a refusal an empty list
abbrev pub track_handed : Result ReadList Refusal → ListedTrack
track_handed (Ok r) = record { read = r; verdict = Ok tt }
track_handed (Err n) =
    record {
      read = record { list = no_events; stop = stop.End; place = 0; running = record { status = 0 }; padding = 0 };
      verdict = Err n;
    }
