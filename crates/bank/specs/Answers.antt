-- What the functions of this crate answer, in the terms of the definitions.
use Rattle.base.specs.declared.Refusal.{Refusal}
use Rattle.std.specs.Prelude.{List, [], ◌++◌, map, ℕ, ◌-◌, length, replicate, Err, Ok, Result}
use Rattle.smf.specs.Answer.{Answer, gives, refuses}
use Rattle.smf.specs.Place.{Span}
use Rattle.smf.specs.Write.{Written}
use Rattle.smf.specs.Event.{no_span}
use Rattle.smf.specs.Lists.{ended, ListAt, holding, ListHeld, held_as}
use Rattle.base.specs.Refusal.{number_of}
use Rattle.base.specs.Said.{said}
use Rattle.base.specs.declared.Range.{Range}
use Rattle.meta.specs.Meta.{span_of}
use Rattle.track.specs.List.{capacity}
use Rattle.track.specs.Read.{list_read_of}
use Rattle.track.specs.declared.read.ReadList.{ReadList}
use Rattle.bank.specs.Bank.{most_tracks}
use Rattle.bank.specs.declared.Bank.{Bank}

-- a bank that was read, as it is held: as many ranges as a bank may have, and how many of them are its tracks'
pub record BankHeld : Type 0 where
  pub tracks : List Span
  pub count : ℕ

-- the ranges of its tracks first, and behind them start 0 and length 0
unfoldable pub held_tracks : ℕ → List Span → BankHeld
held_tracks most tracks = record { tracks = tracks ++ replicate (most - length tracks) no_span; count = length tracks }

-- the ranges that an array of the code holds
abbrev pub spans_of : List Range → List Span
spans_of ranges = map span_of ranges

-- a bank of the code
abbrev pub bank_of : Bank → BankHeld
bank_of b = record { tracks = spans_of b.tracks; count = b.count }

-- what reading a bank answers: the bank, and that it was accepted; else a bank of no tracks, and why
pub record BankAnswer : Type 0 where
  pub bank : BankHeld
  pub verdict : Answer (Unit {0})

-- by the ranges of the tracks, where it is a bank
unfoldable pub bank_answer : ℕ → Answer (List Span) → BankAnswer
bank_answer most (gives tracks) = record { bank = held_tracks most tracks; verdict = gives tt }
bank_answer most (refuses n) = record { bank = held_tracks most []; verdict = refuses n }

-- what `read_bank` answers; a refusal hands out no bank, and says one of no tracks
abbrev pub bank_read : Result Bank Refusal → BankAnswer
bank_read (Ok b) = record { bank = bank_of b; verdict = gives tt }
bank_read (Err n) = record { bank = held_tracks most_tracks []; verdict = refuses (number_of n) }

-- what `bank_track` answers
abbrev pub bank_track : Result Range Refusal → Answer Span
bank_track = said span_of

-- what listing a track answers: the list, and that it was accepted; else an empty list, and why
pub record ListAnswer : Type 0 where
  pub list : ListHeld
  pub verdict : Answer (Unit {0})

-- a list of no bytes
abbrev pub empty_list : ℕ → ListHeld
empty_list events = record { list = holding events []; stop = ended; place = 0; running = 0; padding = 0 }

-- by the list, where there is such a track
unfoldable pub list_answer : ℕ → Answer ListAt → ListAnswer
list_answer events (gives l) = record { list = held_as events l; verdict = gives tt }
list_answer events (refuses n) = record { list = empty_list events; verdict = refuses n }

-- what `list_track` answers; a refusal hands out no list, and says an empty one
abbrev pub listed_track : Result ReadList Refusal → ListAnswer
listed_track (Ok r) = record { list = list_read_of r; verdict = gives tt }
listed_track (Err n) = record { list = empty_list capacity; verdict = refuses (number_of n) }

-- what `write_bank` answers: the total
abbrev pub bank_wrote : Result ℕ Refusal → Answer ℕ
bank_wrote = said (λ n. n)

-- and that, with what the buffer holds at the end
abbrev pub bank_left : Result ℕ Refusal → List ℕ → Written
bank_left r buffer = record { buffer = buffer; answer = bank_wrote r }
