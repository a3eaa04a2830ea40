-- A list that was written, read again: strictly, from the same running status, and whatever its events were made of.
use mathlib.Core.Path.{◌≡◌, ap, ◌∙◌}
use mathlib.Core.List.{List, map}
use Prim.Native.Nat.{ℕ}
use native.Mathlib.Omega.{arith}
use lib.ListN.{length, take}
use lib.Seq.{length-take-le}
use Rattle.smf.specs.Place.{bytes_of}
use Rattle.smf.specs.Answer.{Answer, gives, Rules, strict_of}
use Rattle.smf.specs.Event.{Event, map_event}
use Rattle.smf.specs.Lists.{ListAt, ended, list_at, wrote, ListWritten, write_list}
use Rattle.smf.proofs.Lists.{list_ended}
use Rattle.smf.proofs.ListLegality.{Lawful}
use Rattle.smf.proofs.ListPlaces.{list_reached}
use Rattle.smf.proofs.ListWrites.{write_wrote}
use Rattle.claims.proofs.Point3.{unpadded, list_write_says}

module _ (rules : Rules) (most running : ℕ) (judged : List (Answer (Event (List ℕ)))) (count : ℕ) (out : List ℕ) (n : ℕ) where
  abbrev pub left : ListWritten
  left = write_list most running judged count out

  abbrev pub own : List ℕ
  own = take n left.buffer

  abbrev pub read : ListAt
  read = list_at (strict_of rules) most running own 0

  -- the events that count, as they were judged and as they are read, to the end and to the same running status, with no padding
  pub record Again : Type 0 where
    pub events : List (Event (List ℕ))
    pub legal : take count judged ≡ map gives events
    pub there : map (map_event (bytes_of own)) read.events ≡ events
    pub stop : read.stop ≡ ended
    pub place : read.place ≡ n
    pub status : read.running ≡ left.running
    pub padding : read.padding ≡ 0

  pub again : Lawful rules judged → left.answer ≡ wrote n → Again
  unfolding list_at
  again lawful e =
      let a = (list_write_says rules most running judged lawful count out).accepted n e in
      let size : length own ≡ n = length-take-le n left.buffer (omega (arith, a.long, (write_wrote most running judged count out n e).room)) in
      let end = list_ended (strict_of rules) most running own a.reads.all in
      record {
        events = a.events;
        legal = a.legal;
        there = (list_reached (strict_of rules) most running own 0).events ∙ a.reads.events;
        stop = a.reads.all;
        place = omega (arith, size, ap length end);
        status = a.after;
        padding = unpadded rules most running judged lawful count out n e;
      }
