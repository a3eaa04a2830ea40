-- Point 3, of every list and buffer: a list is written exactly when it is legal and some bytes that fit read strictly as it; what is written
-- reads so, no bytes that do are fewer, and no other byte changes. No event's bytes begin with those of a different one.
use Rattle.write.specs.declared.answer.WriteRefused.{WriteRefused}
use Rattle.write.specs.declared.answer.Size.{Size}
use Rattle.write.specs.declared.answer.Past.{Past}
use Rattle.write.specs.declared.answer.ListRefused.{ListRefused}
use Rattle.std.specs.Prelude.{◌≡◌, List, [], ◌∷◌, ◌++◌, map, ◌↔◌, ℕ, ◌≤◌, ◌<◌, length, take, drop, Result}
use borrow.Fn.Kinds.{GoodsP}
use Rattle.smf.specs.Answer.{Answer, gives, Rules, strict_of}
use Rattle.smf.specs.Place.{Span}
use Rattle.smf.specs.Event.{Event, Carried, nothing, owned, untold, carries, Same}
use Rattle.smf.specs.Lists.{read_list, ReadsAs, records_judged, ended, ListHeld, wrote, refuses_at, ListWritten, write_list, SameList}
use Rattle.base.specs.Rules.{rules_of}
use Rattle.base.specs.declared.Rules as base
use Rattle.base.specs.declared.Running.{Running}
use Rattle.event.specs.Event.{event_of}
use Rattle.event.specs.declared.TrackEvent.{TrackEvent}
use Rattle.track.specs.List.{capacity, record_of}
use Rattle.track.specs.Read.{list_read_of}
use Rattle.track.specs.declared.list.EventList.{EventList}
use Rattle.track.specs.declared.read.ReadList.{ReadList}
use Rattle.rows.specs.RowLists.{rows_judged}
use Rattle.write.specs.Wrote.{wrote_event}
use Rattle.write.specs.ListAnswers.{wrote_list}
use Rattle.write.proofs.records.write_list as write_list_lem
use Rattle.claims.specs.Calls as shown
use Rattle.claims.specs.Calls.{Always, EventListRead, WriteEvent, WriteList, WriteRows}

-- numbers that are bytes
abbrev pub Bytes : List ℕ → Type 0
Bytes [] = Unit {0}
Bytes (b ∷ s) = (b < 256) × Bytes s

-- what events carry is bytes: a payload, and the type of an `Unknown`
abbrev pub BytesCarried : Carried (List ℕ) → Type 0
BytesCarried nothing = Unit {0}
BytesCarried (owned p) = Bytes p
BytesCarried (untold t p) = (t < 256) × Bytes p

abbrev pub CarryBytes : List (Event (List ℕ)) → Type 0
CarryBytes [] = Unit {0}
CarryBytes (e ∷ es) = BytesCarried (carries e.kind) × CarryBytes es

module _ (rules : Rules) (most running : ℕ) where
  -- document 01: bytes that read strictly as these events
  abbrev pub ReadsStrictly : List (Event (List ℕ)) → List ℕ → Type 0
  ReadsStrictly es s = ReadsAs (strict_of rules) most running s es

  module _ (judged : List (Answer (Event (List ℕ)))) (count : ℕ) (buffer : List ℕ) where
    -- no more events than may be, each legal, and some bytes that fit the buffer and read strictly as them: bytes, where what the events carry is
    abbrev pub Fits : Type 0
    Fits =
        (count ≤ most) × ((es : List (Event (List ℕ))) × (take count judged ≡ map gives es)
        × ((s : List ℕ) × (length s ≤ length buffer) × ReadsStrictly es s × (CarryBytes es → Bytes s)))

    -- what fits is a byte string: every element of it is below 256
    abbrev pub FitsAsBytes : Type 0
    FitsAsBytes =
        (es : List (Event (List ℕ))) × (take count judged ≡ map gives es) × ((s : List ℕ) × (length s ≤ length buffer) × ReadsStrictly es s × Bytes s)

    -- document 01: an accepted write gives its length and the running status after it, and writes no byte beyond
    pub record Accepted (w : ListWritten) (n : ℕ) : Type 0 where
      -- the events that count are legal
      pub events : List (Event (List ℕ))
      pub legal : take count judged ≡ map gives events
      -- what is written reads strictly as them
      pub reads : ReadsStrictly events (take n w.buffer)
      -- and ends in the same running status
      pub after : (read_list (strict_of rules) most running (take n w.buffer)).running ≡ w.running
      -- no bytes that read strictly as them are fewer
      pub shortest : (s : List ℕ) → ReadsStrictly events s → n ≤ length s
      -- no byte beyond changes
      pub long : length w.buffer ≡ length buffer
      pub beyond : drop n w.buffer ≡ drop n buffer

    -- what a write says of its answer, the buffer that it leaves and the running status after it
    pub record ListWriteSays (w : ListWritten) : Type 0 where
      -- it accepts exactly what fits
      pub accepts : ((n : ℕ) × (w.answer ≡ wrote n)) ↔ Fits
      pub accepted : (n : ℕ) → w.answer ≡ wrote n → Accepted w n
      -- document 01: a refused one changes nothing
      pub refused : (n i : ℕ) → w.answer ≡ refuses_at n i → (w.buffer ≡ buffer) × (w.running ≡ running)

-- it holds of the definition, whatever it is given, and whatever a list may hold
abbrev pub Writes : Type 0
Writes =
    (rules : Rules) (most running : ℕ) (bytes : List ℕ) (records : List (Event Span)) (count : ℕ) (buffer : List ℕ)
    → ListWriteSays rules most running (records_judged rules bytes records) count buffer (write_list most running (records_judged rules bytes records) count buffer)

-- what a list was read as: to the end of so many bytes, to a running status, and the same as other records over their payload bytes
pub record ReadBack (raw : List ℕ) (r : ListHeld) (n after : ℕ) (bytes : List ℕ) (records : List (Event Span)) (count : ℕ) : Type 0 where
  pub stop : r.stop ≡ ended
  pub place : r.place ≡ n
  pub status : r.running ≡ after
  pub same : SameList raw r.list.records r.list.count bytes records count

-- a call of `write_list` whose arguments are values of their types, as those of every call are: an array then has all its elements, and a `u8` is a byte
abbrev pub WriteOwnedList : (EventList → Running → base.Rules → List ℕ → List ℕ → Result Size ListRefused → List ℕ → Type 0) → Type 0
WriteOwnedList Claim =
    Always write_list_lem.Reads.Learnt
    (λ κs a r e. GoodsP κs write_list_lem.Kinds.ps a → shown.write_list_call Claim κs a r e)

-- a list that `write_list` wrote: what `EventList::read` reads of its bytes, by the same rules, strictly, and from the same running status
module _ (list : EventList) (running : Running) (rules : base.Rules) (bytes : List ℕ) (w : ListWritten) (n : ℕ) where
  abbrev pub ReadAgain : List ℕ → ℕ → Running → base.Rules → ReadList → Type 0
  ReadAgain raw at running' rules' r =
      raw ≡ take n w.buffer → at ≡ 0 → running' ≡ running → rules_of rules' ≡ strict_of (rules_of rules)
      → ReadBack raw (list_read_of r) n w.running bytes (map record_of list.records) list.count

-- an event whose bytes were written at the front of a buffer, and another whose bytes the first begin with, by the same rules, strict or not
module _ (e : TrackEvent) (running : Running) (rules : base.Rules) (bytes own : List ℕ) where
  abbrev pub NeverBegins : TrackEvent → Running → base.Rules → List ℕ → List ℕ → ℕ → Result Past WriteRefused → List ℕ → Type 0
  NeverBegins e' running' rules' bytes' out at r end =
      (n : ℕ) (more : List ℕ) → at ≡ 0 → running' ≡ running → strict_of (rules_of rules') ≡ strict_of (rules_of rules) → (wrote_event r end).written.answer ≡ gives n
      → own ≡ take n end ++ more → Same bytes (event_of e) bytes' (event_of e')

pub record Point3 : Type 0 where
  -- `write_list`, of whatever its promise permits: a list of at most as many events as may be
  pub writes : WriteList (λ list running rules bytes out r end.
      ListWriteSays (rules_of rules) capacity running.status (records_judged (rules_of rules) bytes (map record_of list.records)) list.count out (wrote_list r end))
  -- `write_rows` in the same way, of its rows as they are judged
  pub writes_rows : WriteRows (λ rows count running rules bytes out r end.
      ListWriteSays (rules_of rules) capacity running.status (rows_judged (rules_of rules) bytes count rows) count out (wrote_list r end))
  -- and what fits is a byte string, where the payload bytes are bytes
  pub bytes : WriteOwnedList (λ list running rules bytes out r end. (n : ℕ) → (wrote_list r end).answer ≡ wrote n → Bytes bytes
      → FitsAsBytes (rules_of rules) capacity running.status (records_judged (rules_of rules) bytes (map record_of list.records)) list.count out)
  pub bytes_rows : WriteRows (λ rows count running rules bytes out r end. (n : ℕ) → (wrote_list r end).answer ≡ wrote n → Bytes bytes
      → FitsAsBytes (rules_of rules) capacity running.status (rows_judged (rules_of rules) bytes count rows) count out)
  -- what `write_list` writes, `EventList::read` reads strictly as the same list, all bytes used, and ends in the same running status
  pub reads_back : WriteOwnedList (λ list running rules bytes out r end.
      (n : ℕ) → (wrote_list r end).answer ≡ wrote n → EventListRead (ReadAgain list running rules bytes (wrote_list r end) n))
  -- `write_event`, twice from one running status and by the same rules, each time at the front of a buffer: where the bytes of one event
  -- begin with those of the other, the events are the same, whatever bytes their payloads are in
  pub prefix_free : WriteEvent (λ e running rules bytes out at r end.
      (n : ℕ) → at ≡ 0 → (wrote_event r end).written.answer ≡ gives n
      → WriteEvent (NeverBegins e running rules bytes (take n end)))
