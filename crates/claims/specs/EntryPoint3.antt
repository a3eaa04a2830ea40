-- Point 3 of the exported entries, which is what is linked: `apk_list_write` accepts exactly the lists that some bytes that fit read strictly as; what it
-- writes, `apk_list_read` reads strictly as the same list. No bytes that `apk_event_write` writes begin with those of a different event.
use Rattle.std.specs.Prelude.{◌≡◌, true, List, ◌++◌, ℕ, ◌*◌, ◌≤◌, length, take, drop}
use Rattle.smf.specs.Place.{Span}
use Rattle.smf.specs.Write.{over}
use Rattle.smf.specs.Event.{Event, Same}
use Rattle.smf.specs.Lists.{SameList}
use Rattle.track.specs.List.{capacity}
use Rattle.rows.specs.Rows.{width}
use Rattle.rows.specs.Sheet.{sheet_of}
use Rattle.rows.specs.RowEvent.{called_row}
use Rattle.rows.specs.RowLists.{rows_judged, called_rows}
use Rattle.loader.specs.Entry.{from_bits}
use Rattle.loader_track.proofs as loader_track
use Rattle.claims.specs.Calls.{Always, Lent}
use Rattle.claims.specs.EntryCalls.{event_write_entry, list_read_entry, list_write_entry}
use Rattle.claims.specs.EntrySays.{entry_list_left}
use Rattle.claims.specs.Point3.{Bytes, FitsAsBytes, ListWriteSays}

-- what `apk_list_read` handed out of so many bytes, to a running status: the rows of events that are the same, over the bytes that it read, as those
-- of other rows over theirs
pub record RowsBack (n after : ℕ) (payload rows : List ℕ) (count : ℕ) (raw : List ℕ) (cells : Lent (List ℕ)) (count' place after' : Lent ℕ) (r : ℕ) : Type 0 where
  -- to the end: all bytes are used
  pub ended : r ≡ 0
  pub reached : place.after ≡ n
  pub status : after'.after ≡ after
  pub events : List (Event Span)
  pub handed : cells.after ≡ over (sheet_of events) cells.before 0
  pub many : count'.after ≡ count
  pub same : SameList raw events (length events) payload (called_rows count rows) count

-- rows that `apk_list_write` wrote: what `apk_list_read` reads of their bytes, strictly, from the same running status and into cells enough
module _ (rows : List ℕ) (count : ℕ) (payload : List ℕ) (running : ℕ) (out : Lent (List ℕ)) (long after : Lent ℕ) where
  abbrev pub RowsAgain : List ℕ → ℕ → ℕ → ℕ → Lent (List ℕ) → Lent ℕ → Lent ℕ → Lent ℕ → Lent ℕ → ℕ → Type 0
  RowsAgain raw at running' bits' cells count' place after' padding r =
      raw ≡ take long.after out.after → at ≡ 0 → running' ≡ running → (from_bits bits').strict ≡ true → count * width ≤ length cells.before
      → RowsBack long.after after.after payload rows count raw cells count' place after' r

-- a row whose event's bytes were written from a running status, and another whose bytes the first begin with
module _ (row payload : List ℕ) (running : ℕ) (own : List ℕ) where
  abbrev pub RowNeverBegins : List ℕ → List ℕ → ℕ → ℕ → Lent (List ℕ) → ℕ → Lent ℕ → Lent ℕ → ℕ → Type 0
  RowNeverBegins row' payload' running' bits' out' at' next' after' r' =
      (more : List ℕ) → r' ≡ 0 → running' ≡ running → own ≡ drop at' (take next'.after out'.after) ++ more → Same payload (called_row row) payload' (called_row row')

pub record EntryPoint3 : Type 0 where
  -- `apk_list_write`, of whatever its promise permits: accepted exactly when each row is a legal event and some bytes that fit the room read strictly as
  -- that list; what is written reads so and ends in the same running status, and no shorter bytes do
  pub list_write : Always loader_track.list_write.apk_list_write.Reads.Learnt (list_write_entry (λ rows count payload running bits out long after index r.
      ListWriteSays (from_bits bits) capacity running (rows_judged (from_bits bits) payload count rows) count out.before (entry_list_left out long after index r)))
  -- and what fits is a byte string, where the payload bytes are bytes
  pub bytes : Always loader_track.list_write.apk_list_write.Reads.Learnt (list_write_entry (λ rows count payload running bits out long after index r.
      r ≡ 0 → Bytes payload → FitsAsBytes (from_bits bits) capacity running (rows_judged (from_bits bits) payload count rows) count out.before))
  -- what it writes, `apk_list_read` reads strictly as the same list, and ends in the same running status
  pub reads_back : Always loader_track.list_write.apk_list_write.Reads.Learnt (list_write_entry (λ rows count payload running bits out long after index r.
      r ≡ 0 → Always loader_track.list_read.apk_list_read.Reads.Learnt (list_read_entry (RowsAgain rows count payload running out long after))))
  -- `apk_event_write`, twice from one running status, each time at any place of a buffer, and strictly or not: where the bytes of one event begin with
  -- those of the other, the events are the same, whatever bytes their payloads are in
  pub prefix_free : Always loader_track.events.apk_event_write.Reads.Learnt (event_write_entry (λ row payload running bits out at next after r.
      r ≡ 0 → Always loader_track.events.apk_event_write.Reads.Learnt (event_write_entry (RowNeverBegins row payload running (drop at (take next.after out.after))))))
