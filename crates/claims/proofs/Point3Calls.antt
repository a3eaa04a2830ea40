-- Point 3, proved of whatever the promises permit: what they say is the definitions', of which it holds.
use Rattle.write.specs.declared.answer.WriteRefused.{WriteRefused}
use Rattle.write.specs.declared.answer.Size.{Size}
use Rattle.write.specs.declared.answer.Past.{Past}
use Rattle.write.specs.declared.answer.ListRefused.{ListRefused}
use Rattle.std.specs.Prelude.{Err, Ok, Result}
use mathlib.Core.Path.{◌≡◌, refl, sym, ap, ◌∙◌, subst}
use mathlib.Core.Bool.{true}
use mathlib.Core.List.{List, ◌++◌, map}
use Prim.Native.Nat.{ℕ, ◌-◌}
use native.Mathlib.Omega.{arith}
use lib.ListN.{length, take, replicate, length-map}
use lib.Seq.{take-append_seam, length-take-le}
use Rattle.smf.specs.Answer.{Answer, Rules, strict_of, gives}
use Rattle.smf.specs.Running.{is_running}
use Rattle.smf.specs.Place.{Span, bytes_of}
use Rattle.smf.specs.Write.{over}
use Rattle.smf.specs.Event.{Event, map_event, Same, legal, encode_event, EventWritten, write_event}
use Rattle.smf.specs.Lists.{records_judged, listed, ListAt, list_at, filler, holding, held_as, ListHeld, wrote, ListWritten, write_list, counted}
use Rattle.smf.proofs.Event as smf
use Rattle.smf.proofs.Legal.{is_legal, legal_strictly}
use Rattle.smf.proofs.ListLegality.{given_itself, records_lawful, records_themselves}
use Rattle.smf.proofs.ListWrites.{write_wrote, front_own}
use Rattle.base.specs.Rules.{rules_of}
use Rattle.base.specs.declared.Rules as base
use Rattle.base.specs.declared.Running.{Running}
use Rattle.event.specs.Event.{event_of}
use Rattle.event.specs.declared.TrackEvent.{TrackEvent}
use Rattle.track.specs.List.{capacity, record_of}
use Rattle.track.specs.Read.{list_read_of}
use Rattle.track.specs.declared.list.EventList.{EventList}
use Rattle.rows.specs.RowLists.{rows_judged}
use Rattle.write.specs.Wrote.{wrote_event}
use Rattle.write.specs.ListAnswers.{wrote_list}
use Rattle.claims.specs.Point3.{Bytes, FitsAsBytes, ListWriteSays, ReadBack, ReadAgain, NeverBegins, Point3}
use Rattle.claims.specs.Calls.{EventListRead, WriteEvent}
use Rattle.claims.proofs.Calls as calls
use Rattle.claims.proofs.Point3.{rows_lawful, list_write_says, writes}
use Rattle.claims.proofs.Refusals.{legal_by}
use Rattle.claims.proofs.Carried.{TypeBytes, records_carry, rows_carry, fits_as_bytes}
use Rattle.claims.proofs.Owned.{full_list, list_types}
use Rattle.claims.proofs.EventWrites.{event_wrote}
use Rattle.claims.proofs.ReadAgain as read_again
use Rattle.claims.proofs.ReadAgain.{left, own, read, Again}

-- what the answer's meaning says of the buffer at the end
pub event_end : (r : Result Past WriteRefused) (end : List ℕ) → (wrote_event r end).written.buffer ≡ end
event_end (Ok p) end = refl
event_end (Err n) end = refl

pub list_end : (r : Result Size ListRefused) (end : List ℕ) → (wrote_list r end).buffer ≡ end
list_end (Ok s) end = refl
list_end (Err n) end = refl

-- a list of records that was written, read again
module _ (rules : Rules) (running : ℕ) (bytes : List ℕ) (records : List (Event Span)) (count : ℕ) (out : List ℕ) (n : ℕ)
    (e : (write_list capacity running (records_judged rules bytes records) count out).answer ≡ wrote n) where
  abbrev judged : List (Answer (Event (List ℕ)))
  judged = records_judged rules bytes records

  abbrev raw : List ℕ
  raw = own rules capacity running judged count out n

  abbrev there : ListAt
  there = read rules capacity running judged count out n

  back_again : Again rules capacity running judged count out n
  back_again = read_again.again rules capacity running judged count out n (records_lawful rules bytes records) e

  -- the events of the records that were read are those that were written
  events : map (map_event (bytes_of raw)) there.events ≡ listed bytes records count
  events = back_again.there ∙ records_themselves rules bytes count records back_again.events back_again.legal

  as_many : length records ≡ capacity → length there.events ≡ count
  as_many full =
      let few = (write_wrote capacity running judged count out n e).few in
      let a : length there.events ≡ length (listed bytes records count) = sym (length-map there.events (map_event (bytes_of raw))) ∙ ap length events in
      let b : length (listed bytes records count) ≡ length (take count records) = length-map (take count records) (map_event (bytes_of bytes)) in
      a ∙ b ∙ length-take-le count records (omega (arith, few))

  same : length records ≡ capacity → counted raw (holding capacity there.events).records (holding capacity there.events).count ≡ counted bytes records count
  unfolding holding
  same full = rw (take-append_seam there.events (replicate (capacity - length there.events) filler), events, as_many full)

  read_back : length records ≡ capacity → ReadBack raw (held_as capacity there) n (left rules capacity running judged count out n).running bytes records count
  read_back full = record { stop = back_again.stop; place = back_again.place; status = back_again.status; same = same full }

-- two events that were written at the front of their buffers
module _ (running : ℕ) (rules rules' : Rules) (bytes bytes' : List ℕ) (e e' : Event Span) (out out' : List ℕ) (n n' : ℕ)
    (h : (write_event running (legal rules bytes e) out 0).written.answer ≡ gives n) (h' : (write_event running (legal rules' bytes' e') out' 0).written.answer ≡ gives n') (alike : strict_of rules' ≡ strict_of rules) where
  -- an accepted event, and its own bytes in front
  wrote_front : (rules : Rules) (bytes : List ℕ) (e : Event Span) (out : List ℕ) (n : ℕ) → (write_event running (legal rules bytes e) out 0).written.answer ≡ gives n
      → (is_running running ≡ true) × (is_legal rules (map_event (bytes_of bytes) e) ≡ true) × (take n (write_event running (legal rules bytes e) out 0).written.buffer ≡ encode_event running (map_event (bytes_of bytes) e))
  wrote_front rules bytes e out n h =
      let a = event_wrote running (legal rules bytes e) (legal_by rules bytes e) out 0 n h in
      let g = given_itself rules bytes e a.event a.legal in
      let own = encode_event running a.event in
      let z : n ≡ length own = omega (arith, a.size) in
      (a.valid, subst (λ (x : Event (List ℕ)). is_legal rules x ≡ true) g.0 g.1, ap (take n) a.own ∙ ap (λ (k : ℕ). take k (over own out 0)) z ∙ front_own own out ∙ ap (encode_event running) g.0)

  never_begins : (more : List ℕ) → take n (write_event running (legal rules bytes e) out 0).written.buffer ≡ take n' (write_event running (legal rules' bytes' e') out' 0).written.buffer ++ more
      → Same bytes e bytes' e'
  never_begins more q =
      let a = wrote_front rules bytes e out n h in
      let a' = wrote_front rules' bytes' e' out' n' h' in
      smf.prefix_free (strict_of rules) running (map_event (bytes_of bytes) e) (map_event (bytes_of bytes') e') more a.0 (legal_strictly rules _ ∙ a.1)
      (subst (λ (r : Rules). is_legal r (map_event (bytes_of bytes') e') ≡ true) alike (legal_strictly rules' _ ∙ a'.1))
      (sym a.2 ∙ q ∙ ap (λ (l : List ℕ). l ++ more) a'.2)

back : (rules rules' : Rules) (running : ℕ) (bytes : List ℕ) (records : List (Event Span)) (count : ℕ) (out : List ℕ) (n at : ℕ) (w : ListWritten) (raw : List ℕ) (held : ListHeld)
    → w ≡ write_list capacity running (records_judged rules bytes records) count out → w.answer ≡ wrote n → length records ≡ capacity
    → held ≡ held_as capacity (list_at rules' capacity running raw at) → raw ≡ take n w.buffer → at ≡ 0 → rules' ≡ strict_of rules
    → ReadBack raw held n w.running bytes records count
back rules rules' running bytes records count out n at w raw held told e full told' q z strict =
    rw (told', q, z, strict, told) (read_back rules running bytes records count out n (rw told at e) full)

begins : (running running' : ℕ) (rules rules' : Rules) (bytes bytes' : List ℕ) (e e' : Event Span) (out out' : List ℕ) (at at' n n' : ℕ) (w w' : EventWritten)
    → running' ≡ running → strict_of rules' ≡ strict_of rules → w ≡ write_event running (legal rules bytes e) out at → at ≡ 0 → w.written.answer ≡ gives n
    → w' ≡ write_event running' (legal rules' bytes' e') out' at' → at' ≡ 0 → w'.written.answer ≡ gives n'
    → (more : List ℕ) → take n w.written.buffer ≡ take n' w'.written.buffer ++ more → Same bytes e bytes' e'
begins running running' rules rules' bytes bytes' e e' out out' at at' n n' w w' same alike told z h told' z' h' more q =
    let h₀ : (write_event running (legal rules bytes e) out 0).written.answer ≡ gives n = rw (told, z) at h in
    let h₁ : (write_event running (legal rules' bytes' e') out' 0).written.answer ≡ gives n' = rw (told', z', same) at h' in
    never_begins running rules rules' bytes bytes' e e' out out' n n' h₀ h₁ alike more (rw (told, z, told', z', same) at q)

again : (list : EventList) (running : Running) (rules : base.Rules) (bytes out : List ℕ) (w : ListWritten)
    → w ≡ write_list capacity running.status (records_judged (rules_of rules) bytes (map record_of list.records)) list.count out
    → (n : ℕ) → w.answer ≡ wrote n → length list.records ≡ capacity → EventListRead (ReadAgain list running rules bytes w n)
again list running rules bytes out w told n e full =
    calls.read_list_lem (ReadAgain list running rules bytes w n) (λ raw at running' rules' r told' q z same strict.
    let full' : length (map record_of list.records) ≡ capacity = length-map list.records record_of ∙ full in
    back (rules_of rules) (rules_of rules') running.status bytes (map record_of list.records) list.count out n at w raw (list_read_of r)
    told e full' (rw same at told') q z strict)

never : (e : TrackEvent) (running : Running) (rules : base.Rules) (bytes out : List ℕ) (at : ℕ) (r : Result Past WriteRefused) (end : List ℕ)
    → wrote_event r end ≡ write_event running.status (legal (rules_of rules) bytes (event_of e)) out at
    → (n : ℕ) → at ≡ 0 → (wrote_event r end).written.answer ≡ gives n → WriteEvent (NeverBegins e running rules bytes (take n end))
never e running rules bytes out at r end told n z h =
    calls.write_event_lem (NeverBegins e running rules bytes (take n end)) (λ e' running' rules' bytes' out' at' r' end' told' n' more z' same alike h' q.
    begins running.status running'.status (rules_of rules) (rules_of rules') bytes bytes' (event_of e) (event_of e') out out' at at' n n'
    (wrote_event r end) (wrote_event r' end') (ap (λ (x : Running). x.status) same) alike told z h told' z' h' more
    (rw (event_end r end, event_end r' end') q))

records_fit : (list : EventList) (running : Running) (rules : base.Rules) (bytes out : List ℕ) (r : Result Size ListRefused) (end : List ℕ)
    → wrote_list r end ≡ write_list capacity running.status (records_judged (rules_of rules) bytes (map record_of list.records)) list.count out
    → (n : ℕ) → (wrote_list r end).answer ≡ wrote n → Bytes bytes → TypeBytes (map record_of list.records)
    → FitsAsBytes (rules_of rules) capacity running.status (records_judged (rules_of rules) bytes (map record_of list.records)) list.count out
records_fit list running rules bytes out r end told n h payload types =
    let records = map record_of list.records in
    fits_as_bytes bytes payload (rules_of rules) capacity running.status (records_judged (rules_of rules) bytes records) list.count out (records_carry bytes payload (rules_of rules) records types)
    ((writes (rules_of rules) capacity running.status bytes records list.count out).accepts.0 (n, sym (ap (λ (w : ListWritten). w.answer) told) ∙ h))

rows_fit : (rows : List ℕ) (count : ℕ) (running : Running) (rules : base.Rules) (bytes out : List ℕ) (r : Result Size ListRefused) (end : List ℕ)
    → wrote_list r end ≡ write_list capacity running.status (rows_judged (rules_of rules) bytes count rows) count out
    → (n : ℕ) → (wrote_list r end).answer ≡ wrote n → Bytes bytes
    → FitsAsBytes (rules_of rules) capacity running.status (rows_judged (rules_of rules) bytes count rows) count out
rows_fit rows count running rules bytes out r end told n h payload =
    let judged = rows_judged (rules_of rules) bytes count rows in
    fits_as_bytes bytes payload (rules_of rules) capacity running.status judged count out (rows_carry bytes payload (rules_of rules) count rows)
    ((list_write_says (rules_of rules) capacity running.status judged (rows_lawful (rules_of rules) bytes count rows) count out).accepts.0
    (n, sym (ap (λ (w : ListWritten). w.answer) told) ∙ h))

pub point_3 : Point3
point_3 =
    record {
      writes = calls.write_list_lem _ (λ list running rules bytes out r end told.
          subst (ListWriteSays (rules_of rules) capacity running.status (records_judged (rules_of rules) bytes (map record_of list.records)) list.count out) (sym told)
          (writes (rules_of rules) capacity running.status bytes (map record_of list.records) list.count out));
      writes_rows = calls.write_rows _ (λ rows count running rules bytes out r end told.
          subst (ListWriteSays (rules_of rules) capacity running.status (rows_judged (rules_of rules) bytes count rows) count out) (sym told)
          (list_write_says (rules_of rules) capacity running.status (rows_judged (rules_of rules) bytes count rows) (rows_lawful (rules_of rules) bytes count rows) count out));
      bytes = λ κs a r e told good n h payload.
          records_fit a.0 a.1.0 a.1.1.0 a.1.1.1.0.now a.1.1.1.1.0.now r e.1.1.1.1.0.now told n h payload (list_types κs a good);
      bytes_rows = calls.write_rows _ rows_fit;
      reads_back = λ κs a r e told good n h.
          again a.0 a.1.0 a.1.1.0 a.1.1.1.0.now a.1.1.1.1.0.now (wrote_list r e.1.1.1.1.0.now) told n h (full_list κs a good);
      prefix_free = calls.write_event_lem _ never;
    }
