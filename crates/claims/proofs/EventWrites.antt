-- What writing one event says: when it is accepted, and what stands in the buffer then; nothing changes where it is refused.
use mathlib.Core.Path.{◌≡◌, refl, sym, ap, ◌∙◌, subst}
use mathlib.Core.Bool.{true}
use mathlib.Core.List.{List, ◌++◌, append_assoc}
use Prim.Native.Nat.{ℕ, ◌+◌, ◌≤◌, ◌<◌}
use native.Mathlib.Omega.{arith}
use lib.Dec.{leb}
use lib.ListN.{length, take, drop, length-append}
use lib.Seq.{take_at, drop_at, length-take-le}
use borrow.Author.Tests.{leb-true}
use Rattle.smf.specs.Answer.{Answer, gives, refuses}
use Rattle.smf.specs.Running.{is_running}
use Rattle.smf.specs.Number.{encode_number}
use Rattle.smf.specs.Wire.{encode_raw, encode_raw_event}
use Rattle.smf.specs.Write.{Written, over, put}
use Rattle.smf.specs.Kind.{raw_of}
use Rattle.smf.specs.Event.{Event, encode_event, event_after, EventWritten, event_written, write_judged, write_event}
use Rattle.smf.proofs.Answer.{pick_test, said_refused}
use Rattle.smf.proofs.Number.{encode_some}
use Rattle.smf.proofs.Write.{length_over}
use Rattle.claims.specs.Table.{By, of_legality, of_writing}
use Rattle.claims.specs.Leaves.{WriteRefused, EventLeaves}
use Rattle.claims.proofs.Refusals.{one_of_more}

-- every event has some bytes
event_some : (running : ℕ) (e : Event (List ℕ)) → 0 < length (encode_event running e)
unfolding encode_event encode_raw_event
event_some running e = omega (arith, length-append (encode_number e.delta) (encode_raw running (raw_of e.kind)), encode_some e.delta)

-- bytes over a part of a buffer: those before and those beyond stay
module _ (bs s : List ℕ) (at : ℕ) (h : at + length bs ≤ length s) where
  over_before : take at (over bs s at) ≡ take at s
  over_before = take_at (take at s) _ at (length-take-le at s (omega arith))

  over_beyond : drop (at + length bs) (over bs s at) ≡ drop (at + length bs) s
  over_beyond =
      let l : length (take at s ++ bs) ≡ at + length bs = rw (length-append, length-take-le at s (omega arith)) in
      ap (drop (at + length bs)) (sym (append_assoc (take at s) bs _)) ∙ drop_at (take at s ++ bs) _ _ l

module _ (running : ℕ) (j : Answer (Event (List ℕ))) (numbered : By of_legality j) (buffer : List ℕ) (at : ℕ) where
  -- an accepted write: the running status is one, the event was judged legal, and its own bytes stand at the place
  pub record Wrote (w : EventWritten) (next : ℕ) : Type 0 where
    pub valid : is_running running ≡ true
    pub event : Event (List ℕ)
    pub legal : j ≡ gives event
    pub size : next ≡ at + length (encode_event running event)
    pub room : at + length (encode_event running event) ≤ length buffer
    pub own : w.written.buffer ≡ over (encode_event running event) buffer at

  abbrev Says : EventWritten → Answer ℕ → Type 0
  Says w (gives next) = Wrote w next
  Says w (refuses n) = WriteRefused running buffer w n

  abbrev Good : EventWritten → Type 0
  Good w = Says w w.written.answer

  abbrev Put : Event (List ℕ) → Written → Type 0
  Put e w = Good (event_written running (event_after e) w)

  judged_says : is_running running ≡ true → (a : Answer (Event (List ℕ))) → j ≡ a → Good (write_judged running a buffer at)
  unfolding write_judged put
  judged_says is (refuses n) h =
      record { number = one_of_more of_writing of_legality n refl (said_refused (By of_legality) numbered h); buffer = refl; status = refl }
  judged_says is (gives e) h =
      pick_test (Put e) (leb (at + length (encode_event running e)) (length buffer))
      (λ t. record { valid = is; event = e; legal = h; size = refl; room = leb-true _ _ t; own = refl })
      (λ t. record { number = refl; buffer = refl; status = refl })

  abbrev written : EventWritten
  written = write_event running j buffer at

  says : Says written written.written.answer
  unfolding write_event
  says =
      pick_test Good (is_running running) (λ is. judged_says is j refl) (λ _. record { number = refl; buffer = refl; status = refl })

  pub event_wrote : (next : ℕ) → written.written.answer ≡ gives next → Wrote written next
  event_wrote next h = subst (Says written) h says

  pub event_leaves : EventLeaves running at buffer written written.written.answer
  event_leaves = by written.written.answer says where
    by : (a : Answer ℕ) → Says written a → EventLeaves running at buffer written a
    by (refuses n) s = s
    by (gives next) s =
        let own = encode_event running s.event in
        record {
          some = omega (arith, s.size, event_some running s.event);
          within = omega (arith, s.size, s.room);
          long = rw s.own (length_over own buffer at s.room);
          before = rw s.own (over_before own buffer at s.room);
          beyond = rw (s.size, s.own) (over_beyond own buffer at s.room);
        }
