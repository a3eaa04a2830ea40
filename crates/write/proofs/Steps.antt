-- What writing an event leaves, by its raw form and by the room.
use Rattle.std.specs.Prelude.{Result, Ok, Err, IsOk}
use Rattle.write.specs.declared.answer.Past.{Past}
use Rattle.write.specs.declared.answer.WriteRefused.{WriteRefused}
use Rattle.write.specs.Direct.{RoomAt}
use Rattle.write.specs.Wrote.{wrote_event}
use mathlib.Core.Path.{◌∙◌, ◌≡◌, refl, sym, ap}
use mathlib.Core.List.{List}
use Prim.Native.Nat.{ℕ, ◌+◌, ◌≤◌, ◌<◌}
use native.Mathlib.Omega.{arith}
use lib.ListN.{length}
use Rattle.smf.specs.Answer.{Answer, gives, refuses}
use Rattle.smf.specs.Wire.{RawEvent, encode_raw_event, running_after}
use Rattle.smf.specs.Write.{over, left}
use Rattle.smf.specs.Event.{Event, EventWritten, encode_event, event_written, write_judged}
use Rattle.smf.proofs.Write.{put_full, put_fits}
use Rattle.write.specs.Raw.{raw_judged}
use Rattle.write.specs.Wrote.{write_raw}

module _ (running : ℕ) (e : RawEvent) (s : List ℕ) (at : ℕ) where
  pub write_full : length s < at + length (encode_raw_event running e) → record { written = left s 20; running = running } ≡ write_raw running (gives e) s at
  unfolding write_raw
  write_full h = ap (event_written running (running_after e.raw)) (put_full (encode_raw_event running e) s at h)

  pub write_put : at + length (encode_raw_event running e) ≤ length s → (end : List ℕ) → end ≡ over (encode_raw_event running e) s at
      → record { written = record { buffer = end; answer = gives (at + length (encode_raw_event running e)) }; running = running_after e.raw } ≡ write_raw running (gives e) s at
  unfolding write_raw
  write_put h end b = rw b (ap (event_written running (running_after e.raw)) (put_fits (encode_raw_event running e) s at h))

-- an event is written as its raw form is
pub by_judged : (running : ℕ) (j : Answer (Event (List ℕ))) (s : List ℕ) (at : ℕ) → write_judged running j s at ≡ write_raw running (raw_judged j) s at
unfolding write_judged raw_judged write_raw encode_event
by_judged running (gives e) s at = refl
by_judged running (refuses n) s at = refl

-- what is legal and has room is written
pub wrote_there : (running : ℕ) (judged : Answer RawEvent) (s : List ℕ) (at : ℕ) (r : Result Past WriteRefused) (end : List ℕ)
    → RoomAt running judged at (length s) → wrote_event r end ≡ write_raw running judged s at → IsOk r
unfolding write_raw
wrote_there running judged s at (Ok p) end room e = refl
wrote_there running judged s at (Err n) end room e =
    let w = e ∙ ap (λ (j : Answer RawEvent). write_raw running j s at) room.1 ∙ ap (event_written running (running_after room.0.raw)) (sym (put_fits (encode_raw_event running room.0) s at room.2)) in
    let q = ap (λ (x : EventWritten). x.written.answer) w in
    let z : ◌≡◌ {A = ℕ} 0 1 = cc in
    absurd (omega arith)
