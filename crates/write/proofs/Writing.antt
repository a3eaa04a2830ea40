-- What a loop that writes a list keeps: the bytes of the events so far stand in front, and the next one has room.
use Rattle.std.specs.Prelude.{Ok, Result}
use mathlib.Core.Path.{◌≡◌, refl, sym, ap, ◌∙◌}
use mathlib.Core.List.{List, [], ◌∷◌, ◌++◌, map, append_assoc}
use Prim.Native.Nat.{ℕ, zero, suc, ◌+◌, ◌≤◌, ◌<◌}
use native.Mathlib.Numerals.{add-one}
use native.Mathlib.Omega.{arith}
use lib.ListN.{length, take, drop, get_or, length-append, take-append-drop}
use lib.Seq.{take-length}
use Rattle.smf.specs.Answer.{Answer, gives}
use Rattle.smf.specs.Wire.{raw_event}
use Rattle.smf.specs.Kind.{raw_of}
use Rattle.smf.specs.Write.{over}
use Rattle.smf.specs.Event.{Event, EventWritten, event_written, encode_event, event_after}
use Rattle.smf.specs.Lists.{encode_list, list_after}
use Rattle.smf.proofs.Write.{length_over, over_over, put_fits}
use Rattle.smf.proofs.ListLegality.{given_once, given_length}
use Rattle.smf.proofs.ListWrites.{encode_behind, after_behind}
use Rattle.write.specs.Raw.{raw_judged}
use Rattle.write.specs.Wrote.{wrote_event, write_raw}
use Rattle.write.specs.ListAnswers.{RoomFor, InFront}
use Rattle.write.specs.Direct.{RoomAt}
use Rattle.write.specs.declared.answer.Past.{Past}
use Rattle.write.specs.declared.answer.WriteRefused.{WriteRefused}

-- the bytes of two lists, one behind the other
encode_append : (running : ℕ) (xs ys : List (Event (List ℕ))) → encode_list running (xs ++ ys) ≡ encode_list running xs ++ encode_list (list_after running xs) ys
unfolding encode_list list_after
encode_append running [] ys = refl
encode_append running (x ∷ xs) ys =
    ap (λ (l : List ℕ). encode_event running x ++ l) (encode_append (event_after x) xs ys)
    ∙ sym (append_assoc (encode_event running x) (encode_list (event_after x) xs) (encode_list (list_after (event_after x) xs) ys))

-- the event at a place of those that were given
given_at : (es : List (Event (List ℕ))) (i : ℕ) (d : Answer (Event (List ℕ))) (j : Answer (Event (List ℕ))) → i < length es → get_or (map gives es) i d ≡ j
    → (e : Event (List ℕ)) × (j ≡ gives e) × (take (i + 1) es ≡ take i es ++ (e ∷ []))
given_at es i d j h there = let g = go i es h there in (g.0, g.1, ap (λ (n : ℕ). take n es) (add-one i) ∙ g.2) where
  go : (i : ℕ) (es : List (Event (List ℕ))) → i < length es → get_or (map gives es) i d ≡ j → (e : Event (List ℕ)) × (j ≡ gives e) × (take (suc i) es ≡ take i es ++ (e ∷ []))
  go zero [] h t = absurd (omega arith)
  go (suc i) [] h t = absurd (omega arith)
  go zero (e ∷ es) h t = (e, sym t, refl)
  go (suc i) (e ∷ es) h t = let g = go i es (omega arith) t in (g.0, g.1, ap (λ (l : List (Event (List ℕ))). e ∷ l) g.2)

module _ (running : ℕ) (js : List (Answer (Event (List ℕ)))) (before : List ℕ) where
  pub record Going (out : List ℕ) (place status i : ℕ) : Type 0 where
    pub events : List (Event (List ℕ))
    pub legal : js ≡ map gives events
    pub room : length (encode_list running events) ≤ length before
    pub within : i ≤ length events
    pub stands : place ≡ length (encode_list running (take i events))
    pub after : status ≡ list_after running (take i events)
    pub buffer : out ≡ over (encode_list running (take i events)) before 0

  pub going_first : RoomFor running js (length before) → Going before 0 running 0
  unfolding encode_list list_after
  going_first f = record { events = f.0; legal = f.1; room = f.2; within = omega arith; stands = refl; after = refl; buffer = refl }

  module _ {out : List ℕ} {place status i : ℕ} (g : Going out place status i) where
    -- the bytes of so many events
    abbrev front : ℕ → List ℕ
    front k = encode_list running (take k g.events)

    front_shorter : (k : ℕ) → length (front k) ≤ length (encode_list running g.events)
    front_shorter k =
        let es = g.events in
        let long = ap length (ap (encode_list running) (sym (take-append-drop k es)) ∙ encode_append running (take k es) (drop k es)) in
        omega (arith, long, length-append (front k) (encode_list (list_after running (take k es)) (drop k es)))

    counted : length js ≡ length g.events
    counted = ap length g.legal ∙ given_length g.events

    pub going_length : length out ≡ length before
    going_length = ap length g.buffer ∙ length_over (front i) before 0 (omega (arith, front_shorter i, g.room))

    pub going_last : i ≡ length js → InFront running js before out
    going_last e es same =
        let all : take i g.events ≡ es = ap (λ (k : ℕ). take k g.events) (e ∙ counted) ∙ take-length g.events ∙ given_once g.events es (sym g.legal ∙ same) in
        g.buffer ∙ ap (λ (l : List (Event (List ℕ))). over (encode_list running l) before 0) all

    -- the next event, wherever the code takes it from
    module _ (d j : Answer (Event (List ℕ))) (there : get_or js i d ≡ j) (more : i < length js) where
      next : (x : Event (List ℕ)) × (j ≡ gives x) × (take (i + 1) g.events ≡ take i g.events ++ (x ∷ []))
      next = given_at g.events i d j (omega (arith, counted)) (ap (λ (l : List (Answer (Event (List ℕ)))). get_or l i d) (sym g.legal) ∙ there)

      whole : Event (List ℕ)
      whole = next.0

      onward : front (i + 1) ≡ front i ++ encode_event status whole
      unfolding whole
      onward = ap (encode_list running) next.2 ∙ encode_behind running (take i g.events) next.0 ∙ ap (λ (x : ℕ). front i ++ encode_event x next.0) (sym g.after)

      long : length (front (i + 1)) ≡ length (front i) + length (encode_event status whole)
      long = ap length onward ∙ length-append (front i) (encode_event status whole)

      fits : place + length (encode_event status whole) ≤ length out
      fits = omega (arith, going_length, g.stands, long, front_shorter (i + 1), g.room)

      -- it was judged legal, and has room
      pub going_room : RoomAt status (raw_judged j) place (length out)
      unfolding whole encode_event raw_judged
      going_room = (raw_event whole.delta (raw_of whole.kind), ap raw_judged next.1, fits)

      -- and is written
      module _ (r : Result Past WriteRefused) (end : List ℕ) (e : wrote_event r end ≡ write_raw status (raw_judged j) out place) where
        -- what is written
        is : wrote_event r end
            ≡ record { written = record { buffer = over (encode_event status whole) out place; answer = gives (place + length (encode_event status whole)) }; running = event_after whole }
        unfolding whole write_raw encode_event raw_judged
        is =
            e
            ∙ ap (λ (y : Answer (Event (List ℕ))). write_raw status (raw_judged y) out place) next.1
            ∙ sym (ap (event_written status (event_after whole)) (put_fits (encode_event status whole) out place fits))

        pub going_more : (p : Past) → r ≡ Ok p → Going end p.next p.running.status (i + 1)
        unfolding whole
        going_more p h =
            let put = sym (ap (λ (x : Result Past WriteRefused). wrote_event x end) h) ∙ is in
            let at : place ≡ 0 + length (front i) = omega (arith, g.stands) in
            let q : gives p.next ≡ gives (place + length (encode_event status whole)) = ap (λ (w : EventWritten). w.written.answer) put in
            let on : p.next ≡ place + length (encode_event status whole) = cc in
            record {
              events = g.events;
              legal = g.legal;
              room = g.room;
              within = omega (arith, counted);
              stands = on ∙ omega (arith, g.stands, long);
              after = ap (λ (w : EventWritten). w.running) put ∙ sym (ap (list_after running) next.2 ∙ after_behind running (take i g.events) next.0);
              buffer =
                  ap (λ (w : EventWritten). w.written.buffer) put
                  ∙ ap (λ (n : ℕ). over (encode_event status whole) out n) at
                  ∙ ap (λ (l : List ℕ). over (encode_event status whole) l (0 + length (front i))) g.buffer
                  ∙ over_over (front i) (encode_event status whole) before 0 (omega arith)
                  ∙ ap (λ (l : List ℕ). over l before 0) (sym onward);
            }
