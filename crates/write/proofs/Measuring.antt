-- What a loop that measures a list keeps: the events so far were judged legal, and how long their bytes are.
use Rattle.std.specs.Prelude.{Err, Ok, Result, IfOk}
use mathlib.Core.Path.{◌≡◌, refl, sym, ap, ◌∙◌}
use mathlib.Core.Bool.{true}
use mathlib.Core.List.{List, [], ◌∷◌, ◌++◌, map}
use Prim.Native.Nat.{ℕ, ◌+◌, ◌*◌, ◌≤◌, ◌<◌}
use native.Mathlib.Omega.{arith}
use lib.ListN.{length, take, get_or, length-append}
use lib.Seq.{take-length}
use Rattle.smf.specs.Answer.{Answer, gives, Rules}
use Rattle.smf.specs.Event.{Event, encode_event}
use Rattle.smf.specs.Lists.{check, encode_list, list_after, wrote, unsized, size_checked}
use Rattle.smf.proofs.Legal.{is_legal}
use Rattle.smf.proofs.ListLegality.{check_given, legal_more, legal_stops}
use Rattle.smf.proofs.ListWrites.{encode_behind, after_behind}
use Rattle.base.specs.Refusal.{number_of}
use Rattle.base.specs.declared.Refusal.{Refusal}
use Rattle.write.specs.Size as sizes
use Rattle.write.specs.Size.{size_of, length_said, size_judged, most}
use Rattle.write.specs.declared.answer.Size.{Size}
use Rattle.write.proofs.EventSizes.{Sized, size_refused, size_given}
use Rattle.write.proofs.Most.{event_most}

module _ (running : ℕ) (js : List (Answer (Event (List ℕ)))) where
  pub record Seen (n status i : ℕ) : Type 0 where
    pub events : List (Event (List ℕ))
    pub legal : take i js ≡ map gives events
    pub size : n ≡ length (encode_list running events)
    pub after : status ≡ list_after running events
    pub small : n ≤ most * i

  pub seen_first : Seen 0 running 0
  unfolding encode_list list_after
  seen_first = record { events = []; legal = refl; size = refl; after = refl; small = omega arith }

  pub seen_last : {n status i : ℕ} → Seen n status i → i ≡ length js → record { answer = wrote n; running = status } ≡ size_checked running (check 0 js)
  unfolding size_checked
  seen_last {n} {status} {i} h e =
      let all : js ≡ map gives h.events = sym (ap (λ (k : ℕ). take k js) e ∙ take-length js) ∙ h.legal in
      rw (h.size, h.after) (ap (size_checked running) (sym (ap (check 0) all ∙ check_given 0 h.events)))

  -- the next event was measured, wherever the code takes it from
  module _ {n status i : ℕ} (h : Seen n status i) (more : i < length js) (d j : Answer (Event (List ℕ))) (there : get_or js i d ≡ j) (a : Result Size Refusal) (said : length_said a ≡ size_judged status j) where
    pub seen_illegal : (m : Refusal) → a ≡ Err m → unsized running (number_of m) i ≡ size_checked running (check 0 js)
    unfolding size_checked
    seen_illegal m e =
        rw (legal_stops js i d h.events more h.legal (there ∙ size_refused status j (number_of m) (sym said ∙ ap length_said e)))

    module _ (s : Size) (e : a ≡ Ok s) where
      sized : Sized status j (size_of s)
      sized = size_given status j (size_of s) (sym said ∙ ap length_said e)

      same_length : s.length ≡ length (encode_event status sized.event)
      same_length = ap (λ (x : sizes.Size). x.length) sized.size

      pub seen_more : s.length ≤ most → Seen (n + s.length) s.running.status (i + 1)
      seen_more few =
          let es = h.events in
          let one = sized.event in
          let grown : length (encode_list running (es ++ (one ∷ []))) ≡ length (encode_list running es) + length (encode_event status one) =
          ap length (encode_behind running es one) ∙ length-append (encode_list running es) (encode_event (list_after running es) one) ∙ ap (λ (x : ℕ). length (encode_list running es) + length (encode_event x one)) (sym h.after)
          in
          record {
            events = es ++ (one ∷ []);
            legal = legal_more js i d es one more h.legal (there ∙ sized.legal);
            size = omega (arith, h.size, same_length, grown);
            after = ap (λ (x : sizes.Size). x.running) sized.size ∙ sym (after_behind running es one);
            small = omega (arith, h.small, few);
          }

-- an event that rules allow is not long
pub size_short : (status : ℕ) (j : Answer (Event (List ℕ))) (a : Result Size Refusal) → length_said a ≡ size_judged status j
    → (rules : Rules) → ((e : Event (List ℕ)) → j ≡ gives e → is_legal rules e ≡ true) → IfOk a (λ s. s.length ≤ most)
size_short status j (Ok s) said rules lawful =
    let z : Sized status j (size_of s) = size_given status j (size_of s) (sym said) in
    let same : s.length ≡ length (encode_event status z.event) = ap (λ (x : sizes.Size). x.length) z.size in
    omega (arith, same, event_most rules status z.event (lawful z.event z.legal))
size_short status j (Err n) said rules lawful = tt
