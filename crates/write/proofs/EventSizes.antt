-- What an event's size says of it: that it was judged legal, and how long its bytes are.
use mathlib.Core.Path.{◌≡◌, refl, ap}
use mathlib.Core.List.{List}
use Prim.Native.Nat.{ℕ}
use native.Mathlib.Omega.{arith}
use lib.ListN.{length}
use Rattle.smf.specs.Answer.{Answer, gives, refuses}
use Rattle.smf.specs.Event.{Event, encode_event, event_after}
use Rattle.write.specs.Raw.{raw_judged}
use Rattle.write.specs.Size.{Size, size, size_judged}

module _ (running : ℕ) where
  pub size_refused : (j : Answer (Event (List ℕ))) (n : ℕ) → size_judged running j ≡ refuses n → j ≡ refuses n
  unfolding size_judged raw_judged
  size_refused (gives e) n h = let z : ◌≡◌ {A = ℕ} 0 1 = cc in absurd (omega arith)
  size_refused (refuses m) n h = let w : m ≡ n = cc in ap refuses w

  pub record Sized (j : Answer (Event (List ℕ))) (x : Size) : Type 0 where
    pub event : Event (List ℕ)
    pub legal : j ≡ gives event
    pub size : x ≡ size (length (encode_event running event)) (event_after event)

  pub size_given : (j : Answer (Event (List ℕ))) (x : Size) → size_judged running j ≡ gives x → Sized j x
  unfolding size_judged raw_judged encode_event
  size_given (gives e) x h = record { event = e; legal = refl; size = cc }
  size_given (refuses m) x h = let z : ◌≡◌ {A = ℕ} 0 1 = cc in absurd (omega arith)
