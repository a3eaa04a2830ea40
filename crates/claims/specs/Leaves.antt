-- What a write leaves. Document 01, "Refusal numbers": a refused one gives its number, the index of the first illegal event, the running status
-- as given, and every output byte as it came; an accepted one writes no byte beyond.
use Rattle.std.specs.Prelude.{◌≡◌, true, List, [], ◌∷◌, map, ℕ, ◌≤◌, ◌<◌, length, take, drop}
use Rattle.smf.specs.Answer.{Answer, gives, refuses}
use Rattle.smf.specs.Event.{Event, EventWritten}
use Rattle.smf.specs.Lists.{ListAnswer, wrote, refuses_at, ListSize, ListWritten}
use Rattle.claims.specs.Table.{among, OneOf, of_legality, of_writing, of_list_length, of_list_writing}

-- an event refused by a number, from a running status and over a buffer
pub record WriteRefused (running : ℕ) (out : List ℕ) (w : EventWritten) (n : ℕ) : Type 0 where
  pub number : OneOf of_writing n
  pub buffer : w.written.buffer ≡ out
  pub status : w.running ≡ running

-- an event accepted at a place: some bytes from there to the next place, within the buffer, and none before and none beyond
pub record WriteAccepted (at : ℕ) (out : List ℕ) (w : EventWritten) (next : ℕ) : Type 0 where
  pub some : at < next
  pub within : next ≤ length out
  pub long : length w.written.buffer ≡ length out
  pub before : take at w.written.buffer ≡ take at out
  pub beyond : drop next w.written.buffer ≡ drop next out

abbrev pub EventLeaves : ℕ → ℕ → List ℕ → EventWritten → Answer ℕ → Type 0
EventLeaves running at out w (gives next) = WriteAccepted at out w next
EventLeaves running at out w (refuses n) = WriteRefused running out w n

module _ (judged : List (Answer (Event (List ℕ)))) (count : ℕ) where
  -- the counted events before an index are legal, and what stands there is refused by a number
  pub record FirstIllegal (n i : ℕ) : Type 0 where
    pub counted : i < count
    pub before : (es : List (Event (List ℕ))) × (take i judged ≡ map gives es)
    pub there : (later : List (Answer (Event (List ℕ)))) × (drop i judged ≡ refuses n ∷ later)

  -- document 01: the index of the first illegal event, 0 for 1, 20, 21
  pub record RefusedAt (numbers : List ℕ) (n i : ℕ) : Type 0 where
    pub number : OneOf numbers n
    pub none : among (1 ∷ 20 ∷ 21 ∷ []) n ≡ true → i ≡ 0
    pub first : among of_legality n ≡ true → FirstIllegal n i

  -- what measuring a list answers
  abbrev pub SizeLeaves : ℕ → ListSize → ListAnswer → Type 0
  SizeLeaves running w (wrote n) = Unit {0}
  SizeLeaves running w (refuses_at n i) = RefusedAt of_list_length n i × (w.running ≡ running)

  -- what writing a list leaves where it is refused; point 3 says what it leaves where it is accepted
  abbrev pub ListLeaves : ℕ → List ℕ → ListWritten → ListAnswer → Type 0
  ListLeaves running out w (wrote n) = Unit {0}
  ListLeaves running out w (refuses_at n i) = RefusedAt of_list_writing n i × (w.buffer ≡ out) × (w.running ≡ running)
