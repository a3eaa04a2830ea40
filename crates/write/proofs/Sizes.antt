-- What a list's size says of it, and of its writing.
use mathlib.Core.Path.{◌≡◌, refl, sym, ap, ◌∙◌, subst}
use mathlib.Core.Bool.{true, false}
use mathlib.Core.List.{List, map}
use Prim.Native.Nat.{ℕ, ◌≤◌, ◌<◌}
use lib.Dec.{leb}
use lib.ListN.{length, take}
use borrow.Author.Tests.{leb-true, leb-false, le-leb, lt-leb}
use Rattle.smf.specs.Answer.{Answer, gives}
use Rattle.smf.specs.Running.{is_running}
use Rattle.smf.specs.Write.{over}
use Rattle.smf.specs.Event.{Event}
use Rattle.smf.specs.Lists.{Checked, all_legal, illegal, check, encode_list, list_after, ListAnswer, wrote, refuses_at, ListSize, unsized, size_checked, size_list, list_left, write_list}
use Rattle.smf.proofs.Answer.{pick_test}
use Rattle.smf.proofs.ListLegality.{check_legal}
use Rattle.smf.proofs.ListWrites.{write_invalid, write_many, write_illegal, write_full, write_fits}
use Rattle.write.specs.ListAnswers.{RoomFor, InFront}

module _ (most running : ℕ) (judged : List (Answer (Event (List ℕ)))) (count : ℕ) where
  pub size_invalid : is_running running ≡ false → unsized running 1 0 ≡ size_list most running judged count
  unfolding size_list
  size_invalid v = rw v

  module _ (v : is_running running ≡ true) where
    pub size_many : most < count → unsized running 21 0 ≡ size_list most running judged count
    unfolding size_list
    size_many h = rw (v, lt-leb _ _ h)

    pub size_few : count ≤ most → size_checked running (check 0 (take count judged)) ≡ size_list most running judged count
    unfolding size_list
    size_few h = rw (v, le-leb _ _ h)

  -- a list that has a size is legal, and the size is that of its bytes
  pub record Sized (s : ListSize) (n : ℕ) : Type 0 where
    pub valid : is_running running ≡ true
    pub few : count ≤ most
    pub events : List (Event (List ℕ))
    pub legal : take count judged ≡ map gives events
    pub size : n ≡ length (encode_list running events)
    pub after : s.running ≡ list_after running events

  module _ (buffer : List ℕ) where
    -- one that has none is not written, by the same number and index
    abbrev Says : ListSize → ListAnswer → Type 0
    Says s (wrote n) = Sized s n
    Says s (refuses_at n i) = list_left s.running buffer n i ≡ write_list most running judged count buffer

    abbrev Good : ListSize → Type 0
    Good s = Says s s.answer

    checked_says : is_running running ≡ true → count ≤ most → (c : Checked) → check 0 (take count judged) ≡ c → Good (size_checked running c)
    unfolding size_checked
    checked_says v few (illegal n i) e = sym (write_illegal most running judged count buffer v few e)
    checked_says v few (all_legal es) e =
        record { valid = v; few = few; events = es; legal = (check_legal 0 (take count judged) es).0 e; size = refl; after = refl }

    says : Good (size_list most running judged count)
    unfolding size_list
    says =
        pick_test Good (is_running running)
        (λ v. pick_test Good (leb count most)
        (λ few. checked_says v (leb-true _ _ few) (check 0 (take count judged)) refl)
        (λ many. sym (write_many most running judged count buffer v (leb-false _ _ many))))
        (λ v. sym (write_invalid most running judged count buffer v))

    pub unsized_left : (left n i : ℕ) → unsized left n i ≡ size_list most running judged count
        → list_left left buffer n i ≡ write_list most running judged count buffer
    unsized_left left n i e = subst Good (sym e) says

    module _ (n after : ℕ) (e : record { answer = wrote n; running = after } ≡ size_list most running judged count) where
      sized : Sized (record { answer = wrote n; running = after }) n
      sized = subst Good (sym e) says

      pub sized_few : count ≤ most
      sized_few = sized.few

      pub sized_fits : n ≤ length buffer → RoomFor running (take count judged) (length buffer)
      sized_fits h = let s = sized in (s.events, s.legal, rw (← s.size) h)

      pub sized_full : length buffer < n → list_left running buffer 20 0 ≡ write_list most running judged count buffer
      sized_full h =
          let s = sized in
          sym (write_full most running judged count buffer s.valid s.few s.events s.legal (rw (← s.size) h))

      pub sized_put : n ≤ length buffer → (end : List ℕ) → InFront running (take count judged) buffer end
          → record { buffer = end; answer = wrote n; running = after } ≡ write_list most running judged count buffer
      sized_put h end stands =
          let s = sized in
          let own = encode_list running s.events in
          ap (λ (l : List ℕ). record { buffer = l; answer = wrote n; running = after }) (stands s.events s.legal)
          ∙ ap (λ (k : ℕ). record { buffer = over own buffer 0; answer = wrote k; running = after }) s.size
          ∙ ap (λ (k : ℕ). record { buffer = over own buffer 0; answer = wrote (length own); running = k }) s.after
          ∙ sym (write_fits most running judged count buffer s.valid s.few s.events s.legal (rw (← s.size) h))
