-- Events as they were judged: when all of a list are legal, and which is the first that is not.
use mathlib.Core.Path.{◌≡◌, refl, ap, ◌∙◌, subst}
use mathlib.Core.Bool.{true}
use mathlib.Core.List.{List, [], ◌∷◌, ◌++◌, map}
use mathlib.Core.Logic.{◌↔◌}
use Prim.Native.Nat.{ℕ, zero, suc, ◌+◌, ◌<◌}
use native.Mathlib.Numerals.{add-one}
use native.Mathlib.Omega.{arith}
use lib.ListN.{length, take, drop, get_or}
use lib.Seq.{drop-cons}
use Rattle.smf.specs.Answer.{Answer, gives, refuses, Rules}
use Rattle.smf.specs.Place.{Span, bytes_of}
use Rattle.smf.specs.Event.{Event, map_event, legal}
use Rattle.smf.specs.Lists.{records_judged, Checked, all_legal, illegal, with_event, check_on, check, listed}
use Rattle.smf.proofs.Event.{legal_exactly}
use Rattle.smf.proofs.Legal.{is_legal, AllLegal}

-- those before the k-th are legal, and it is refused by n
pub record FirstIllegal (judged : List (Answer (Event (List ℕ)))) (n k : ℕ) : Type 0 where
  pub events : List (Event (List ℕ))
  pub before : take k judged ≡ map gives events
  pub later : List (Answer (Event (List ℕ)))
  pub there : drop k judged ≡ refuses n ∷ later

-- events that were given are those that were given
pub given_once : (es fs : List (Event (List ℕ))) → map gives es ≡ map gives fs → es ≡ fs
given_once [] [] h = refl
given_once [] (f ∷ fs) h = absurd (omega (arith, ap length h))
given_once (e ∷ es) [] h = absurd (omega (arith, ap length h))
given_once (e ∷ es) (f ∷ fs) h =
    let q : e ≡ f = cc in
    let more : map gives es ≡ map gives fs = cc in
    rw q (ap (λ (l : List (Event (List ℕ))). f ∷ l) (given_once es fs more))

pub given_length : (es : List (Event (List ℕ))) → length (map gives es) ≡ length es
given_length [] = refl
given_length (e ∷ es) = ap suc (given_length es)

-- from what they are to the answer

pub check_given : (i : ℕ) (es : List (Event (List ℕ))) → check i (map gives es) ≡ all_legal es
unfolding check check_on with_event
check_given i [] = refl
check_given i (e ∷ es) = rw (check_given (i + 1) es)

-- and from the answer to what it says of them

abbrev Says : ℕ → List (Answer (Event (List ℕ))) → Checked → Type 0
Says i judged (all_legal es) = judged ≡ map gives es
Says i judged (illegal n j) = (k : ℕ) × (j ≡ i + k) × FirstIllegal judged n k

one_says : (i : ℕ) (a : Answer (Event (List ℕ))) (others : List (Answer (Event (List ℕ)))) (c : Checked) → Says (i + 1) others c → Says i (a ∷ others) (check_on i a c)
unfolding check_on with_event
one_says i (refuses n) others c s = (zero, omega arith, record { events = []; before = refl; later = others; there = refl })
one_says i (gives e) others (all_legal es) s = ap (λ (l : List (Answer (Event (List ℕ)))). gives e ∷ l) s
one_says i (gives e) others (illegal n j) s =
    let f = s.2 in
    (suc s.0, omega (arith, s.1), record { events = e ∷ f.events; before = ap (λ (l : List (Answer (Event (List ℕ)))). gives e ∷ l) f.before; later = f.later; there = f.there })

check_says : (i : ℕ) (judged : List (Answer (Event (List ℕ)))) → Says i judged (check i judged)
unfolding check
check_says i [] = refl
check_says i (a ∷ others) = one_says i a others (check (i + 1) others) (check_says (i + 1) others)

-- all are legal exactly when each was given
pub check_legal : (i : ℕ) (judged : List (Answer (Event (List ℕ)))) (es : List (Event (List ℕ))) → (check i judged ≡ all_legal es) ↔ (judged ≡ map gives es)
check_legal i judged es = ((λ e. subst (Says i judged) e (check_says i judged)), (λ h. ap (check i) h ∙ check_given i es))

check_first : (i k n : ℕ) (judged : List (Answer (Event (List ℕ)))) → FirstIllegal judged n k → check i judged ≡ illegal n (i + k)
unfolding check check_on with_event
check_first i zero n [] f = let z : [] ≡ refuses n ∷ f.later = f.there in absurd (omega (arith, ap length z))
check_first i (suc k) n [] f = let z : [] ≡ refuses n ∷ f.later = f.there in absurd (omega (arith, ap length z))
check_first i zero n (a ∷ others) f =
    let z : a ∷ others ≡ refuses n ∷ f.later = f.there in
    let q : a ≡ refuses n = cc in
    let p : i ≡ i + 0 = omega arith in
    rw q (ap (illegal n) p)
check_first i (suc k) n (a ∷ others) f = by f.events f.before (λ g. check_first (i + 1) k n others g) where
  by : (es : List (Event (List ℕ))) → a ∷ take k others ≡ map gives es → (FirstIllegal others n k → check (i + 1) others ≡ illegal n (i + 1 + k))
      → check i (a ∷ others) ≡ illegal n (i + suc k)
  by [] b on = absurd (omega (arith, ap length b))
  by (e ∷ es) b on =
      let q : a ≡ gives e = cc in
      let behind : take k others ≡ map gives es = cc in
      let more = on (record { events = es; before = behind; later = f.later; there = f.there }) in
      let p : i + 1 + k ≡ i + suc k = omega arith in
      rw (q, more) (ap (illegal n) p)

-- the first illegal one, by its number and index
pub check_illegal : (judged : List (Answer (Event (List ℕ)))) (n k : ℕ) → (check 0 judged ≡ illegal n k) ↔ FirstIllegal judged n k
check_illegal judged n k = (
  (λ e. let s : Says 0 judged (illegal n k) = subst (Says 0 judged) e (check_says 0 judged) in
      let q : s.0 ≡ k = omega (arith, s.1) in
      subst (FirstIllegal judged n) q s.2),
  (λ f. let p : 0 + k ≡ k = omega arith in check_first 0 k n judged f ∙ ap (illegal n) p),
)

-- as a loop finds it: so many are legal, and so is or is not the next
pub legal_more : (judged : List (Answer (Event (List ℕ)))) (i : ℕ) (d : Answer (Event (List ℕ))) (es : List (Event (List ℕ))) (e : Event (List ℕ)) → i < length judged
    → take i judged ≡ map gives es → get_or judged i d ≡ gives e → take (i + 1) judged ≡ map gives (es ++ (e ∷ []))
legal_more judged i d es e h before there = rw (add-one i) (go i judged es h before there) where
  go : (i : ℕ) (judged : List (Answer (Event (List ℕ)))) (es : List (Event (List ℕ))) → i < length judged
      → take i judged ≡ map gives es → get_or judged i d ≡ gives e → take (suc i) judged ≡ map gives (es ++ (e ∷ []))
  go zero [] es h b t = absurd (omega arith)
  go (suc i) [] es h b t = absurd (omega arith)
  go zero (a ∷ others) [] h b t = ap (λ (x : Answer (Event (List ℕ))). x ∷ []) t
  go zero (a ∷ others) (x ∷ es) h b t = absurd (omega (arith, ap length b))
  go (suc i) (a ∷ others) [] h b t = absurd (omega (arith, ap length b))
  go (suc i) (a ∷ others) (x ∷ es) h b t =
      let q : a ≡ gives x = cc in
      let behind : take i others ≡ map gives es = cc in
      rw q (ap (λ (l : List (Answer (Event (List ℕ)))). gives x ∷ l) (go i others es (omega arith) behind t))

pub legal_stops : (judged : List (Answer (Event (List ℕ)))) (i : ℕ) (d : Answer (Event (List ℕ))) (es : List (Event (List ℕ))) {n : ℕ} → i < length judged
    → take i judged ≡ map gives es → get_or judged i d ≡ refuses n → check 0 judged ≡ illegal n i
legal_stops judged i d es {n} h before e =
    (check_illegal judged n i).1 (record { events = es; before = before; later = drop (suc i) judged; there = drop-cons judged i d h ∙ ap (λ (x : Answer (Event (List ℕ))). x ∷ drop (suc i) judged) e })

-- Records

-- what is given by its judges is legal
abbrev pub Lawful : Rules → List (Answer (Event (List ℕ))) → Type 0
Lawful rules [] = Unit {0}
Lawful rules (a ∷ others) = ((e : Event (List ℕ)) → a ≡ gives e → is_legal rules e ≡ true) × Lawful rules others

pub lawful_all : (rules : Rules) (es : List (Event (List ℕ))) → Lawful rules (map gives es) → AllLegal rules es
lawful_all rules [] h = tt
lawful_all rules (e ∷ es) h = (h.0 e refl, lawful_all rules es h.1)

pub lawful_take : (rules : Rules) (i : ℕ) (judged : List (Answer (Event (List ℕ)))) → Lawful rules judged → Lawful rules (take i judged)
lawful_take rules zero [] h = tt
lawful_take rules zero (a ∷ others) h = tt
lawful_take rules (suc i) [] h = tt
lawful_take rules (suc i) (a ∷ others) h = (h.0, lawful_take rules i others h.1)

module _ (rules : Rules) (bytes : List ℕ) where
  -- a legal record gives the event that it is over the bytes, and that is legal
  pub given_itself : (e : Event Span) (l : Event (List ℕ)) → legal rules bytes e ≡ gives l → (l ≡ map_event (bytes_of bytes) e) × (is_legal rules l ≡ true)
  given_itself e l h = let x = (legal_exactly rules bytes e l).0 h in (x.2, rw x.2 x.1)

  pub records_lawful : (records : List (Event Span)) → Lawful rules (records_judged rules bytes records)
  records_lawful [] = tt
  records_lawful (r ∷ rs) = ((λ e h. (given_itself r e h).1), records_lawful rs)

  -- records that are legal are the events that they are over the bytes
  pub records_themselves : (count : ℕ) (records : List (Event Span)) (es : List (Event (List ℕ))) → take count (records_judged rules bytes records) ≡ map gives es
      → es ≡ listed bytes records count
  records_themselves zero [] [] h = refl
  records_themselves zero (r ∷ rs) [] h = refl
  records_themselves zero [] (e ∷ es) h = absurd (omega (arith, ap length h))
  records_themselves zero (r ∷ rs) (e ∷ es) h = absurd (omega (arith, ap length h))
  records_themselves (suc n) [] [] h = refl
  records_themselves (suc n) [] (e ∷ es) h = absurd (omega (arith, ap length h))
  records_themselves (suc n) (r ∷ rs) [] h = absurd (omega (arith, ap length h))
  records_themselves (suc n) (r ∷ rs) (e ∷ es) h =
      let q : legal rules bytes r ≡ gives e = cc in
      let behind : take n (records_judged rules bytes rs) ≡ map gives es = cc in
      rw (given_itself r e q).0 (ap (λ (l : List (Event (List ℕ))). map_event (bytes_of bytes) r ∷ l) (records_themselves n rs es behind))
