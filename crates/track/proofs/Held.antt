-- Records as the code holds them, and as the definitions take them.
use mathlib.Core.Path.{◌≡◌, refl, sym, ap, ◌∙◌}
use mathlib.Core.List.{List, [], ◌∷◌, ◌++◌, map, append_assoc}
use Prim.Native.Nat.{ℕ, zero, suc, ◌+◌, ◌-◌, ◌<◌}
use native.Mathlib.Omega.{arith}
use lib.ListN.{length, set, length-append, length-map, replicate}
use lib.Seq.{set_at}
use Rattle.smf.specs.Place.{Span}
use Rattle.smf.specs.Event.{Event}
use Rattle.smf.specs.Lists.{filler, Held, holding}
use Rattle.event.specs.declared.TrackEventKind.TheVariants as track
use Rattle.midi.specs.declared.MidiMessage.TheVariants as midi
use Rattle.track.specs.List.{capacity, record_of}
use Rattle.track.specs.declared.list.Record.{Record}

-- what stands past the end of an array
abbrev pub past : Record
past = record { event = record { delta = record { 0 = 0 }; kind = track.Midi (record { 0 = 0 }) (midi.NoteOff (record { 0 = 0 }) (record { 0 = 0 })) } }

-- one element changed, and then each taken, or the other way round
pub map_set : {A B : Type 0} (f : A → B) (l : List A) (i : ℕ) (a : A) → map f (set l i a) ≡ set (map f l) i (f a)
map_set f [] zero a = refl
map_set f [] (suc i) a = refl
map_set f (x ∷ xs) zero a = refl
map_set {B = B} f (x ∷ xs) (suc i) a = ap (λ (l : List B). f x ∷ l) (map_set f xs i a)

pub map_replicate : {A B : Type 0} (f : A → B) (n : ℕ) (a : A) → map f (replicate n a) ≡ replicate n (f a)
map_replicate f zero a = refl
map_replicate {B = B} f (suc n) a = ap (λ (l : List B). f a ∷ l) (map_replicate f n a)

pub unmapped : {A B : Type 0} (f : A → B) (l : List A) (n : ℕ) → length (map f l) ≡ n → length l ≡ n
unmapped f l n p = sym (length-map l f) ∙ p

-- an empty list
pub made : (e : Record) → record_of e ≡ filler → record { records = map record_of (replicate capacity e); count = 0 } ≡ holding capacity []
unfolding holding
made e f = rw (map_replicate record_of capacity e, f)

-- records of which n count hold these events, and the filler behind them
abbrev pub Holds : ℕ → List Record → ℕ → List (Event Span) → Type 0
Holds cap xs n es = record { records = map record_of xs; count = n } ≡ holding cap es

-- none of them counts
pub holds_none : (cap : ℕ) (xs : List Record) (n : ℕ) → Holds cap xs n [] → Holds cap xs 0 []
unfolding holding
holds_none cap xs n h = let none : n ≡ 0 = ap (λ (l : Held). l.count) h in rw none at h

-- one event more
pub holds_more : (cap : ℕ) (xs : List Record) (n : ℕ) (es : List (Event Span)) (e : Record) → n < cap → Holds cap xs n es → Holds cap (set xs n e) (n + 1) (es ++ (record_of e ∷ []))
unfolding holding
holds_more cap xs n es e room h =
    let own = record_of e ∷ [] in
    let counted : length es ≡ n = sym (ap (λ (l : Held). l.count) h) in
    let count : length (es ++ own) ≡ n + 1 = length-append es own ∙ omega arith in
    let left : cap - length es ≡ suc (cap - (n + 1)) = omega arith in
    let rest = replicate (cap - (n + 1)) filler in
    let there : map record_of xs ≡ es ++ (filler ∷ rest) = ap (λ (l : Held). l.records) h ∙ ap (λ (k : ℕ). es ++ replicate k filler) left in
    let records : map record_of (set xs n e) ≡ (es ++ own) ++ rest =
    map_set record_of xs n e ∙ ap (λ (l : List (Event Span)). set l n (record_of e)) there ∙ set_at es filler rest (record_of e) n counted ∙ sym (append_assoc es own rest)
    in
    rw (count, records)
