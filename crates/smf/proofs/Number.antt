-- The laws of numbers: what is written is read back, what is read is what SMF says, and nothing shorter is read as it.
use mathlib.Core.Path.{◌≡◌, refl, sym, ap, ◌∙◌}
use mathlib.Core.Bool.{Bool, true, false}
use mathlib.Core.List.{List, [], ◌∷◌, ◌++◌, append_assoc}
use mathlib.Core.Logic.{◌⊎◌, inl, inr, ⊎_elim}
use Prim.Native.Nat.{ℕ, zero, suc, ◌+◌, ◌-◌, ◌/◌, ◌%◌, ◌^◌, ◌≤◌, ◌<◌}
use native.Mathlib.Nat.{pow-suc, pow-le-pow_right, zero-add, add-zero, eq-zero-or-pos}
use native.Mathlib.Numerals.{add-one}
use native.Mathlib.Omega.{arith}
use lib.Dec.{ltb}
use lib.ListN.{length, take, drop, length-append, take-append-drop}
use borrow.Author.Tests.{lt-ltb, le-ltb, ltb-false, eq-eqb, ne_eqb}
use Rattle.smf.specs.Answer.{pick, Answer, gives, refuses, Rules, leniently}
use Rattle.smf.specs.Number.{joined, no_more, is_number, value_from, ahead, encode_number, Numeral, numeral, number_from, read_number, padding_of}
use Rattle.smf.proofs.Answer.{pick_test, said_of, Alike, pick_alike, strictly_alike}

-- The groups ahead of the last

pub ahead_none : (k v : ℕ) → v ≡ 0 → ahead k v ≡ []
unfolding ahead
ahead_none zero v z = refl
ahead_none (suc k) v z = rw (eq-eqb v 0 z)

pub ahead_more : (k v : ℕ) → (v ≡ 0 → ⊥) → ahead (suc k) v ≡ ahead k (v / 128) ++ ((128 + v % 128) ∷ [])
unfolding ahead
ahead_more k v z = rw (ne_eqb v 0 z)

pub ahead_length : (k v : ℕ) → (v ≡ 0 → ⊥) → length (ahead (suc k) v) ≡ length (ahead k (v / 128)) + 1
ahead_length k v z = rw (ahead_more k v z, length-append)

pub encode_length : (v : ℕ) → length (encode_number v) ≡ length (ahead 3 (v / 128)) + 1
unfolding encode_number
encode_length v = simp length-append

-- n groups hold what is below 128 to the n
ahead_fits : (n k v : ℕ) → v < 128 ^ n → length (ahead k v) ≤ n
unfolding ahead
ahead_fits n zero v f = omega arith
ahead_fits zero (suc k) v f = omega (arith, ap length (ahead_none (suc k) v (omega arith)))
ahead_fits (suc n) (suc k) v f =
    ⊎_elim (λ z. omega (arith, ap length (ahead_none (suc k) v z)))
    (λ h. omega (arith, ahead_length k v (λ e. omega arith), ahead_fits n k (v / 128) (omega (arith, pow-suc 128 n))))
    (eq-zero-or-pos v)

-- and no fewer do
pub ahead_count : (n k v : ℕ) → n ≤ k → 128 ^ n ≤ v → v < 128 ^ suc n → length (ahead (suc k) v) ≡ suc n
ahead_count zero k v h a b = omega (arith, ahead_length k v (omega arith), ap length (ahead_none k (v / 128) (omega arith)))
ahead_count (suc n) zero v h a b = absurd (omega arith)
ahead_count (suc n) (suc k) v h a b =
    omega (arith, ahead_length (suc k) v (omega (arith, pow-suc 128 n, pow-le-pow_right {n = 128} (omega arith) {i = 0} {j = suc n} (omega arith))), ahead_count n k (v / 128) (omega arith) (omega (arith, pow-suc 128 n)) (omega (arith, pow-suc 128 (suc n))))

-- all k where the bits would fill more
pub ahead_full : (k v : ℕ) → 128 ^ k ≤ v → length (ahead (suc k) v) ≡ suc k
unfolding ahead
ahead_full zero v h = omega (arith, ahead_length 0 v (omega arith))
ahead_full (suc k) v h = omega (arith, ahead_length (suc k) v (omega (arith, pow-suc 128 k, pow-le-pow_right {n = 128} (omega arith) {i = 0} {j = suc k} (omega arith))), ahead_full k (v / 128) (omega (arith, pow-suc 128 k)))

ahead_monotone : (k m n : ℕ) → m ≤ n → length (ahead k m) ≤ length (ahead k n)
unfolding ahead
ahead_monotone zero m n h = omega arith
ahead_monotone (suc k) m n h =
    ⊎_elim (λ z. omega (arith, ap length (ahead_none (suc k) m z)))
    (λ p. omega (arith, ahead_length k m (λ e. omega arith), ahead_length k n (λ e. omega arith), ahead_monotone k (m / 128) (n / 128) (omega arith)))
    (eq-zero-or-pos m)

ahead_most : (k v : ℕ) → length (ahead k v) ≤ k
unfolding ahead
ahead_most zero v = omega arith
ahead_most (suc k) v =
    ⊎_elim (λ z. omega (arith, ap length (ahead_none (suc k) v z)))
    (λ p. omega (arith, ahead_length k v (λ e. omega arith), ahead_most k (v / 128)))
    (eq-zero-or-pos v)

-- The shortest form: its length

-- by the value: one byte below 2^7, two below 2^14, three below 2^21, else four
pub encode_one : (v : ℕ) → v < 128 → length (encode_number v) ≡ 1
encode_one v h = omega (arith, encode_length v, ap length (ahead_none 3 (v / 128) (omega arith)))

pub encode_count : (n v : ℕ) → n ≤ 2 → 128 ^ suc n ≤ v → v < 128 ^ suc (suc n) → length (encode_number v) ≡ suc (suc n)
encode_count n v h a b =
    omega (arith, encode_length v, ahead_count n 2 (v / 128) h (omega (arith, pow-suc 128 n)) (omega (arith, pow-suc 128 (suc n))))

pub encode_full : (v : ℕ) → 128 ^ 3 ≤ v → length (encode_number v) ≡ 4
encode_full v h = omega (arith, encode_length v, ahead_full 2 (v / 128) (omega arith))

pub encode_some : (v : ℕ) → 0 < length (encode_number v)
encode_some v = omega (arith, encode_length v)

pub encode_most : (v : ℕ) → length (encode_number v) ≤ 4
encode_most v = omega (arith, encode_length v, ahead_most 3 (v / 128))

pub encode_fits : (n v : ℕ) → v < 128 ^ suc n → length (encode_number v) ≤ suc n
encode_fits n v f = omega (arith, encode_length v, ahead_fits n 3 (v / 128) (omega (arith, pow-suc 128 n)))

pub encode_monotone : {m n : ℕ} → m ≤ n → length (encode_number m) ≤ length (encode_number n)
encode_monotone {m} {n} h = omega (arith, encode_length m, encode_length n, ahead_monotone 3 (m / 128) (n / 128) (omega arith))

-- The shortest form is a number, and its own

-- a byte that continues is passed
is_number_more : (m b : ℕ) (t : List ℕ) → 128 ≤ b → is_number (suc m) (b ∷ t) ≡ is_number m t
unfolding is_number
is_number_more m b t h = rw (le-ltb b 128 h)

-- groups ahead keep a number's form
ahead_is_number : (k v m : ℕ) (t : List ℕ) → is_number (length (ahead k v) + m) (ahead k v ++ t) ≡ is_number m t
unfolding ahead is_number
ahead_is_number zero v m t = rw zero-add
ahead_is_number (suc k) v m t =
    ⊎_elim (λ z. rw (ahead_none (suc k) v z, zero-add))
    (λ p.
    let z : v ≡ 0 → ⊥ = λ e. omega arith in
    let n : length (ahead (suc k) v) + m ≡ length (ahead k (v / 128)) + suc m = omega (arith, ahead_length k v z) in
    rw (n, ahead_more k v z, append_assoc) (ahead_is_number k (v / 128) (suc m) ((128 + v % 128) ∷ t) ∙ is_number_more m (128 + v % 128) t (omega arith)))
    (eq-zero-or-pos v)

ahead_value : (k v : ℕ) (t : List ℕ) → v < 128 ^ k → value_from 0 (ahead k v ++ t) ≡ value_from v t
unfolding ahead value_from
ahead_value zero v t f = let z : v ≡ 0 = omega arith in rw z
ahead_value (suc k) v t f =
    ⊎_elim (λ z. rw (ahead_none (suc k) v z, z))
    (λ p.
    let z : v ≡ 0 → ⊥ = λ e. omega arith in
    let j : joined (v / 128) (128 + v % 128) ≡ v = omega arith in
    rw (ahead_more k v z, append_assoc)
    (ahead_value k (v / 128) ((128 + v % 128) ∷ t) (omega (arith, pow-suc 128 k)) ∙ ap (λ (n : ℕ). value_from n t) j))
    (eq-zero-or-pos v)

pub encode_is_number : (v : ℕ) → is_number 4 (encode_number v) ≡ true
unfolding encode_number is_number
encode_is_number v =
    let n : 4 ≡ length (ahead 3 (v / 128)) + suc (3 - length (ahead 3 (v / 128))) = omega (arith, encode_length v, encode_most v) in
    rw n (ahead_is_number 3 (v / 128) (suc (3 - length (ahead 3 (v / 128)))) ((v % 128) ∷ []) ∙ rw (lt-ltb (v % 128) 128 (omega arith)))

pub encode_value : (v : ℕ) → v < 2 ^ 28 → value_from 0 (encode_number v) ≡ v
unfolding encode_number value_from
encode_value v f = ahead_value 3 (v / 128) ((v % 128) ∷ []) (omega arith) ∙ omega arith

-- Reading

pub none_nil : (bs : List ℕ) → no_more bs ≡ true → bs ≡ []
none_nil [] h = refl
none_nil (b ∷ bs) h = let z : ◌≡◌ {A = ℕ} 0 1 = cc in absurd (omega arith)

-- what SMF calls a number is read as its value, in both modes, whatever follows
number_read : (rules : Rules) (k bits : ℕ) (n rest : List ℕ) → is_number k n ≡ true
    → number_from rules k bits (n ++ rest) ≡ gives (numeral (value_from bits n) rest)
unfolding is_number number_from value_from
number_read rules zero bits n rest h = let z : ◌≡◌ {A = ℕ} 0 1 = cc in absurd (omega arith)
number_read rules (suc k) bits [] rest h = let z : ◌≡◌ {A = ℕ} 0 1 = cc in absurd (omega arith)
number_read rules (suc k) bits (b ∷ bs) rest h = by (ltb b 128) (λ e. number_read rules k (joined bits b) bs rest e) h where
  by : (t : Bool) → (is_number k bs ≡ true → number_from rules k (joined bits b) (bs ++ rest) ≡ gives (numeral (value_from (joined bits b) bs) rest))
      → pick t (no_more bs) (is_number k bs) ≡ true
      → pick t (gives (numeral (joined bits b) (bs ++ rest))) (number_from rules k (joined bits b) (bs ++ rest))
      ≡ gives (numeral (value_from (joined bits b) bs) rest)
  by true go e = rw (none_nil bs e)
  by false go e = go e

pub smf_read : (rules : Rules) (n rest : List ℕ) → is_number 4 n ≡ true → read_number rules (n ++ rest) ≡ gives (numeral (value_from 0 n) rest)
unfolding read_number
smf_read rules n rest h = number_read rules 4 0 n rest h

-- a number written is read back, in both modes, whatever follows
pub reads_back : (rules : Rules) (v : ℕ) (rest : List ℕ) → v < 2 ^ 28 → read_number rules (encode_number v ++ rest) ≡ gives (numeral v rest)
reads_back rules v rest f = smf_read rules (encode_number v) rest (encode_is_number v) ∙ ap (λ (n : ℕ). gives (numeral n rest)) (encode_value v f)

-- and has no padding
pub encode_unpadded : (v : ℕ) (rest : List ℕ) → padding_of (encode_number v ++ rest) (numeral v rest) ≡ 0
encode_unpadded v rest = omega (arith, length-append (encode_number v) rest)

-- What is read, from s on, after j bytes whose bits are below 128 to the j, of at most k more
pub record Walked (rules : Rules) (k j bits : ℕ) (s : List ℕ) (n : Numeral) : Type 0 where
  pub count : ℕ
  pub most : count ≤ k
  pub whole : length s ≡ count + length n.rest
  pub tail : n.rest ≡ drop count s
  pub means : n.value ≡ value_from bits (take count s)
  pub below : n.value < 128 ^ (j + count)
  pub started : 0 < k → (s ≡ []) ⊎ (0 < count)
  pub moved : rules.strict ≡ true → 0 < count
  pub smf : rules.strict ≡ true → is_number k (take count s) ≡ true

-- a refusal is strict's alone
abbrev pub Good : Rules → ℕ → ℕ → ℕ → List ℕ → Answer Numeral → Type 0
Good rules k j bits s (gives n) = Walked rules k j bits s n
Good rules k j bits s (refuses m) = rules.strict ≡ true

-- none taken, which strict reading never answers
stays : (rules : Rules) (k j bits : ℕ) (s : List ℕ) → bits < 128 ^ j → (0 < k → s ≡ []) → rules.strict ≡ false → Walked rules k j bits s (numeral bits s)
unfolding value_from
stays rules k j bits s f e lenient =
    record {
      count = 0;
      most = omega arith;
      whole = omega arith;
      tail = refl;
      means = refl;
      below = rw add-zero f;
      started = λ p. inl (e p);
      moved = λ q. let z : ◌≡◌ {A = ℕ} 0 1 = cc in absurd (omega arith);
      smf = λ q. let z : ◌≡◌ {A = ℕ} 0 1 = cc in absurd (omega arith);
    }

-- one more byte, and then what the rest gives
onward : (rules : Rules) (k j bits b : ℕ) (bs : List ℕ) → 128 ≤ b → (a : Answer Numeral)
    → Good rules k (suc j) (joined bits b) bs a → Good rules (suc k) j bits (b ∷ bs) a
unfolding value_from is_number
onward rules k j bits b bs h (refuses m) g = g
onward rules k j bits b bs h (gives n) g =
    let e : j + suc g.count ≡ suc j + g.count = omega arith in
    record {
      count = suc g.count;
      most = omega (arith, g.most);
      whole = omega (arith, g.whole);
      tail = g.tail;
      means = g.means;
      below = rw e g.below;
      started = λ p. inr (omega arith);
      moved = λ q. omega arith;
      smf = λ q. rw (le-ltb b 128 h) (g.smf q);
    }

walk : (rules : Rules) (k j bits : ℕ) (s : List ℕ) → bits < 128 ^ j → Good rules k j bits s (number_from rules k bits s)
unfolding number_from is_number value_from
walk rules zero j bits s f = pick_test (Good rules zero j bits s) rules.strict (λ t. t) (λ t. stays rules zero j bits s f (λ p. absurd (omega arith)) t)
walk rules (suc k) j bits [] f = pick_test (Good rules (suc k) j bits []) rules.strict (λ t. t) (λ t. stays rules (suc k) j bits [] f (λ p. refl) t)
walk rules (suc k) j bits (b ∷ bs) f =
    pick_test (Good rules (suc k) j bits (b ∷ bs)) (ltb b 128)
    (λ t.
    record {
      count = 1;
      most = omega arith;
      whole = omega arith;
      tail = refl;
      means = refl;
      below = rw add-one (omega (arith, pow-suc 128 j));
      started = λ p. inr (omega arith);
      moved = λ q. omega arith;
      smf = λ q. rw t;
    })
    (λ t. onward rules k j bits b bs (ltb-false b 128 t) (number_from rules k (joined bits b) bs) (walk rules k (suc j) (joined bits b) bs (omega (arith, pow-suc 128 j))))

pub read_walked : (rules : Rules) (s : List ℕ) → Good rules 4 0 0 s (read_number rules s)
unfolding read_number
read_walked rules s = walk rules 4 0 0 s (omega arith)

-- What is read: below 2^28, from within the bytes, at most four of them; and its shortest form takes no more of them, unless there are none
pub record Took (rules : Rules) (s : List ℕ) (n : Numeral) : Type 0 where
  pub small : n.value < 2 ^ 28
  pub within : length n.rest ≤ length s
  pub most : length s ≤ 4 + length n.rest
  pub tail : n.rest ≡ drop (length s - length n.rest) s
  pub fewest : (s ≡ []) ⊎ (length (encode_number n.value) + length n.rest ≤ length s)

few : (s : List ℕ) (n : Numeral) (c : ℕ) → 0 < c → n.value < 128 ^ c → length s ≡ c + length n.rest → length (encode_number n.value) + length n.rest ≤ length s
few s n zero p b e = absurd (omega arith)
few s n (suc c) p b e = omega (arith, encode_fits c n.value b)

took : (rules : Rules) (s : List ℕ) (n : Numeral) → Walked rules 4 0 0 s n → Took rules s n
took rules s n w =
    let c : length s - length n.rest ≡ w.count = omega (arith, w.whole) in
    let z : 0 + w.count ≡ w.count = zero-add w.count in
    let b : n.value < 128 ^ w.count = rw z at w.below in
    record {
      small = omega (arith, b, pow-le-pow_right {n = 128} (omega arith) {i = w.count} {j = 4} w.most);
      within = omega (arith, w.whole);
      most = omega (arith, w.whole, w.most);
      tail = rw c w.tail;
      fewest = ⊎_elim (λ e. inl e) (λ p. inr (few s n w.count p b w.whole)) (w.started (omega arith));
    }

abbrev pub NumberTook : Rules → List ℕ → Answer Numeral → Type 0
NumberTook rules s (gives n) = Took rules s n
NumberTook rules s (refuses m) = rules.strict ≡ true

pub read_took : (rules : Rules) (s : List ℕ) → NumberTook rules s (read_number rules s)
read_took rules s = by (read_number rules s) (read_walked rules s) where
  by : (a : Answer Numeral) → Good rules 4 0 0 s a → NumberTook rules s a
  by (gives n) g = took rules s n g
  by (refuses m) g = g

-- no byte string read strictly as a number is shorter than the number's encoding, and what is read strictly is SMF's
module _ (rules : Rules) (strict : rules.strict ≡ true) (s : List ℕ) (n : Numeral) (read : read_number rules s ≡ gives n) where
  pub shortest : length (encode_number n.value) + length n.rest ≤ length s
  shortest =
      let w : Walked rules 4 0 0 s n = said_of (Good rules 4 0 0 s) (read_walked rules s) read in
      few s n w.count (w.moved strict) (rw zero-add at w.below) w.whole

  pub smf_number : (used : List ℕ) × (s ≡ used ++ n.rest) × (is_number 4 used ≡ true) × (n.value ≡ value_from 0 used)
  smf_number =
      let w : Walked rules 4 0 0 s n = said_of (Good rules 4 0 0 s) (read_walked rules s) read in
      (take w.count s, sym (ap (λ (l : List ℕ). take w.count s ++ l) w.tail ∙ take-append-drop w.count s), w.smf strict, w.means)

-- lenient reading never refuses
pub lenient_reads : (rules : Rules) → rules.strict ≡ false → (s : List ℕ) → (n : Numeral) × (read_number rules s ≡ gives n)
lenient_reads rules lenient s = by (read_number rules s) (read_walked rules s) refl where
  by : (a : Answer Numeral) → Good rules 4 0 0 s a → read_number rules s ≡ a → (n : Numeral) × (read_number rules s ≡ gives n)
  by (gives n) g e = (n, e)
  by (refuses m) g e = let z : ◌≡◌ {A = ℕ} 0 1 = cc in absurd (omega arith)

-- what strict reading accepts, lenient reads alike
from_alike : (rules : Rules) (k bits : ℕ) (s : List ℕ) → Alike (number_from rules k bits s) (number_from (leniently rules) k bits s)
unfolding number_from
from_alike rules zero bits s = strictly_alike rules 3 (numeral bits s)
from_alike rules (suc k) bits [] = strictly_alike rules 2 (numeral bits [])
from_alike rules (suc k) bits (b ∷ bs) = pick_alike Alike (ltb b 128) refl (from_alike rules k (joined bits b) bs)

pub number_alike : (rules : Rules) (s : List ℕ) → Alike (read_number rules s) (read_number (leniently rules) s)
unfolding read_number
number_alike rules s = from_alike rules 4 0 s

-- padding is read: 80 00 is 0
pub padding : (rules : Rules) (rest : List ℕ) → read_number rules (0x80 ∷ 0x00 ∷ rest) ≡ gives (numeral 0 rest)
unfolding read_number number_from
padding rules rest = refl
