-- What every definition here is made of: a choice by a test, an answer that may refuse, and the rules of reading.
use Rattle.std.specs.Prelude.{Bool, true, false, ℕ}

-- the first where the test holds, else the second
abbrev pub pick : {A : Type 0} → Bool → A → A → A
pick true a b = a
pick false a b = b

-- what is answered: a value, or a refusal by its number in document 01's table
pub data Answer (A : Type 0) : Type 0 where
  gives : A → Answer A
  refuses : ℕ → Answer A

-- a test that must hold: else what is asked for is refused by this number
abbrev pub unless : {A : Type 0} → Bool → ℕ → Answer A → Answer A
unless test n a = pick test a (refuses n)

-- go on with the value; a refusal stays what it is
abbrev pub and_then : {A B : Type 0} → Answer A → (A → Answer B) → Answer B
and_then (gives a) f = f a
and_then (refuses n) f = refuses n

-- the rules by which bytes are read and written
pub record Rules : Type 0 where
  pub strict : Bool

-- document 01: what strict reading refuses by a number, lenient reading takes as it stands
abbrev pub strictly : {A : Type 0} → Rules → ℕ → A → Answer A
strictly rules n a = pick rules.strict (refuses n) (gives a)

-- the same rules, read strictly
abbrev pub strict_of : Rules → Rules
strict_of rules = record { strict = true }

-- the same rules, read leniently
abbrev pub leniently : Rules → Rules
leniently rules = record { strict = false }
