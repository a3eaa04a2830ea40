-- What a call says that gives a value or is refused, in the terms of the definitions.
use Rattle.std.specs.Prelude.{Result, Ok, Err}
use Rattle.smf.specs.Answer.{Answer, gives, refuses}
use Rattle.base.specs.Refusal.{number_of}
use Rattle.base.specs.declared.Refusal.{Refusal}

-- what its value says, or the refusal's number
abbrev pub said : {A B : Type 0} → (A → B) → Result A Refusal → Answer B
said f (Ok x) = gives (f x)
said f (Err n) = refuses (number_of n)
