-- What `try_from` of each restricted number answers, in the terms of the definitions: the number, or the refusal's number.
use Rattle.std.specs.Prelude.{ℕ, Result}
use Rattle.smf.specs.Answer.{Answer}
use Rattle.base.specs.Said.{said}
use Rattle.base.specs.declared.Refusal.{Refusal}
use Rattle.base.specs.declared.u2.{u2}
use Rattle.base.specs.declared.u4.{u4}
use Rattle.base.specs.declared.u7.{u7}
use Rattle.base.specs.declared.u14.{u14}
use Rattle.base.specs.declared.u15.{u15}
use Rattle.base.specs.declared.u24.{u24}

-- what `u2::try_from` answers
abbrev pub tried_u2 : Result u2 Refusal → Answer ℕ
tried_u2 = said (λ x. x.0)

-- what `u4::try_from` answers
abbrev pub tried_u4 : Result u4 Refusal → Answer ℕ
tried_u4 = said (λ x. x.0)

-- what `u7::try_from` answers
abbrev pub tried_u7 : Result u7 Refusal → Answer ℕ
tried_u7 = said (λ x. x.0)

-- what `u14::try_from` answers
abbrev pub tried_u14 : Result u14 Refusal → Answer ℕ
tried_u14 = said (λ x. x.0)

-- what `u15::try_from` answers
abbrev pub tried_u15 : Result u15 Refusal → Answer ℕ
tried_u15 = said (λ x. x.0)

-- what `u24::try_from` answers
abbrev pub tried_u24 : Result u24 Refusal → Answer ℕ
tried_u24 = said (λ x. x.0)
