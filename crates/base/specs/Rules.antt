-- The rules of a call, as the definitions take them.
use Rattle.smf.specs.Answer as smf
use Rattle.base.specs.declared.Rules.{Rules}

-- the rules that a value of the code says, field for field
abbrev pub rules_of : Rules → smf.Rules
rules_of rules = record { strict = rules.strict }
