-- `time` meets its contract, by what `encode` answers.
use mathlib.Core.Path.{◌∙◌}
use Rattle.base.specs.Rules.{rules_of}
use Rattle.header.specs.Smpte.{smpte_time_of}
use Rattle.write.proofs.Forms.{time_given_lem, time_refused}
use Rattle.write.proofs.make.time.Goals as goal

pub returns : goal.returns
returns c = let a = c.args in λ bytes. c.fixed.ensures bytes ∙ time_given_lem (rules_of a.rules) bytes (smpte_time_of a.time) _ _ c.encode.ensures c.in-Ok.is

pub returns-in_default : goal.returns-in_default
returns-in_default c = let a = c.args in λ bytes. time_refused (rules_of a.rules) bytes (smpte_time_of a.time) _ _ c.encode.ensures c.in_default.is
