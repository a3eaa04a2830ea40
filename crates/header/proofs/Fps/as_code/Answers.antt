-- `Fps::as_code` meets its contract: each arm knows which rate it is at.
use Rattle.smf.specs.Smpte.{code_of_rate}
use Rattle.header.proofs.Fps.as_code.Goals as goal

pub returns-in-Fps24 : goal.returns-in-Fps24
unfolding code_of_rate
returns-in-Fps24 c = rw c.in-Fps24.is

pub returns-in-Fps25 : goal.returns-in-Fps25
unfolding code_of_rate
returns-in-Fps25 c = rw c.in-Fps25.is

pub returns-in-Fps29 : goal.returns-in-Fps29
unfolding code_of_rate
returns-in-Fps29 c = rw c.in-Fps29.is

pub returns-in-Fps30 : goal.returns-in-Fps30
unfolding code_of_rate
returns-in-Fps30 c = rw c.in-Fps30.is
