-- `Fps::as_f32` meets its contract: each arm knows which rate it is at, and its literal is the float that the definition rounds to.
use lib.Ieee.{of_bits, of_int, round}
use Rattle.smf.specs.Seconds.{rate_float}
use Rattle.header.proofs.Fps.as_f32.Goals as goal

pub returns-in-Fps24 : goal.returns-in-Fps24
unfolding rate_float of_bits of_int round
returns-in-Fps24 c = rw c.in-Fps24.is

pub returns-in-Fps25 : goal.returns-in-Fps25
unfolding rate_float of_bits of_int round
returns-in-Fps25 c = rw c.in-Fps25.is

pub returns-in-Fps29 : goal.returns-in-Fps29
unfolding rate_float of_bits of_int round
returns-in-Fps29 c = rw c.in-Fps29.is

pub returns-in-Fps30 : goal.returns-in-Fps30
unfolding rate_float of_bits of_int round
returns-in-Fps30 c = rw c.in-Fps30.is
