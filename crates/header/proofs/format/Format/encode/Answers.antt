-- `Format::encode` meets its contract: each arm knows which format it is at.
use Rattle.smf.specs.Header.{format_bytes}
use Rattle.header.proofs.format.Format.encode.Goals as goal

pub returns-in-SingleTrack : goal.returns-in-SingleTrack
unfolding format_bytes
returns-in-SingleTrack c = rw c.in-SingleTrack.is

pub returns-in-Parallel : goal.returns-in-Parallel
unfolding format_bytes
returns-in-Parallel c = rw c.in-Parallel.is

pub returns-in-Sequential : goal.returns-in-Sequential
unfolding format_bytes
returns-in-Sequential c = rw c.in-Sequential.is
