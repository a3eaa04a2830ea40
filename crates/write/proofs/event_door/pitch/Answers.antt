-- `pitch` meets its contract: seven bits and seven are fourteen.
use Rattle.write.proofs.Forms.{bend_fits}
use Rattle.write.proofs.event_door.pitch.Goals as goal

pub returns : goal.returns
returns c = λ bytes. rw (← bend_fits c.args.bend) (c.channel.ensures bytes)
