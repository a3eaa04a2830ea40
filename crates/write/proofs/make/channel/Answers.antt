-- `channel` meets its contract, test by test.
use borrow.Author.Tests.{lt-ltb, le-ltb}
use Rattle.write.specs.Raw.{is_sound, wire_of}
use Rattle.write.proofs.make.channel.Goals as goal
use Rattle.write.proofs.make.channel.Goals.{then-channel-ge16-via-then-channel-ge16, then-channel-ge16-via-else-channel-ge16+then-a-ge128, then-channel-ge16-via-else-channel-ge16+else-a-ge128+then-b-ge128}

pub returns-then-channel-ge16 : goal.returns-then-channel-ge16
returns-then-channel-ge16 c = λ bytes.
    elim c.then-channel-ge16.branch [
      | then-channel-ge16-via-then-channel-ge16 w ↦ rw (le-ltb c.args.channel 16 w.if-channel-ge16.true)
      | then-channel-ge16-via-else-channel-ge16+then-a-ge128 w ↦ rw (lt-ltb c.args.channel 16 w.if-channel-ge16.false, le-ltb _ _ w.if-a-ge128.true)
      | then-channel-ge16-via-else-channel-ge16+else-a-ge128+then-b-ge128 w ↦ rw (lt-ltb c.args.channel 16 w.if-channel-ge16.false, lt-ltb _ _ w.if-a-ge128.false, le-ltb _ _ w.if-b-ge128.true)
    ]

pub returns : goal.returns
unfolding is_sound wire_of
returns c = λ bytes. rw (lt-ltb c.args.channel 16 c.if-channel-ge16.false, lt-ltb _ _ c.if-a-ge128.false, lt-ltb _ _ c.if-b-ge128.false)
