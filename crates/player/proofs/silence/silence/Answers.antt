-- `silence` meets its contract: the channel and the key are within their widths, or nothing is silenced.
use borrow.Author.Tests.{le-ltb, lt-ltb}
use Rattle.player.specs.Sounding.{silence}
use Rattle.player.specs.Answers.{beside}
use Rattle.player.proofs.silence.silence.Goals as goal

pub returns-then-channel-ge16 : goal.returns-then-channel-ge16
unfolding silence beside
returns-then-channel-ge16 c = rw (le-ltb _ _ c.if-channel-ge16.true)

pub returns-then-key-ge128 : goal.returns-then-key-ge128
unfolding silence beside
returns-then-key-ge128 c = rw (lt-ltb _ _ c.if-channel-ge16.false, le-ltb _ _ c.if-key-ge128.true)

pub returns : goal.returns
unfolding silence beside
returns c =
    rw (c.silence_from.ensures, c.key_place.ensures, lt-ltb _ _ c.if-channel-ge16.false, lt-ltb _ _ c.if-key-ge128.false)
