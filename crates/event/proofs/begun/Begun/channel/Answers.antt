-- `channel` meets its contract.
use mathlib.Core.Path.{◌≡◌, ◌∙◌, sym}
use native.Mathlib.Omega.{arith}
use Prim.Native.Nat.{◌+◌, ◌<◌}
use lib.ListN.{length}
use Rattle.smf.specs.Wire.{data_length}
use Rattle.smf.proofs.Reading.{channel_length, data_some, data_short, data_top, data_one, data_more, data_second_top, data_two}
use Rattle.base.specs.Rules.{rules_of}
use Rattle.event.specs.Begun.{delta_of}
use Rattle.event.proofs.begun.Begun.channel.Goals as goal
use Rattle.event.proofs.begun.Begun.channel.Goals.{After-msg_length-len, Else-len-eq1}

-- the table's length is the data's, for a channel status
len : (c : After-msg_length-len) → c.msg_length-len.result ≡ data_length c.args.status
len c = c.msg_length-len.ensures ∙ channel_length c.args.status c.requires.0 c.requires.1

-- past a first data byte that is not the only one there is a second
more : (c : Else-len-eq1) → c.args.self.at + 1 < length c.args.self.raw.now
more c =
    let a = c.args in
    let length-is : c.msg_length-len.result ≡ data_length a.status = c.msg_length-len.ensures ∙ channel_length a.status c.requires.0 c.requires.1 in
    data_more (rules_of a.self.rules) a.self.raw.now a.self.start a.self.at a.status (delta_of a.self) c.args.self.sited (omega (arith, length-is, c.saturating_sub.ensures, c.from.ensures, c.if-saturating_sub-from.false)) (λ e. c.if-len-eq1.false (length-is ∙ e)) c.if-first-ge128.false

pub returns-then-saturating_sub-from : goal.returns-then-saturating_sub-from
returns-then-saturating_sub-from c =
    let a = c.args in
    c.refused.ensures
    ∙ data_short (rules_of a.self.rules) a.self.raw.now a.self.start a.self.at a.status (delta_of a.self) c.args.self.sited (omega (arith, len (goal.at.returns-then-saturating_sub-from c).After-msg_length-len, c.saturating_sub.ensures, c.from.ensures, c.if-saturating_sub-from.true))

pub bounds-raw-at : goal.bounds-raw-at
bounds-raw-at c = omega (arith, len (goal.at.bounds-raw-at c).After-msg_length-len, c.saturating_sub.ensures, c.from.ensures, data_some c.args.status)

pub returns-then-first-ge128 : goal.returns-then-first-ge128
returns-then-first-ge128 c =
    let a = c.args in
    c.refused-then-first-ge128.ensures
    ∙ data_top (rules_of a.self.rules) a.self.raw.now a.self.start a.self.at a.status (delta_of a.self) c.args.self.sited (omega (arith, len (goal.at.returns-then-first-ge128 c).After-msg_length-len, c.saturating_sub.ensures, c.from.ensures, c.if-saturating_sub-from.false)) c.if-first-ge128.true

pub returns-then-len-eq1 : goal.returns-then-len-eq1
returns-then-len-eq1 c =
    let a = c.args in
    c.event.ensures
    ∙ rw c.read-message.ensures (data_one (rules_of a.self.rules) a.self.raw.now a.self.start a.self.at a.status (delta_of a.self) c.args.self.sited 0 (omega (arith, len (goal.at.returns-then-len-eq1 c).After-msg_length-len, c.saturating_sub.ensures, c.from.ensures, c.if-saturating_sub-from.false)) (sym (len (goal.at.returns-then-len-eq1 c).After-msg_length-len) ∙ c.if-len-eq1.true) c.if-first-ge128.false)

pub overflow_add-second : goal.overflow_add-second
overflow_add-second c = omega (arith, more (goal.at.overflow_add-second c).Else-len-eq1)

pub bounds-raw-at-2 : goal.bounds-raw-at-2
bounds-raw-at-2 c = omega (arith, more (goal.at.bounds-raw-at-2 c).Else-len-eq1)

pub returns-then-second-ge128 : goal.returns-then-second-ge128
returns-then-second-ge128 c =
    let a = c.args in
    c.refused-then-second-ge128.ensures
    ∙ data_second_top (rules_of a.self.rules) a.self.raw.now a.self.start a.self.at a.status (delta_of a.self) c.args.self.sited (omega (arith, len (goal.at.returns-then-second-ge128 c).After-msg_length-len, c.saturating_sub.ensures, c.from.ensures, c.if-saturating_sub-from.false)) (λ e. c.if-len-eq1.false (len (goal.at.returns-then-second-ge128 c).After-msg_length-len ∙ e)) c.if-first-ge128.false c.if-second-ge128.true

pub overflow_add-at-2 : goal.overflow_add-at-2
overflow_add-at-2 c = omega (arith, more (goal.at.overflow_add-at-2 c).Else-len-eq1)

pub returns : goal.returns
returns c =
    let a = c.args in
    c.event-2.ensures
    ∙ rw c.read-message-2.ensures (data_two (rules_of a.self.rules) a.self.raw.now a.self.start a.self.at a.status (delta_of a.self) c.args.self.sited (omega (arith, len (goal.at.returns c).After-msg_length-len, c.saturating_sub.ensures, c.from.ensures, c.if-saturating_sub-from.false)) (λ e. c.if-len-eq1.false (len (goal.at.returns c).After-msg_length-len ∙ e)) c.if-first-ge128.false c.if-second-ge128.false)
