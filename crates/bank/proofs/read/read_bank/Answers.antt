-- `read_bank` meets its contract, test by test.
use mathlib.Core.Path.{sym, ap, ◌∙◌}
use mathlib.Core.List.{List}
use Prim.Native.Nat.{ℕ}
use native.Mathlib.Omega.{arith}
use lib.ListN.{length}
use Rattle.smf.specs.Answer.{Answer, unless, gives}
use Rattle.smf.specs.Place.{Span}
use Rattle.bank.specs.Bank.{most_tracks, behind_entries}
use Rattle.bank.specs.Read.{entry_at, ranges, no_gap}
use Rattle.bank.specs.Answers.{BankAnswer, bank_answer}
use Rattle.bank.proofs.Tested.{no_count, many, short, large, other_total, walked}
use Rattle.bank.proofs.read.read_bank.Goals as goal

-- what is asked, by the answer of the definition
abbrev asked : Answer (List Span) → BankAnswer
asked = bank_answer most_tracks

pub returns-then-size-lt4 : goal.returns-then-size-lt4
unfolding bank_answer
returns-then-size-lt4 c = let a = c.args in ap asked (sym (no_count most_tracks a.block.now (omega arith)))

pub returns-then-count-gt-TRACKS : goal.returns-then-count-gt-TRACKS
unfolding bank_answer
returns-then-count-gt-TRACKS c =
    let a = c.args in
    ap asked (sym (many most_tracks a.block.now (omega arith) (omega (arith, c.wide_at-count.ensures.0))))

pub returns-then-size-count : goal.returns-then-size-count
unfolding bank_answer
returns-then-size-count c =
    let a = c.args in
    let w = c.wide_at-count.ensures.0 in
    ap asked (sym (short most_tracks a.block.now (omega arith) (omega (arith, w)) (omega (arith, w))))

pub returns-then-size-gt-LARGEST : goal.returns-then-size-gt-LARGEST
unfolding bank_answer
returns-then-size-gt-LARGEST c =
    let a = c.args in
    let w = c.wide_at-count.ensures.0 in
    ap asked (sym (large most_tracks a.block.now (omega arith) (omega (arith, w)) (omega (arith, w)) (omega arith)))

pub returns-then-wide_at-size : goal.returns-then-wide_at-size
unfolding bank_answer
returns-then-wide_at-size c =
    let a = c.args in
    let w = c.wide_at-count.ensures.0 in
    ap asked (sym (other_total most_tracks a.block.now (omega arith) (omega (arith, w)) (omega (arith, w)) (omega arith) (λ e. c.if-wide_at-size.true (c.wide_at.ensures.0 ∙ e))))

pub returns : goal.returns
returns c =
    let a = c.args in
    let s = a.block.now in
    let w = c.wide_at-count.ensures.0 in
    c.read_tracks.ensures
    ∙ ap (λ (n : ℕ). asked (unless (no_gap (behind_entries n) (ranges (entry_at s) 0 n) (length s)) 26 (gives (ranges (entry_at s) 0 n)))) w
    ∙ ap asked (sym (walked most_tracks s (omega arith) (omega (arith, w)) (omega (arith, w)) (omega arith) (sym c.wide_at.ensures.0 ∙ c.if-wide_at-size.false)))
