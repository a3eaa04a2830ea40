-- A list is written where it has a size and there is room for it.
use Rattle.std.specs.Prelude.{Result, Ok}
use Rattle.std.proofs.lemmas.Result.{err_from_is_err_and}
use mathlib.Core.Path.{◌≡◌, sym, ap, ◌∙◌}
use Rattle.smf.specs.Lists.{ListSize, wrote}
use Rattle.base.specs.Refusal.{number_of}
use Rattle.track.specs.List.{capacity}
use Rattle.write.specs.ListAnswers.{size_said}
use Rattle.write.specs.declared.answer.ListRefused.{ListRefused}
use Rattle.write.specs.declared.answer.Size.{Size}
use Rattle.write.proofs.Sizes.{unsized_left, sized_few, sized_fits, sized_full, sized_put}
use Rattle.write.proofs.events.write_all.Goals as goal

-- the list has this size
size_there : (answer : Result Size ListRefused) (s : Size) (z : ListSize) → answer ≡ Ok s → size_said answer ≡ z → record { answer = wrote s.length; running = s.running.status } ≡ z
size_there answer s z e said = sym (ap size_said e) ∙ said

pub returns-in_err-size : goal.returns-in_err-size
returns-in_err-size g c =
    let a = c.args in
    let n = c.in_err-size.field-0.0 in
    let p = err_from_is_err_and c.from_residual.result c.from_residual.ensures.1 in
    rw (p.1, p.2)
    (unsized_left capacity a.running.status (g.E.Events.judged a.events.now) a.count a.out.now n.running.status (number_of n.refusal) n.index (sym (ap size_said c.in_err-size.was) ∙ c.length_of.ensures))

pub returns-then-out-size : goal.returns-then-out-size
returns-then-out-size g c =
    let a = c.args in
    let s = c.in_ok-size.size in
    rw c.refused.ensures
    (sized_full capacity a.running.status (g.E.Events.judged a.events.now) a.count a.out.now s.length s.running.status (size_there _ s _ c.in_ok-size.was c.length_of.ensures) c.if-out-size.true)

pub put_all-requires : goal.put_all-requires
put_all-requires g c =
    let a = c.args in
    let s = c.in_ok-size.size in
    let there = size_there _ s _ c.in_ok-size.was c.length_of.ensures in
    let few = sized_few capacity a.running.status (g.E.Events.judged a.events.now) a.count a.out.now s.length s.running.status there in
    record {
      count_le_capacity = (few, c.requires few);
      room_for = sized_fits capacity a.running.status (g.E.Events.judged a.events.now) a.count a.out.now s.length s.running.status there c.if-out-size.false;
    }

pub returns : goal.returns
returns g c =
    let a = c.args in
    let s = c.in_ok-size.size in
    sized_put capacity a.running.status (g.E.Events.judged a.events.now) a.count a.out.now s.length s.running.status (size_there _ s _ c.in_ok-size.was c.length_of.ensures)
    c.if-out-size.false _ c.put_all.ensures
