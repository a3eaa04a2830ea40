-- `same_row_lists` meets its contract: the counts, then the rows, then the events.
use mathlib.Core.Path.{sym, ap, ◌∙◌}
use Prim.Native.Nat.{ℕ}
use Rattle.track.specs.List.{capacity}
use Rattle.rows.specs.RowLists.{are_rows}
use Rattle.same.proofs.Asked.{first_many, second_many, first_no_rows, second_no_rows, all_rows, counts_apart}
use Rattle.same.proofs.of_rows.same_row_lists.Goals as goal
use Rattle.same.proofs.of_rows.same_row_lists.Goals.{then-a_count-gt-CAPACITY-via-then-a_count-gt-CAPACITY, then-a_count-gt-CAPACITY-via-else-a_count-gt-CAPACITY+then-b_count-gt-CAPACITY, then-not-are_rows-via-then-not-are_rows, then-not-are_rows-via-else-not-are_rows+then-not-are_rows-2}

pub returns-then-a_count-gt-CAPACITY : goal.returns-then-a_count-gt-CAPACITY
returns-then-a_count-gt-CAPACITY c =
    let a = c.args in
    elim c.then-a_count-gt-CAPACITY.branch [
      | then-a_count-gt-CAPACITY-via-then-a_count-gt-CAPACITY w ↦ rw (first_many capacity a.a.now a.a_count a.b.now a.b_count w.if-a_count-gt-CAPACITY.true)
      | then-a_count-gt-CAPACITY-via-else-a_count-gt-CAPACITY+then-b_count-gt-CAPACITY w ↦ rw (second_many capacity a.a.now a.a_count a.b.now a.b_count w.if-b_count-gt-CAPACITY.true)
    ]

pub returns-then-not-are_rows : goal.returns-then-not-are_rows
returns-then-not-are_rows c =
    let a = c.args in
    elim c.then-not-are_rows.branch [
      | then-not-are_rows-via-then-not-are_rows w ↦ rw (first_no_rows capacity a.a.now a.a_count a.b.now a.b_count c.if-a_count-gt-CAPACITY.false c.if-b_count-gt-CAPACITY.false (sym c.are_rows.ensures ∙ w.if-not-are_rows.true))
      | then-not-are_rows-via-else-not-are_rows+then-not-are_rows-2 w ↦ rw (second_no_rows capacity a.a.now a.a_count a.b.now a.b_count c.if-a_count-gt-CAPACITY.false c.if-b_count-gt-CAPACITY.false (sym w.are_rows-else-not-are_rows.ensures ∙ w.if-not-are_rows-2.true))
    ]

pub returns-then-a_count-b_count : goal.returns-then-a_count-b_count
returns-then-a_count-b_count c =
    let a = c.args in
    let q = c.are_rows in
    let r = c.are_rows-else-not-are_rows in
    rw (all_rows capacity a.a.now a.a_count a.b.now a.b_count c.if-a_count-gt-CAPACITY.false c.if-b_count-gt-CAPACITY.false (sym q.ensures ∙ c.if-not-are_rows.false) (sym r.ensures ∙ c.if-not-are_rows-2.false))
    (counts_apart _ _ _ _ _ _ c.if-a_count-b_count.true)

pub same_all-requires : goal.same_all-requires
same_all-requires c =
    let a = c.args in
    let q = c.are_rows in
    let r = c.are_rows-else-not-are_rows in
    record {
      count_le_capacity = c.if-a_count-gt-CAPACITY.false;
      a_value = sym q.ensures ∙ c.if-not-are_rows.false;
      b_value = ap (λ (n : ℕ). are_rows n a.b.now) c.if-a_count-b_count.false ∙ sym r.ensures ∙ c.if-not-are_rows-2.false;
    }

pub returns : goal.returns
returns c =
    let a = c.args in
    let q = c.are_rows in
    let r = c.are_rows-else-not-are_rows in
    rw (all_rows capacity a.a.now a.a_count a.b.now a.b_count c.if-a_count-gt-CAPACITY.false c.if-b_count-gt-CAPACITY.false (sym q.ensures ∙ c.if-not-are_rows.false) (sym r.ensures ∙ c.if-not-are_rows-2.false), ← c.if-a_count-b_count.false)
    c.same_all.ensures
