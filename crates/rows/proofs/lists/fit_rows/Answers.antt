-- `fit_rows` meets its contract: the rows that were laid are too many for the cells, or are copied into them.
use mathlib.Core.List.{List}
use mathlib.Core.Path.{◌≡◌}
use Prim.Native.Nat.{ℕ, ◌*◌, ◌≤◌}
use native.Mathlib.Omega.{arith}
use lib.ListN.{length, replicate, take}
use lib.Seq.{length-take-le}
use Rattle.smf.specs.Lists.{ListAt, list_at}
use Rattle.base.specs.Rules.{rules_of}
use Rattle.track.specs.List.{capacity}
use Rattle.track.proofs.Reading.{few}
use Rattle.rows.specs.Rows.{width}
use Rattle.rows.specs.Read.{rows_read}
use Rattle.rows.proofs.CellsFit.{few_laid, fitted, short}
use Rattle.rows.proofs.lists.fit_rows.Goals as goal
use Rattle.rows.proofs.lists.fit_rows.Goals.{After-lay_rows-read}

-- the list that is read, and cells for a full one
abbrev list : After-lay_rows-read → ListAt
list c = let a = c.args in list_at (rules_of a.rules) capacity a.running.status a.raw.now a.at

abbrev noughts : List ℕ
noughts = replicate (capacity * width) 0

room : (c : After-lay_rows-read) → length (list c).events ≤ capacity
room c = let a = c.args in few capacity (rules_of a.rules) a.raw.now a.at a.running.status

enough : (c : After-lay_rows-read) → length (list c).events * width ≤ length noughts
enough c = omega (arith, room c)

counted : (c : After-lay_rows-read) → c.lay_rows-read.result.count ≤ capacity
counted c = omega (arith, room c, few_laid (list c) noughts _ (rows_read c.lay_rows-read.result) (enough c) c.lay_rows-read.ensures)

pub overflow_mul-n : goal.overflow_mul-n
overflow_mul-n c = record { fits = omega (arith, counted (goal.at.overflow_mul-n c).After-lay_rows-read) }

pub returns-then-rows-n : goal.returns-then-rows-n
returns-then-rows-n c =
    let p = (goal.at.returns-then-rows-n c).After-lay_rows-read in
    short (list p) noughts _ (rows_read c.lay_rows-read.result) (enough p) c.lay_rows-read.ensures c.args.rows.now c.if-rows-n.true

-- the cells of the rows that were read are there
within : (c : After-lay_rows-read) → c.lay_rows-read.result.count * width ≤ length c.lay_rows-read.new.rows
within c = omega (arith, counted c, c.lay_rows-read.auto.rows)

cut : (c : After-lay_rows-read) → length (take (c.lay_rows-read.result.count * width) c.lay_rows-read.new.rows) ≡ c.lay_rows-read.result.count * width
cut c = length-take-le (c.lay_rows-read.result.count * width) c.lay_rows-read.new.rows (within c)

pub slice_bounds-cells-end : goal.slice_bounds-cells-end
slice_bounds-cells-end c = within (goal.at.slice_bounds-cells-end c).After-lay_rows-read

pub slice_bounds-copy_cells-end : goal.slice_bounds-copy_cells-end
slice_bounds-copy_cells-end c = omega (arith, within (goal.at.slice_bounds-copy_cells-end c).After-lay_rows-read, cut (goal.at.slice_bounds-copy_cells-end c).After-lay_rows-read)

pub copy_cells-requires : goal.copy_cells-requires
copy_cells-requires c = omega (arith, cut (goal.at.copy_cells-requires c).After-lay_rows-read)

pub returns : goal.returns
returns c =
    let p = (goal.at.returns c).After-lay_rows-read in
    rw c.copy_cells.ensures
    (fitted (list p) noughts _ (rows_read c.lay_rows-read.result) (enough p) c.lay_rows-read.ensures c.args.rows.now c.if-rows-n.false)
