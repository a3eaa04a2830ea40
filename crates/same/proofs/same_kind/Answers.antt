-- `same_kind` meets its contract: kinds are the same where the numbers of their rows and the bytes of their payloads agree.
use Rattle.same.proofs.RowKinds.{fields_differ, load_tells}
use Rattle.same.proofs.same_kind.Goals as goal

pub returns-then-same_fields : goal.returns-then-same_fields
returns-then-same_fields c =
    load_tells _ _ c.args.a c.args.b _ _ c.kind_row-a_row.ensures c.kind_row-b_row.ensures _ _ c.well_formed.0 c.well_formed.1.1.0
    c.same_fields.result c.same_load.result c.same_fields.ensures c.if-same_fields.true c.same_load.ensures

pub returns-else-same_fields : goal.returns-else-same_fields
returns-else-same_fields c =
    rw c.if-same_fields.false (fields_differ _ _ c.args.a c.args.b _ _ c.kind_row-a_row.ensures c.kind_row-b_row.ensures c.same_fields.result c.same_fields.ensures c.if-same_fields.false)
