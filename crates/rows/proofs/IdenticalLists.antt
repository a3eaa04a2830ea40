-- No two answers of `read_rows` say the same.
use Rattle.base.specs.declared.Refusal.{Refusal}
use Rattle.std.specs.Prelude.{Result}
use mathlib.Core.Path.{◌≡◌, ap}
use mathlib.Core.List.{List}
use Prim.Native.Nat.{ℕ}
use Rattle.base.proofs.Said.{said_injective}
use Rattle.track.proofs.Identical.{back_stop, same_stop}
use Rattle.rows.specs.Read.{SheetAt, SheetRead, rows_read, rows_left}
use Rattle.rows.specs.declared.lists.RowsRead.{RowsRead}

back_read : SheetAt → RowsRead
back_read s = record { count = s.count; stop = back_stop s.stop; place = s.place; running = record { status = s.running }; padding = s.padding }

same_read : (r : RowsRead) → back_read (rows_read r) ≡ r
unfolding back_read
same_read r = rw (same_stop r.stop)

pub rows_left_identical : {x y : Result RowsRead Refusal} {b d : List ℕ} → rows_left x b ≡ rows_left y d → (x ≡ y) × (b ≡ d)
rows_left_identical e = (said_injective rows_read back_read same_read (ap (λ (s : SheetRead). s.answer) e), ap (λ (s : SheetRead). s.cells) e)
