-- No two answers of `read_row` say the same.
use Rattle.rows.specs.declared.one.RowRead.{RowRead}
use Rattle.event.specs.declared.read.EventRefused.{EventRefused}
use Rattle.std.specs.Prelude.{Err, Ok, Result}
use mathlib.Core.Path.{◌≡◌, refl}
use Rattle.smf.proofs.Answer.{injective}
use Rattle.base.proofs.RefusalNumbers.{refusal_of, number_back}
use Rattle.rows.specs.One.{RowAt, row_at, no_row, row_told}

back_row : RowAt → Result RowRead EventRefused
back_row (row_at used running padding) = Ok (record { used = used; running = record { status = running }; padding = padding })
back_row (no_row n used running padding) = Err (record { used = used; running = record { status = running }; padding = padding; refusal = refusal_of n })

same_row : (r : Result RowRead EventRefused) → back_row (row_told r) ≡ r
unfolding back_row
same_row (Ok r) = refl
same_row (Err n) = rw (number_back n.refusal)

pub row_told_injective : {x y : Result RowRead EventRefused} → row_told x ≡ row_told y → x ≡ y
row_told_injective = injective row_told back_row same_row
