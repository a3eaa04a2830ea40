-- Rows that were laid into enough cells of their own, put into others: they fit there, or are too many.
use mathlib.Core.Path.{◌≡◌, refl, ap, ◌∙◌}
use mathlib.Core.List.{List}
use Prim.Native.Nat.{ℕ, ◌+◌, ◌*◌, ◌≤◌, ◌<◌}
use native.Mathlib.Omega.{arith}
use lib.ListN.{length, take, drop}
use lib.Seq.{take_at}
use Rattle.smf.specs.Answer.{gives, refuses}
use Rattle.smf.specs.Write.{over}
use Rattle.smf.specs.Lists.{ListAt}
use Rattle.smf.proofs.Write.{put_fits, put_full}
use Rattle.rows.specs.Rows.{width}
use Rattle.rows.specs.Sheet.{sheet_of}
use Rattle.rows.specs.Read.{SheetAt, SheetRead, sheet_at, read_sheet}
use Rattle.rows.proofs.RowCells.{sheet_length}

module _ (l : ListAt) (before own : List ℕ) (x : SheetAt) (room : length l.events * width ≤ length before) (e : record { cells = own; answer = gives x } ≡ read_sheet l before) where
  abbrev sheet : List ℕ
  sheet = sheet_of l.events

  laid : ◌≡◌ {A = SheetRead} (record { cells = own; answer = gives x }) (record { cells = over sheet before 0; answer = gives (sheet_at l) })
  laid = rw (← put_fits sheet before 0 (omega (arith, sheet_length l.events))) at e

  answered : x ≡ sheet_at l
  answered = let a : gives x ≡ gives (sheet_at l) = ap (λ (s : SheetRead). s.answer) laid in cc

  pub few_laid : x.count ≡ length l.events
  few_laid = ap (λ (s : SheetAt). s.count) answered

  size : x.count * width ≡ length sheet
  size = ap (λ (s : SheetAt). s.count * width) answered ∙ omega (arith, sheet_length l.events)

  first : take (x.count * width) own ≡ sheet
  first = ap (λ (s : SheetRead). take (x.count * width) s.cells) laid ∙ rw size (take_at sheet (drop (0 + length sheet) before) (length sheet) refl)

  pub fitted : (rows : List ℕ) → x.count * width ≤ length rows → record { cells = over (take (x.count * width) own) rows 0; answer = gives x } ≡ read_sheet l rows
  fitted rows h = rw (first, answered, ← put_fits sheet rows 0 (omega (arith, size)))

  pub short : (rows : List ℕ) → length rows < x.count * width → record { cells = rows; answer = refuses 20 } ≡ read_sheet l rows
  short rows h = rw (← put_full sheet rows 0 (omega (arith, size)))
