-- What the loop keeps that lays ranges into cells: what is still to be laid over what is there is all of it.
use mathlib.Core.Path.{◌≡◌, refl, sym, ap, ◌∙◌}
use mathlib.Core.List.{List, [], ◌∷◌, ◌++◌, append-nil}
use Prim.Native.Nat.{ℕ, suc, ◌+◌, ◌*◌, ◌≤◌, ◌<◌}
use native.Mathlib.Numerals.{add-one}
use native.Mathlib.Omega.{arith}
use lib.ListN.{length, drop, set, get_or, length-map, drop_of_length-le, get_or-map}
use lib.Seq.{drop-cons}
use Rattle.smf.specs.Place.{Span}
use Rattle.smf.specs.Write.{over}
use Rattle.smf.proofs.Write.{over_over, length_over}
use Rattle.base.specs.declared.Range.{Range}
use Rattle.meta.specs.Meta.{span_of}
use Rattle.write.proofs.Storing.{over_none}
use Rattle.bank.specs.Answers.{spans_of}
use Rattle.bank.specs.Entries.{cells_of}
use Rattle.bank.proofs.Stores.{two_stored}

-- two cells for each range
pub cells_length : (spans : List Span) → length (cells_of spans) ≡ 2 * length spans
unfolding cells_of
cells_length [] = refl
cells_length (s ∷ spans) = omega (arith, cells_length spans)

module _ (ranges : List Range) (before : List ℕ) (room : length before ≡ 2 * length ranges) where
  abbrev spans : List Span
  spans = spans_of ranges

  pub record CellsPut (cells : List ℕ) (index : ℕ) : Type 0 where
    pub within : index ≤ length ranges
    pub kept : length cells ≡ length before
    pub final : over (cells_of spans) before 0 ≡ over (cells_of (drop index spans)) cells (2 * index)

  pub cells_first : CellsPut before 0
  cells_first = record { within = omega arith; kept = refl; final = refl }

  module _ {cells : List ℕ} {index : ℕ} (p : CellsPut cells index) where
    pub cells_more : (past : Range) → index < length ranges
        → CellsPut (set (set cells (2 * index) (get_or ranges index past).start) (2 * index + 1) (get_or ranges index past).length) (index + 1)
    unfolding cells_of
    cells_more past more =
        let own = span_of (get_or ranges index past) in
        let two : List ℕ = own.start ∷ own.length ∷ [] in
        let stored = two_stored cells (2 * index) own.start own.length (omega (arith, p.kept)) in
        let next : drop index spans ≡ own ∷ drop (index + 1) spans =
        drop-cons spans index (span_of past) (omega (arith, length-map ranges span_of))
        ∙ ap (λ (s : Span). s ∷ drop (suc index) spans) (get_or-map span_of ranges index past)
        ∙ ap (λ (n : ℕ). own ∷ drop n spans) (sym (add-one index))
        in
        let behind = cells_of (drop (index + 1) spans) in
        let place : 2 * index + 2 ≡ 2 * (index + 1) = omega arith in
        record {
          within = omega arith;
          kept = ap length stored ∙ length_over two cells (2 * index) (omega (arith, p.kept)) ∙ p.kept;
          final =
              p.final
              ∙ ap (λ (l : List Span). over (cells_of l) cells (2 * index)) next
              ∙ sym (over_over two behind cells (2 * index) (omega (arith, p.kept)))
              ∙ ap (λ (c : List ℕ). over behind c (2 * index + 2)) (sym stored)
              ∙ ap (over behind _) place;
        }

    pub cells_all : length ranges ≤ index → cells ≡ cells_of spans
    unfolding cells_of
    cells_all last =
        let none : drop index spans ≡ [] = drop_of_length-le spans {i = index} (omega (arith, length-map ranges span_of)) in
        let all : drop (0 + length (cells_of spans)) before ≡ [] = drop_of_length-le before {i = 0 + length (cells_of spans)} (omega (arith, cells_length spans, length-map ranges span_of)) in
        over_none cells (2 * index)
        ∙ ap (λ (l : List Span). over (cells_of l) cells (2 * index)) (sym none)
        ∙ sym p.final
        ∙ ap (λ (l : List ℕ). cells_of spans ++ l) all
        ∙ append-nil (cells_of spans)
