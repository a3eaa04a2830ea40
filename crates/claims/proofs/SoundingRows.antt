-- Notes still sounding, of rows and of a table's bytes: what the promises of the entries tell.
use mathlib.Core.Path.{◌≡◌, sym, ap, ◌∙◌}
use mathlib.Core.Bool.{true, ◌&&◌}
use mathlib.Core.Logic.{◌↔◌}
use mathlib.Core.List.{List, [], ◌∷◌, ◌++◌, sum}
use Prim.Native.Nat.{ℕ, ◌+◌, ◌*◌, ◌≤◌, ◌<◌}
use native.Mathlib.Omega.{arith}
use lib.Dec.{leb}
use lib.ListN.{length, drop, replicate}
use Rattle.smf.specs.Answer.{refuses}
use Rattle.smf.specs.Place.{Span}
use Rattle.smf.specs.Write.{put}
use Rattle.smf.specs.Event.{Event}
use Rattle.smf.proofs.Answer.{by_test, by_answer, both}
use Rattle.smf.proofs.Write.{put_fits}
use Rattle.track.specs.List.{capacity}
use Rattle.rows.specs.Rows.{width}
use Rattle.rows.specs.RowLists.{are_rows, called_rows}
use Rattle.rows.specs.Sheet.{sheet_of}
use Rattle.rows.proofs.RowCells.{sheet_length}
use Rattle.rows.proofs.RowsKept.{kept}
use Rattle.player.specs.Table.{channels, keys, Table, places, key_place}
use Rattle.player.specs.Notes.{table_after}
use Rattle.player.specs.Widths.{all_within}
use Rattle.player.specs.Sounding.{counts, silence, silence_from}
use Rattle.player.specs.Answers.{with_number}
use Rattle.player.specs.Entries.{table_in, bytes_in, rows_accepted, bytes_beside, CellsLeft, cells_left, rows_put, silence_left}
use Rattle.player.proofs.Joined as player
use Rattle.player.proofs.Silencing.{silence_fits, silence_kept, silence_within, silence_fresh}
use Rattle.player.proofs.Steps.{all_joined}
use Rattle.player.proofs.Sums.{counts_sum}
use Rattle.player.proofs.Joined.{shaped_after}
use Rattle.player.proofs.TableBytes.{table_back, shaped_in, bytes_fresh}
use Rattle.claims.specs.Sounding.{LeavesLast, RowsJoin, Silenced, Names}
use Rattle.claims.proofs.Player.{rows_accepted_by, silence_by, given_beside, refused_beside, never_nought, rows_accepts, rows_accepts_only, asks, asks_none, asks_only}
use Rattle.claims.proofs.LastNotes.{leaves_last}
use Rattle.claims.proofs.Names.{names}
use Rattle.claims.proofs.Silences.{silenced_by}

-- what `apk_sounding_after` promises
abbrev AfterTold : List ℕ → List ℕ → ℕ → List ℕ → ℕ → Type 0
AfterTold table rows count end r = with_number end r ≡ bytes_beside table (rows_accepted capacity rows count)

module _ (table rows : List ℕ) (count : ℕ) (end : List ℕ) (r : ℕ) (told : AfterTold table rows count end r) where
  abbrev after : List (Event Span) → List ℕ
  after es = bytes_in (table_after (table_in table) es)

  took : count ≤ capacity → are_rows count rows ≡ true → all_within (called_rows count rows) ≡ true → (r ≡ 0) × (end ≡ after (called_rows count rows))
  took few are fit = given_beside table (rows_accepted capacity rows count) after told (called_rows count rows) (rows_accepts capacity rows count few are fit)

  took_only : r ≡ 0 → (all_within (called_rows count rows) ≡ true) × (end ≡ after (called_rows count rows))
  took_only z =
      by_answer (rows_accepted capacity rows count)
      (λ es e.
      let a = rows_accepts_only capacity rows count es e in
      ((both (are_rows count rows) (all_within (called_rows count rows)) a.1).1, (given_beside table (rows_accepted capacity rows count) after told es e).1 ∙ ap after (sym a.2)))
      (λ n e.
      absurd (never_nought (18 ∷ 21 ∷ []) (rows_accepted capacity rows count) n (rows_accepted_by capacity rows count) e
      (sym (refused_beside table (rows_accepted capacity rows count) after told n e).0 ∙ z)))

  pub rows_exactly : (r ≡ 0) ↔ ((count ≤ capacity) × ((are_rows count rows && all_within (called_rows count rows)) ≡ true))
  rows_exactly = (
    (λ z.
        by_answer (rows_accepted capacity rows count)
        (λ es e. let a = rows_accepts_only capacity rows count es e in (a.0, a.1))
        (λ n e.
        absurd (never_nought (18 ∷ 21 ∷ []) (rows_accepted capacity rows count) n (rows_accepted_by capacity rows count) e
        (sym (refused_beside table (rows_accepted capacity rows count) after told n e).0 ∙ z)))),
    (λ h. let b = both (are_rows count rows) (all_within (called_rows count rows)) h.1 in (took h.0 b.0 b.1).0),
  )

  pub rows_refused : (n : ℕ) → rows_accepted capacity rows count ≡ refuses n → r ≡ n
  rows_refused n e = (refused_beside table (rows_accepted capacity rows count) after told n e).0

  pub rows_leave : r ≡ 0 → LeavesLast (table_in table) (called_rows count rows) (table_in end)
  rows_leave z =
      let es = called_rows count rows in
      rw ((took_only z).1, table_back (shaped_after (table_in table) es)) (leaves_last (table_in table) es)

-- rows that were accepted in turn, and rows that join them
module _ (table rowsA : List ℕ) (count_a : ℕ) (endA : List ℕ) (a : ℕ) (told : AfterTold table rowsA count_a endA a) (z : a ≡ 0)
    (rowsB : List ℕ) (countB : ℕ) (endB : List ℕ) (b : ℕ) (told' : AfterTold endA rowsB countB endB b) (z' : b ≡ 0) where
  pub rows_twice : (rowsC : List ℕ) (countC : ℕ) (endC : List ℕ) (c : ℕ) → AfterTold table rowsC countC endC c → RowsJoin rowsA count_a rowsB countB rowsC countC → (c ≡ 0) × (endC ≡ endB)
  rows_twice rowsC countC endC c told'' join =
      let es = called_rows count_a rowsA in
      let fs = called_rows countB rowsB in
      let one = took_only table rowsA count_a endA a told z in
      let two = took_only endA rowsB countB endB b told' z' in
      let both = took table rowsC countC endC c told'' join.0 join.1 (rw join.2 (all_joined es fs ∙ rw (one.0, two.0))) in
      let back : table_in endA ≡ table_after (table_in table) es = ap table_in one.1 ∙ table_back (shaped_after (table_in table) es) in (
        both.0,
        both.1
            ∙ ap (λ (l : List (Event Span)). bytes_in (table_after (table_in table) l)) join.2
            ∙ ap bytes_in (sym (player.joined (table_in table) es fs))
            ∙ ap (λ (t : Table). bytes_in (table_after t fs)) (sym back)
            ∙ sym two.1,
      )

-- a silencing list that `apk_sounding_silence` handed out: its rows stand in front
pub record Handed (t : Table) (channel key : ℕ) (rows : List ℕ) (count : ℕ) : Type 0 where
  pub channel_fits : channel < channels
  pub key_fits : key < keys
  pub behind : List ℕ
  pub cells : rows ≡ sheet_of (silence_from capacity t (key_place channel key)) ++ behind
  pub many : count ≡ length (silence_from capacity t (key_place channel key))

-- what was put was given room
put_accepted : (es : List (Event Span)) (cells : List ℕ) (cells' : List ℕ) (count' : ℕ) → cells_left cells' count' 0 ≡ rows_put (length es) (put (sheet_of es) cells 0)
    → (cells' ≡ sheet_of es ++ drop (0 + length (sheet_of es)) cells) × (count' ≡ length es)
unfolding put
put_accepted es cells cells' count' told =
    by_test (leb (0 + length (sheet_of es)) (length cells))
    (λ t. let e = rw t at told in (ap (λ (w : CellsLeft). w.cells) e, ap (λ (w : CellsLeft). w.count) e))
    (λ t. let e = rw t at told in let z : ◌≡◌ {A = ℕ} 0 20 = ap (λ (w : CellsLeft). w.number) e in absurd (omega arith))

pub handed : (t : Table) (channel key : ℕ) (cells : List ℕ) (cells' : List ℕ) (count' r : ℕ)
    → cells_left cells' count' r ≡ silence_left (silence capacity t channel key) cells → r ≡ 0 → Handed t channel key cells' count'
unfolding silence_left
handed t channel key cells cells' count' r told z =
    by_answer (silence capacity t channel key)
    (λ es e.
    let asked = asks_only capacity t channel key es e in
    let p = put_accepted es cells cells' count' (rw (z, e) at told) in
    record {
      channel_fits = asked.0;
      key_fits = asked.1;
      behind = drop (0 + length (sheet_of es)) cells;
      cells = rw asked.2 p.0;
      many = rw asked.2 p.1;
    })
    (λ n e.
    let q : r ≡ n = ap (λ (w : CellsLeft). w.number) (rw e at told) in
    absurd (never_nought (18 ∷ []) (silence capacity t channel key) n (silence_by capacity t channel key) e (sym q ∙ z)))

-- it is handed out where a channel and key are within their widths and there are cells for a full list; else refused by 18
module _ (t : Table) (channel key : ℕ) (cells cells' : List ℕ) (count' r : ℕ) (told : cells_left cells' count' r ≡ silence_left (silence capacity t channel key) cells) where
  pub handed_out : (channel < channels) × (key < keys) → capacity * width ≤ length cells → r ≡ 0
  unfolding silence_left
  handed_out inside room =
      let es = silence_from capacity t (key_place channel key) in
      let fits = put_fits (sheet_of es) cells 0 (omega (arith, sheet_length es, silence_fits capacity t (key_place channel key))) in
      ap (λ (w : CellsLeft). w.number) (rw (asks capacity t channel key inside.0 inside.1, ← fits) at told)

  pub handed_none : ((channel < channels) × (key < keys) → ⊥) → r ≡ 18
  unfolding silence_left
  handed_none outside = ap (λ (w : CellsLeft). w.number) (rw (asks_none capacity t channel key outside) at told)

-- its rows are taken back as it
module _ (t : Table) (channel key : ℕ) (rows : List ℕ) (count : ℕ) (h : Handed t channel key rows count) where
  abbrev all : List (Event Span)
  all = silence_from capacity t (key_place channel key)

  handed_rows : are_rows count rows ≡ true
  handed_rows = rw (h.cells, h.many) (kept.are_rows all h.behind (silence_kept capacity t (key_place channel key)))

  pub handed_called : called_rows count rows ≡ silence_from capacity t (key_place channel key)
  handed_called = rw (h.cells, h.many) (kept.reads_back all h.behind (silence_kept capacity t (key_place channel key)))

  pub handed_names : Names t channel key (called_rows count rows)
  handed_names = rw handed_called (names t channel key h.channel_fits h.key_fits)

-- given to `apk_sounding_after` with the same table
module _ (table : List ℕ) (channel key : ℕ) (rows : List ℕ) (count : ℕ) (h : Handed (table_in table) channel key rows count) (end : List ℕ) (r : ℕ) (told : AfterTold table rows count end r) where
  abbrev t : Table
  t = table_in table

  abbrev place : ℕ
  place = key_place channel key

  handed_took : (r ≡ 0) × (end ≡ bytes_in (table_after (table_in table) (silence_from capacity (table_in table) (key_place channel key))))
  handed_took =
      let called = handed_called t channel key rows count h in
      let few : count ≤ capacity = omega (arith, h.many, silence_fits capacity t place) in
      let fit : all_within (called_rows count rows) ≡ true = rw called (silence_within capacity t place) in
      let got = took table rows count end r told few (handed_rows t channel key rows count h) fit in
      (got.0, got.1 ∙ ap (λ (es : List (Event Span)). bytes_in (table_after t es)) called)

  pub handed_silences : (r ≡ 0) × Silenced (table_in table) (called_rows count rows) (table_in end)
  handed_silences = (
    handed_took.0,
    rw (handed_called t channel key rows count h, handed_took.1, table_back (shaped_after t (silence_from capacity t place))) (silenced_by capacity t place),
  )

  pub handed_fresh : channel ≡ 0 → key ≡ 0 → sum ◌+◌ 0 (counts (table_in table)) ≤ capacity → end ≡ replicate places 0
  handed_fresh c k few =
      handed_took.1
      ∙ rw (c, k) (ap bytes_in (silence_fresh capacity t (rw (counts_sum (shaped_in table)) at few)))
      ∙ bytes_fresh
