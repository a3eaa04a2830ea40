-- A channel message's row is judged by its own cells: what they must be, and the raw form that they then are.
use mathlib.Core.Path.{◌≡◌, refl, sym, ap, ◌∙◌}
use mathlib.Core.Bool.{Bool, true, false, ◌&&◌}
use mathlib.Core.List.{List}
use Prim.Native.Nat.{ℕ, ◌+◌, ◌^◌, ◌≤◌, ◌<◌}
use native.Mathlib.Nat.{add-zero}
use native.Mathlib.Omega.{arith}
use lib.Dec.{ltb}
use lib.ListN.{length, take, drop, get_or, length-take, length-drop}
use lib.Seq.{get_or-take, get_or-drop}
use borrow.Author.Tests.{lt-ltb, ltb-true}
use Rattle.smf.specs.Answer.{pick, Answer, gives, refuses, and_then, Rules}
use Rattle.smf.specs.Wire as wire
use Rattle.smf.specs.Wire.{raw_event}
use Rattle.smf.proofs.Answer.{by_lt, both}
use Rattle.rows.specs.Rows.{width}
use Rattle.rows.specs.RowEvent.{cell, row_kind, row_judged}
use Rattle.write.specs.Raw.{raw_judged, channel_raw, data_of}
use Rattle.write.specs.Direct.{packed_of, message_at, Direct}
use Rattle.write.proofs.RowForms.{no_kind, message_row, row_wide, row_narrow}
use Rattle.write.proofs.Judging.{row_short}

-- what is refused was not given
never : {A G : Type 0} {a : Answer A} {n : ℕ} {x : A} → refuses n ≡ a → a ≡ gives x → G
never p q = let z : ◌≡◌ {A = ℕ} 0 1 = cc in absurd (omega arith)

-- what was made of a test's choice was made because the test holds
made_of : {A B : Type 0} (t : Bool) (x : A) (n : ℕ) (f : A → B) {y : B} → and_then (pick t (gives x) (refuses n)) (λ a. gives (f a)) ≡ gives y → t ≡ true
made_of true x n f e = refl
made_of false x n f e = never refl e

module _ (rules : Rules) (bytes : List ℕ) (r : List ℕ) (long : width ≤ length r) (narrow : cell r 0 < 2 ^ 28) where
  -- a number below all kinds
  row_low : cell r 1 < 8 → refuses 18 ≡ raw_judged (row_judged rules bytes r)
  row_low h =
      rw (row_narrow rules bytes r long narrow, lt-ltb (cell r 0) (2 ^ 28) narrow, no_kind (cell r 1) (cell r 2) (cell r 3) (cell r 4) (cell r 5) (cell r 6) (cell r 7) h)

  -- a channel message's
  row_message_lem : 8 ≤ cell r 1 → cell r 1 < 15
      → raw_judged (row_judged rules bytes r)
      ≡ and_then (pick (ltb (cell r 2) 16 && (ltb (data_of (cell r 1) (cell r 3) (cell r 4)).a 128 && ltb (data_of (cell r 1) (cell r 3) (cell r 4)).b 128)) (gives (channel_raw (packed_of (cell r 1) (cell r 2) (data_of (cell r 1) (cell r 3) (cell r 4))))) (refuses 18)) (λ raw. gives (raw_event (cell r 0) raw))
  unfolding row_kind
  row_message_lem low high =
      rw (row_narrow rules bytes r long narrow, lt-ltb (cell r 0) (2 ^ 28) narrow, lt-ltb (cell r 1) 15 high, ← message_row rules bytes (cell r 2) (cell r 3) (cell r 4) (cell r 5) (cell r 6) (cell r 7) (cell r 1) low high)

module _ (rows : List ℕ) (at : ℕ) where
  row_long : at + width ≤ length rows → width ≤ length (take width (drop at rows))
  row_long h = simp (length-take, length-drop) (omega arith)

  -- a cell of the row, and of the list
  cell_at : (i : ℕ) → i < width → cell (take width (drop at rows)) i ≡ get_or rows (at + i) 0
  cell_at i h = get_or-take width (drop at rows) i 0 h ∙ get_or-drop at rows i 0

  cell_first : cell (take width (drop at rows)) 0 ≡ get_or rows at 0
  cell_first = cell_at 0 (omega arith) ∙ ap (λ (k : ℕ). get_or rows k 0) (add-zero at)

  module _ (rules : Rules) (bytes : List ℕ) where
    -- cells within their widths are a legal channel message
    pub direct_judged : Direct rows at → raw_judged (row_judged rules bytes (take width (drop at rows))) ≡ gives (raw_event (get_or rows at 0) (channel_raw (message_at rows at)))
    direct_judged d =
        let e1 = cell_at 1 (omega arith) in
        let e2 = cell_at 2 (omega arith) in
        let e3 = cell_at 3 (omega arith) in
        let e4 = cell_at 4 (omega arith) in
        let j = row_message_lem rules bytes (take width (drop at rows)) (row_long d.there) (rw cell_first d.delta) (rw e1 d.low) (rw e1 d.high) in
        simp (cell_first, e1, e2, e3, e4, lt-ltb _ 16 d.channel, lt-ltb _ 128 d.first, lt-ltb _ 128 d.second) at j

    -- a legal row is all there
    pub judged_there : {e : wire.RawEvent} → raw_judged (row_judged rules bytes (take width (drop at rows))) ≡ gives e → at + width ≤ length rows
    judged_there j = by_lt (length rows) (at + width) (λ h. never (row_short rules bytes rows at h) j) (λ h. h)

    -- and a legal channel message's cells are within their widths
    pub judged_direct : {e : wire.RawEvent} → raw_judged (row_judged rules bytes (take width (drop at rows))) ≡ gives e → get_or rows (at + 1) 0 < 15 → Direct rows at
    judged_direct j high =
        let r = take width (drop at rows) in
        let e1 = cell_at 1 (omega arith) in
        let e2 = cell_at 2 (omega arith) in
        let e3 = cell_at 3 (omega arith) in
        let e4 = cell_at 4 (omega arith) in
        let there = judged_there j in
        let long = row_long there in
        let narrow : cell r 0 < 2 ^ 28 = by_lt (cell r 0) (2 ^ 28) (λ h. h) (λ h. never (row_wide rules bytes r h) j) in
        let low : 8 ≤ cell r 1 = by_lt (cell r 1) 8 (λ h. never (row_low rules bytes r long narrow h) j) (λ h. h) in
        let x = data_of (cell r 1) (cell r 3) (cell r 4) in
        let made =
        made_of (ltb (cell r 2) 16 && (ltb x.a 128 && ltb x.b 128)) (channel_raw (packed_of (cell r 1) (cell r 2) x)) 18 (λ (raw : wire.Raw). raw_event (cell r 0) raw)
        (sym (row_message_lem rules bytes r long narrow low (rw e1 high)) ∙ j)
        in
        let p = both (ltb (cell r 2) 16) (ltb x.a 128 && ltb x.b 128) made in
        let q = both (ltb x.a 128) (ltb x.b 128) p.1 in
        record {
          there = there;
          delta = rw cell_first at narrow;
          low = rw e1 at low;
          high = high;
          channel = rw e2 at (ltb-true (cell r 2) 16 p.0);
          first = rw (e1, e3, e4) at (ltb-true x.a 128 q.0);
          second = rw (e1, e3, e4) at (ltb-true x.b 128 q.1);
        }

    -- which is what it was given as
    pub judged_message : {e : wire.RawEvent} → raw_judged (row_judged rules bytes (take width (drop at rows))) ≡ gives e → get_or rows (at + 1) 0 < 15 → e ≡ raw_event (get_or rows at 0) (channel_raw (message_at rows at))
    judged_message {e} j high =
        let q : gives e ≡ gives (raw_event (get_or rows at 0) (channel_raw (message_at rows at))) = sym j ∙ direct_judged (judged_direct j high) in
        cc
