-- What legal events carry over payload bytes that are bytes is bytes.
use mathlib.Core.Path.{◌≡◌, ap}
use mathlib.Core.Bool.{true, ◌&&◌}
use mathlib.Core.List.{List, [], ◌∷◌, map}
use Prim.Native.Nat.{ℕ, zero, suc, ◌^◌, ◌<◌}
use native.Mathlib.Omega.{arith}
use lib.Dec.{ltb, leb, eqb}
use lib.ListN.{length, take, drop}
use borrow.Author.Tests.{ltb-true, eqb-true}
use Rattle.smf.specs.Answer.{Answer, gives, refuses, Rules}
use Rattle.smf.specs.Place.{Span, bytes_of}
use Rattle.smf.specs.Kind as kind
use Rattle.smf.specs.Kind.{Meta, Kind}
use Rattle.smf.specs.Event.{Event, map_meta, map_kind, map_event, Carried, nothing, owned, untold, carries, meta_carries, legal}
use Rattle.smf.specs.Lists.{records_judged}
use Rattle.smf.proofs.Answer.{by_test, both, pick_test, pick_both}
use Rattle.smf.proofs.ListLegality.{given_itself}
use Rattle.rows.specs.Rows.{width}
use Rattle.rows.specs.RowEvent.{cell, row_span, fields_fit, is_row, row_number_of, row_meta, row_kind, called_row, event_of_row, row_judged}
use Rattle.rows.specs.RowLists.{rows_judged}
use Rattle.claims.specs.Point3.{Bytes, BytesCarried, CarryBytes, Fits, FitsAsBytes}

-- the types of the `Unknown` messages of records are bytes, as the code's are
abbrev pub TypeByte : Carried Span → Type 0
TypeByte nothing = Unit {0}
TypeByte (owned p) = Unit {0}
TypeByte (untold t p) = t < 256

abbrev pub TypeBytes : List (Event Span) → Type 0
TypeBytes [] = Unit {0}
TypeBytes (e ∷ es) = TypeByte (carries e.kind) × TypeBytes es

take_bytes : (n : ℕ) (s : List ℕ) → Bytes s → Bytes (take n s)
take_bytes zero s h = tt
take_bytes (suc n) [] h = tt
take_bytes (suc n) (b ∷ s) h = (h.0, take_bytes n s h.1)

drop_bytes : (n : ℕ) (s : List ℕ) → Bytes s → Bytes (drop n s)
drop_bytes zero s h = h
drop_bytes (suc n) [] h = tt
drop_bytes (suc n) (b ∷ s) h = drop_bytes n s h.1

module _ (bytes : List ℕ) (h : Bytes bytes) where
  part_bytes : (span : Span) → Bytes (bytes_of bytes span)
  unfolding bytes_of
  part_bytes span = take_bytes span.length (drop span.start bytes) (drop_bytes span.start bytes h)

  meta_carried : (m : Meta Span) → TypeByte (meta_carries m) → BytesCarried (meta_carries (map_meta (bytes_of bytes) m))
  unfolding meta_carries map_meta
  meta_carried (kind.track_number n) t = tt
  meta_carried kind.no_track_number t = tt
  meta_carried (kind.text u p) t = part_bytes p
  meta_carried (kind.midi_channel c) t = tt
  meta_carried (kind.midi_port c) t = tt
  meta_carried kind.end_of_track t = tt
  meta_carried (kind.tempo v) t = tt
  meta_carried (kind.smpte_offset time) t = tt
  meta_carried (kind.time_signature a b c d) t = tt
  meta_carried (kind.key_signature z minor) t = tt
  meta_carried (kind.sequencer_specific p) t = part_bytes p
  meta_carried (kind.unknown u p) t = (t, part_bytes p)

  kind_carried : (k : Kind Span) → TypeByte (carries k) → BytesCarried (carries (map_kind (bytes_of bytes) k))
  unfolding carries map_kind
  kind_carried (kind.midi c m) t = tt
  kind_carried (kind.sys_ex p) t = part_bytes p
  kind_carried (kind.escape p) t = part_bytes p
  kind_carried (kind.meta m) t = meta_carried m t

  event_carried : (rules : Rules) (e : Event Span) (l : Event (List ℕ)) → legal rules bytes e ≡ gives l → TypeByte (carries e.kind) → BytesCarried (carries l.kind)
  unfolding map_event
  event_carried rules e l j t = rw (given_itself rules bytes e l j).0 (kind_carried e.kind t)

  -- judged events, each of which carries bytes where it was given
  abbrev Carries : List (Answer (Event (List ℕ))) → Type 0
  Carries [] = Unit {0}
  Carries (j ∷ js) = ((l : Event (List ℕ)) → j ≡ gives l → BytesCarried (carries l.kind)) × Carries js

  all_carried : (count : ℕ) (judged : List (Answer (Event (List ℕ)))) (es : List (Event (List ℕ))) → Carries judged → take count judged ≡ map gives es → CarryBytes es
  all_carried count judged [] c e = tt
  all_carried zero judged (l ∷ es) c e = absurd (omega (arith, ap length e))
  all_carried (suc count) [] (l ∷ es) c e = absurd (omega (arith, ap length e))
  all_carried (suc count) (j ∷ js) (l ∷ es) c e =
      let first : j ≡ gives l = cc in
      let others : take count js ≡ map gives es = cc in
      (c.0 l first, all_carried count js es c.1 others)

  pub records_carry : (rules : Rules) (records : List (Event Span)) → TypeBytes records → Carries (records_judged rules bytes records)
  records_carry rules [] t = tt
  records_carry rules (e ∷ es) t = ((λ l j. event_carried rules e l j t.0), records_carry rules es t.1)

  -- the type of a row's `Unknown` is a byte
  unknown_type : (n a b c d e f : ℕ) → fields_fit n a b c d e f ≡ true → n ≡ 0x200 → a < 256
  unfolding fields_fit
  unknown_type n a b c d e f fit is = ltb-true a 256 (rw is at fit)

  abbrev Typed : Kind Span → Type 0
  Typed k = TypeByte (carries k)

  abbrev Named : Meta Span → Type 0
  Named m = TypeByte (meta_carries m)

  row_type : (n a b c d e f : ℕ) (span : Span) → fields_fit n a b c d e f ≡ true → TypeByte (carries (row_kind n a b c d e f span))
  unfolding row_kind row_meta row_number_of carries meta_carries
  row_type n a b c d e f span fit =
      pick_both Typed (ltb n 15) tt (pick_both Typed (eqb n 0xF0) tt (pick_both Typed (eqb n 0xF7) tt
      (pick_both Named (eqb n 0x100) (pick_both Named (eqb a 0) tt tt) (pick_both Named (eqb n 0x120) tt (pick_both Named (eqb n 0x121) tt
      (pick_both Named (eqb n 0x12F) tt (pick_both Named (eqb n 0x151) tt (pick_both Named (eqb n 0x154) tt (pick_both Named (eqb n 0x158) tt
      (pick_both Named (eqb n 0x159) tt (pick_both Named (eqb n 0x17F) tt
      (pick_test Named (eqb n 0x200) (λ q. unknown_type n a b c d e f fit (eqb-true n 0x200 q)) (λ _. tt)))))))))))))

  row_fits : (r : List ℕ) → is_row r ≡ true → fields_fit (cell r 1) (cell r 2) (cell r 3) (cell r 4) (cell r 5) (cell r 6) (cell r 7) ≡ true
  unfolding is_row
  row_fits r is =
      let fit = fields_fit (cell r 1) (cell r 2) (cell r 3) (cell r 4) (cell r 5) (cell r 6) (cell r 7) in
      (both (ltb (cell r 0) (2 ^ 32)) fit (both (leb width (length r)) (ltb (cell r 0) (2 ^ 32) && fit) is).1).1

  row_carried : (rules : Rules) (r : List ℕ) (l : Event (List ℕ)) → row_judged rules bytes r ≡ gives l → BytesCarried (carries l.kind)
  unfolding row_judged event_of_row called_row
  row_carried rules r l j =
      by_test (is_row r)
      (λ is. let judged : legal rules bytes (called_row r) ≡ gives l = rw is at j in
      event_carried rules (called_row r) l judged (row_type (cell r 1) (cell r 2) (cell r 3) (cell r 4) (cell r 5) (cell r 6) (cell r 7) (row_span r) (row_fits r is)))
      (λ not. let q : ◌≡◌ {A = Answer (Event (List ℕ))} (refuses 18) (gives l) = rw not at j in let z : ◌≡◌ {A = ℕ} 0 1 = cc in absurd (omega arith))

  pub rows_carry : (rules : Rules) (n : ℕ) (cells : List ℕ) → Carries (rows_judged rules bytes n cells)
  unfolding rows_judged
  rows_carry rules zero cells = tt
  rows_carry rules (suc n) cells = ((λ l j. row_carried rules (take width cells) l j), rows_carry rules n (drop width cells))

  -- what fits is a byte string
  pub fits_as_bytes : (rules : Rules) (most running : ℕ) (judged : List (Answer (Event (List ℕ)))) (count : ℕ) (buffer : List ℕ) → Carries judged
      → Fits rules most running judged count buffer → FitsAsBytes rules most running judged count buffer
  fits_as_bytes rules most running judged count buffer c f =
      let es = f.1.0 in
      let s = f.1.2 in
      (es, f.1.1, (s.0, s.1, s.2, s.3 (all_carried count judged es c f.1.1)))
