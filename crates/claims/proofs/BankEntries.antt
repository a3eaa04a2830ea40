-- Banks of programs, of the entries: each claim from what the promises of its calls tell.
use mathlib.Core.Path.{◌≡◌, refl, sym, ap, ◌∙◌}
use mathlib.Core.List.{List}
use mathlib.Core.Logic.{◌↔◌}
use Prim.Native.Nat.{ℕ, zero, suc, ◌+◌, ◌≤◌, ◌<◌}
use native.Mathlib.Omega.{arith}
use lib.ListN.{length, take, get_or, length-map, length-take}
use lib.Seq.{length-take-le}
use Rattle.smf.specs.Answer.{Answer, gives, refuses}
use Rattle.smf.specs.Place.{Span, bytes_of}
use Rattle.smf.specs.Write.{Written}
use Rattle.smf.specs.Event.{no_span}
use Rattle.smf.proofs.Answer.{by_answer}
use Rattle.track.specs.List.{capacity}
use Rattle.loader.specs.Entry as entry
use Rattle.loader.specs.Entry.{from_bits, answered}
use Rattle.bank.specs.Bank.{most_tracks, encode_bank, IsBank}
use Rattle.bank.specs.Read.{ranges, read_bank, track_at}
use Rattle.bank.specs.Write.{ranges_bank, write_bank}
use Rattle.bank.specs.Answers.{held_tracks}
use Rattle.bank.specs.Entries.{cells_of, range_in, ranges_in}
use Rattle.bank.proofs.Filling.{ranges_length}
use Rattle.claims.specs.Calls.{first, second, third, fourth, fifth}
use Rattle.claims.specs.Table.{By, Keeps, of_bank_track, of_bank_writing}
use Rattle.claims.specs.Point3.{Bytes}
use Rattle.claims.specs.Bank.{cell_tracks, Allowed, Leaves, Entries}
use Rattle.claims.proofs.Agree.{agree₆}
use Rattle.claims.proofs.Refusals.{write_keeps}
use Rattle.claims.proofs.Player.{never_nought}
use Rattle.claims.proofs.BankRefusals.{track_by, ranges_bank_by}
use Rattle.claims.proofs.BankForms.{reads_back, unread, unread_as}
use Rattle.bank.proofs.Tracks.{track_refused, listed_there, listed_refused}
use Rattle.claims.proofs.BankWrites.{accepts, accepts_only, many, outside, large, leaves}
use Rattle.claims.proofs.BankReads.{Given, given_tracks, entry_accepts, entry_refuses, entry_given, entry_refused, given_form, given_there, given_none, given_writes}

keeps_by : {A : Type 0} (ns : List ℕ) (x : Answer A) (before after : List ℕ) → Keeps ns x before after → By ns x
keeps_by ns (gives a) before after k = tt
keeps_by ns (refuses n) before after k = k.0

-- so many ranges, each by its index
ranges_at : (range : ℕ → Span) (i n k : ℕ) → k < n → get_or (ranges range i n) k no_span ≡ range (i + k)
unfolding ranges
ranges_at range i zero k h = absurd (omega arith)
ranges_at range i (suc n) zero h = ap range (omega arith)
ranges_at range i (suc n) (suc k) h = ranges_at range (i + 1) n k (omega arith) ∙ ap range (omega arith)

-- what `apk_bank_read` tells
abbrev ReadTold : (block cells : List ℕ) (count r : ℕ) (cells' : List ℕ) (count' : ℕ) → Type 0
ReadTold block cells count r cells' count' =
    (r ≡ answered (read_bank most_tracks block)) × ((cells' ≡ entry.leaves (λ (tracks : List Span). cells_of (held_tracks most_tracks tracks).tracks) (read_bank most_tracks block) cells)
    × (count' ≡ entry.leaves (λ (tracks : List Span). length tracks) (read_bank most_tracks block) count))

-- `apk_bank_write`
module _ (bytes cells : List ℕ) (count : ℕ) (out : List ℕ) (total : ℕ) where
  abbrev spans : List Span
  spans = ranges_in most_tracks cells

  abbrev wrote : Written
  wrote = write_bank most_tracks bytes spans count out

  abbrev WriteTold : (r : ℕ) (out' : List ℕ) (total' : ℕ) → Type 0
  WriteTold r out' total' = (r ≡ answered wrote.answer) × ((out' ≡ wrote.buffer) × (total' ≡ entry.leaves (λ (n : ℕ). n) wrote.answer total))

  wrote_by : By of_bank_writing wrote.answer
  wrote_by =
      let own = ranges_bank most_tracks bytes spans count in
      keeps_by of_bank_writing wrote.answer out wrote.buffer (write_keeps of_bank_writing own out 0 (ranges_bank_by most_tracks bytes spans count) refl)

  module _ (r : ℕ) (out' : List ℕ) (total' : ℕ) (told : WriteTold r out' total') where
    write_gives : r ≡ 0 → wrote.answer ≡ gives total'
    write_gives z =
        by_answer wrote.answer (λ n e. let t = rw e at told in e ∙ ap gives (sym t.1.1))
        (λ n e. let t = rw e at told in absurd (never_nought of_bank_writing wrote.answer n wrote_by e (sym t.0 ∙ z)))

    write_exactly : (r ≡ 0) ↔ Allowed most_tracks bytes spans count (length out)
    write_exactly = (
      (λ z. accepts_only most_tracks bytes spans count out total' (write_gives z)),
      (λ allowed. told.0 ∙ ap (λ (w : Written). answered w.answer) (accepts most_tracks bytes spans count out allowed)),
    )

    write_number : (n : ℕ) → wrote.answer ≡ refuses n → r ≡ n
    write_number n e = told.0 ∙ ap answered e

    write_leaves : r ≡ 0 → Leaves most_tracks (cell_tracks bytes cells count) out total' out'
    write_leaves z = rw told.1.0 (leaves most_tracks bytes spans count out total' (write_gives z))

    -- what was written, read
    write_reads : r ≡ 0 → (block held : List ℕ) (many r' : ℕ) (held' : List ℕ) (many' : ℕ) → ReadTold block held many r' held' many' → block ≡ take total' out'
        → (r' ≡ 0) × (many' ≡ count) × (cell_tracks block held' many' ≡ cell_tracks bytes cells count)
    write_reads z block held many r' held' many' told' same =
        let form : IsBank most_tracks block (cell_tracks bytes cells count) = rw same (write_leaves z).written in
        let back = reads_back most_tracks block (cell_tracks bytes cells count) form in
        let read = entry_accepts block held many told' back.0 back.1 in
        let given = read.1 in
        let same-tracks : cell_tracks block held' many' ≡ cell_tracks bytes cells count = given_tracks block _ _ given (cell_tracks bytes cells count) back.0 back.1 back.2 in
        let few = (accepts_only most_tracks bytes spans count out total' (write_gives z)).few in
        let counted : many' ≡ count =
        given.counted ∙ sym (length-map (take many' (ranges_in most_tracks held')) (bytes_of block)) ∙ ap length same-tracks
        ∙ length-map (take count spans) (bytes_of bytes) ∙ length-take-le count spans (omega (arith, ranges_length (range_in cells) 0 most_tracks)) in
        (read.0, counted, same-tracks)

-- what was read, written again
again : (block cells : List ℕ) (count : ℕ) → Given block (ranges_in most_tracks cells) count → Bytes block → (out : List ℕ) (total : ℕ) → length block ≤ length out
    → (r : ℕ) (out' : List ℕ) (total' : ℕ) → WriteTold block cells count out total r out' total' → (r ≡ 0) × (total' ≡ length block) × (take (length block) out' ≡ block)
again block cells count given bytes out total room r out' total' told =
    let w = given_writes block (ranges_in most_tracks cells) count given bytes out room in
    let t = rw w.0 at told in
    (t.0, t.1.1, ap (take (length block)) t.1.0 ∙ w.1)

-- `apk_bank_track`
module _ (block : List ℕ) (index start long r start' long' : ℕ)
    (told : (r ≡ answered (track_at most_tracks block index)) × ((start' ≡ entry.leaves (λ (track : Span). track.start) (track_at most_tracks block index) start)
    × (long' ≡ entry.leaves (λ (track : Span). track.length) (track_at most_tracks block index) long))) where
  track_gives : r ≡ 0 → track_at most_tracks block index ≡ gives (record { start = start'; length = long' })
  track_gives z =
      by_answer (track_at most_tracks block index)
      (λ span e. let t = rw e at told in e ∙ rw (t.1.0, t.1.1))
      (λ n e. let t = rw e at told in absurd (never_nought of_bank_track (track_at most_tracks block index) n (track_by most_tracks block index) e (sym t.0 ∙ z)))

  track_refuses : (r ≡ 0 → ⊥) → track_at most_tracks block index ≡ refuses r
  track_refuses never =
      by_answer (track_at most_tracks block index)
      (λ span e. let t = rw e at told in absurd (never t.0))
      (λ n e. let t = rw e at told in e ∙ ap refuses (sym t.0))

  track_number : (n : ℕ) → track_at most_tracks block index ≡ refuses n → r ≡ n
  track_number n e = told.0 ∙ ap answered e

  -- of a bank that was read
  track_there : (cells : List ℕ) (count : ℕ) → Given block (ranges_in most_tracks cells) count → index < count
      → (r ≡ 0) × (record { start = start'; length = long' } ≡ range_in cells index)
  track_there cells count given h =
      let held : List Span = ranges_in most_tracks cells in
      let is = given_there block held count given index h in
      let t = rw is at told in
      let few : index < most_tracks = omega (arith, given.counted, length-take count held, ranges_length (range_in cells) 0 most_tracks) in
      let same : get_or (ranges_in most_tracks cells) index no_span ≡ range_in cells index = ranges_at (range_in cells) 0 most_tracks index few ∙ ap (range_in cells) (omega arith) in
      (t.0, rw (t.1.0, t.1.1, same))

pub of_entries : Entries
of_entries =
    record {
      accepts = λ κs a r e told.
          write_exactly (first a).now (second a).now (third a) (fourth a).now (fifth a).now r (fourth e).now (fifth e).now told;
      many = λ κs a r e told h.
          write_number (first a).now (second a).now (third a) (fourth a).now (fifth a).now r (fourth e).now (fifth e).now told 25
          (many most_tracks (first a).now (ranges_in most_tracks (second a).now) (third a) (fourth a).now h);
      outside = λ κs a r e told few not.
          write_number (first a).now (second a).now (third a) (fourth a).now (fifth a).now r (fourth e).now (fifth e).now told 19
          (outside most_tracks (first a).now (ranges_in most_tracks (second a).now) (third a) (fourth a).now few not);
      large = λ κs a r e told few inner more.
          write_number (first a).now (second a).now (third a) (fourth a).now (fifth a).now r (fourth e).now (fifth e).now told 20
          (large most_tracks (first a).now (ranges_in most_tracks (second a).now) (third a) (fourth a).now few inner more);
      leaves = λ κs a r e told z.
          write_leaves (first a).now (second a).now (third a) (fourth a).now (fifth a).now r (fourth e).now (fifth e).now told z;
      reads_back = λ κs a r e told z κs' a' r' e' told' same.
          write_reads (first a).now (second a).now (third a) (fourth a).now (fifth a).now r (fourth e).now (fifth e).now told z
          (first a').now (second a').now (third a').now r' (second e').now (third e').now told' same;
      reads = λ κs a r e told tracks is.
          let back = reads_back most_tracks (first a).now tracks is in
          let read = entry_accepts (first a).now (second a).now (third a).now told back.0 back.1 in
          (read.0, given_tracks (first a).now _ _ read.1 tracks back.0 back.1 back.2);
      unread = λ κs a r e told.
          unread_as most_tracks (first a).now (λ n. read_bank most_tracks (first a).now ≡ refuses n) (λ n. r ≡ n)
          (entry_refuses (first a).now (second a).now (third a).now told) (unread most_tracks (first a).now);
      one_form = λ κs a r e told bytes z. given_form (first a).now _ _ (entry_given (first a).now (second a).now (third a).now told z) bytes;
      alone = λ κs a r e told κs' a' r' e' told' bytes bytes' z z' same.
          (given_form (first a).now _ _ (entry_given (first a).now (second a).now (third a).now told z) bytes).bytes ∙ ap encode_bank same
          ∙ sym (given_form (first a').now _ _ (entry_given (first a').now (second a').now (third a').now told' z') bytes').bytes;
      writes_back = λ κs a r e told bytes z κs' a' r' e' told' b g c room.
          again (first a).now (second e).now (third e).now (entry_given (first a).now (second a).now (third a).now told z) bytes
          (fourth a').now (fifth a').now room r' (fourth e').now (fifth e').now (rw (b, g, c) at told');
      there = λ κs a r e told z κs' a' r' e' told' b h.
          track_there (first a).now (second a') (third a').now (fourth a').now r' (third e').now (fourth e').now (rw b at told')
          (second e).now (third e).now (entry_given (first a).now (second a).now (third a).now told z) h;
      none = λ κs a r e told z κs' a' r' e' told' b h.
          track_number (first a).now (second a') (third a').now (fourth a').now r' (third e').now (fourth e').now (rw b at told') 34
          (given_none (first a).now _ _ (entry_given (first a).now (second a).now (third a).now told z) (second a') h);
      no_bank = λ κs a r e told never κs' a' r' e' told' b.
          track_number (first a).now (second a') (third a').now (fourth a').now r' (third e').now (fourth e').now (rw b at told') r
          (track_refused most_tracks (first a).now (second a') (entry_refused (first a).now (second a).now (third a).now told never));
      lists = λ κs a r e told z κs' a' r' e' told' b i κs'' a'' r'' e'' told'' same start status ruled rows count place after padding.
          let is = track_gives (first a).now (second a) (third a).now (fourth a).now r (third e).now (fourth e).now told z in
          let t = rw (b, i, listed_there most_tracks (first a).now (second a) (from_bits (third a')) capacity _ is) at told' in
          agree₆ t (rw (same, start, status, ruled, rows, count, place, after, padding) at told'');
      no_track = λ κs a r e told never κs' a' r' e' told' b i.
          let is = track_refuses (first a).now (second a) (third a).now (fourth a).now r (third e).now (fourth e).now told never in
          let t = rw (b, i, listed_refused most_tracks (first a).now (second a) (from_bits (third a')) capacity r is) at told' in
          t.0;
    }
