-- Banks of programs, of the definitions by their laws, and of the functions: each claim from what the promises of its calls tell.
use Rattle.std.specs.Prelude.{Err, Ok, Result}
use mathlib.Core.Path.{◌≡◌, sym, ap, ◌∙◌}
use mathlib.Core.List.{List}
use mathlib.Core.Logic.{◌↔◌}
use Prim.Native.Nat.{ℕ, ◌≤◌}
use native.Mathlib.Omega.{arith}
use lib.ListN.{length, take, length-map}
use lib.Seq.{length-take-le}
use Rattle.smf.specs.Answer.{gives, refuses}
use Rattle.smf.specs.Place.{Span, bytes_of}
use Rattle.smf.specs.Write.{Written}
use Rattle.smf.specs.Lists.{list_at, held_as}
use Rattle.base.specs.Refusal.{number_of}
use Rattle.base.specs.Rules.{rules_of}
use Rattle.base.specs.declared.Range.{Range}
use Rattle.base.specs.declared.Refusal.{Refusal}
use Rattle.base.specs.declared.Rules.{Rules}
use Rattle.meta.specs.Meta.{span_of}
use Rattle.track.specs.List.{capacity}
use Rattle.track.specs.Read.{list_read_of}
use Rattle.track.specs.declared.read.ReadList.{ReadList}
use Rattle.track.proofs.Identical.{list_read_injective}
use Rattle.bank.specs.Bank.{most_tracks, bank_length, encode_bank, IsBank}
use Rattle.bank.specs.Read.{read_bank, track_at, track_listed}
use Rattle.bank.specs.Write.{tracks_of, write_bank}
use Rattle.bank.specs.Answers.{ListAnswer, spans_of, bank_answer, bank_track, list_answer, bank_wrote, bank_left}
use Rattle.claims.specs.Handed.{ReadBank, ListedTrack, bank_handed, track_handed, verdict_of}
use Rattle.claims.proofs.Handed.{bank_shown, track_shown, handed_bank, handed_track, verdict_of_injective}
use Rattle.bank.proofs.Encoded.{bank_length_lem}
use Rattle.bank.proofs.OneForm.{one_alone}
use Rattle.bank.proofs.Tested as tested
use Rattle.bank.proofs.Identical.{bank_track_injective, bank_wrote_injective}
use Rattle.claims.specs.Calls.{first, second, third, fourth}
use Rattle.claims.specs.Point3.{Bytes}
use Rattle.claims.specs.Bank.{tracks_in, Allowed, Leaves, Forms, Calls}
use Rattle.claims.proofs.Owned.{full_ranges}
use Rattle.claims.proofs.BankForms.{bytes_at, is_bank, reads_back, one_form, unread, unread_as, bank_bytes_lem}
use Rattle.bank.proofs.Tracks.{track_refused, listed_there, listed_refused}
use Rattle.claims.proofs.BankWrites.{accepts, accepts_only, many, outside, large, leaves, exactly}
use Rattle.claims.proofs.BankReads.{Given, given_tracks, read_accepts, read_refuses, read_given, bank_no, given_form, given_there, given_none, given_writes}

-- a write: what it answers, and what it leaves
module _ (bytes : List ℕ) (ranges : List Range) (count : ℕ) (out : List ℕ) (r : Result ℕ Refusal) (end : List ℕ) (told : bank_left r end ≡ write_bank most_tracks bytes (spans_of ranges) count out) where
  write_answer : bank_wrote r ≡ (write_bank most_tracks bytes (spans_of ranges) count out).answer
  write_answer = ap (λ (w : Written). w.answer) told

  write_exactly : ((total : ℕ) × (r ≡ Ok total)) ↔ Allowed most_tracks bytes (spans_of ranges) count (length out)
  write_exactly = (
    (λ is. accepts_only most_tracks bytes (spans_of ranges) count out is.0 (sym write_answer ∙ ap bank_wrote is.1)),
    (λ allowed. (
      bank_length (tracks_of bytes (take count (spans_of ranges))),
      bank_wrote_injective (write_answer ∙ ap (λ (w : Written). w.answer) (accepts most_tracks bytes (spans_of ranges) count out allowed)),
    )),
  )

  write_leaves : (total : ℕ) → r ≡ Ok total → Leaves most_tracks (tracks_of bytes (take count (spans_of ranges))) out total end
  write_leaves total is =
      rw (ap (λ (w : Written). w.buffer) told) (leaves most_tracks bytes (spans_of ranges) count out total (sym write_answer ∙ ap bank_wrote is))

  -- what was written, read
  write_reads : (total : ℕ) → r ≡ Ok total → (block : List ℕ) (r' : ReadBank) → bank_shown r' ≡ bank_answer most_tracks (read_bank most_tracks block) → block ≡ take total end
      → (r'.verdict ≡ Ok tt) × (tracks_in block r'.bank ≡ tracks_of bytes (take count (spans_of ranges)))
      × (length ranges ≡ most_tracks → r'.bank.count ≡ count)
  write_reads total is block r' told' same =
      let tracks : List (List ℕ) = tracks_of bytes (take count (spans_of ranges)) in
      let form : IsBank most_tracks block (tracks_of bytes (take count (spans_of ranges))) = rw same (write_leaves total is).written in
      let back = reads_back most_tracks block tracks form in
      let read = read_accepts block r' told' back.0 back.1 in
      let given = read.1 in
      let held : tracks_in block r'.bank ≡ tracks_of bytes (take count (spans_of ranges)) = given_tracks block _ _ given tracks back.0 back.1 back.2 in
      let counted : r'.bank.count ≡ length (take count (spans_of ranges)) =
      given.counted ∙ sym (length-map (take r'.bank.count (spans_of r'.bank.tracks)) (bytes_of block)) ∙ ap length held
      ∙ length-map (take count (spans_of ranges)) (bytes_of bytes) in
      let few = (accepts_only most_tracks bytes (spans_of ranges) count out total (sym write_answer ∙ ap bank_wrote is)).few in
      (read.0, held, λ full. counted ∙ length-take-le count (spans_of ranges) (rw (length-map ranges span_of, full) few))

-- what was read, written again
again : (block : List ℕ) (held : List Span) (count : ℕ) → Given block held count → Bytes block → (out : List ℕ) → length block ≤ length out
    → (r : Result ℕ Refusal) (end : List ℕ) → bank_left r end ≡ write_bank most_tracks block held count out → (r ≡ Ok (length block)) × (take (length block) end ≡ block)
again block held count given bytes out room r end told =
    let w = given_writes block held count given bytes out room in
    (bank_wrote_injective (ap (λ (w : Written). w.answer) told ∙ w.0), ap (λ (w : Written). take (length block) w.buffer) told ∙ w.1)

-- a track that is there, listed
module _ (block : List ℕ) (index : ℕ) (rules : Rules) (r : ListedTrack)
    (told : track_shown r ≡ list_answer capacity (track_listed (rules_of rules) capacity most_tracks block index)) where
  list_same : (span : Span) → track_at most_tracks block index ≡ gives span → (r' : ReadList) → list_read_of r' ≡ held_as capacity (list_at (rules_of rules) capacity 0 (bytes_of block span) 0)
      → (r.verdict ≡ Ok tt) × (r.read ≡ r')
  unfolding list_answer
  list_same span is r' told' =
      let t = rw (listed_there most_tracks block index (rules_of rules) capacity span is) at told in
      (verdict_of_injective (ap (λ (a : ListAnswer). a.verdict) t), list_read_injective (ap (λ (a : ListAnswer). a.list) t ∙ sym told'))

  list_refused : (n : Refusal) → track_at most_tracks block index ≡ refuses (number_of n) → r.verdict ≡ Err n
  unfolding list_answer
  list_refused n is =
      let t = rw (listed_refused most_tracks block index (rules_of rules) capacity (number_of n) is) at told in
      verdict_of_injective (ap (λ (a : ListAnswer). a.verdict) t)

pub of_definitions : Forms
of_definitions =
    record {
      reads_back = reads_back;
      one_form = one_form;
      is_bank = λ most tracks few small. (is_bank most tracks few small, bank_length_lem tracks);
      bytes = bank_bytes_lem;
      alone = λ most block other spans others p q e f same. one_alone block other most most (bytes_at block p) (bytes_at other q) e f same;
      unread = unread;
      above = λ most block few long over. tested.large most block (omega arith) few long over;
      accepts = exactly;
      leaves = leaves;
    }

pub of_functions : Calls
of_functions =
    record {
      accepts = λ κs a r e told. write_exactly (first a).now (second a) (third a) (fourth a).now r (fourth e).now told;
      many = λ κs a r e told h.
          write_answer (first a).now (second a) (third a) (fourth a).now r (fourth e).now told
          ∙ many most_tracks (first a).now (spans_of (second a)) (third a) (fourth a).now h;
      outside = λ κs a r e told few not.
          write_answer (first a).now (second a) (third a) (fourth a).now r (fourth e).now told
          ∙ outside most_tracks (first a).now (spans_of (second a)) (third a) (fourth a).now few not;
      large = λ κs a r e told few inner more.
          write_answer (first a).now (second a) (third a) (fourth a).now r (fourth e).now told
          ∙ large most_tracks (first a).now (spans_of (second a)) (third a) (fourth a).now few inner more;
      leaves = λ κs a r e told. write_leaves (first a).now (second a) (third a) (fourth a).now r (fourth e).now told;
      reads_back = λ κs a r e told total is κs' a' r' e' told' same.
          let back = write_reads (first a).now (second a) (third a) (fourth a).now r (fourth e).now told total is (first a').now (bank_handed r') (handed_bank r' ∙ told') same in
          (back.0, back.1);
      counts_back = λ κs a r e told good total is κs' a' r' e' told' same.
          (write_reads (first a).now (second a) (third a) (fourth a).now r (fourth e).now told total is (first a').now (bank_handed r') (handed_bank r' ∙ told') same).2 (full_ranges κs a good);
      reads = λ κs a r e told tracks is.
          let back = reads_back most_tracks (first a).now tracks is in
          let read = read_accepts (first a).now (bank_handed r) (handed_bank r ∙ told) back.0 back.1 in
          (read.0, given_tracks (first a).now _ _ read.1 tracks back.0 back.1 back.2);
      unread = λ κs a r e told.
          unread_as most_tracks (first a).now (λ n. read_bank most_tracks (first a).now ≡ refuses n) (λ n. verdict_of (bank_handed r).verdict ≡ refuses n)
          (read_refuses (first a).now (bank_handed r) (handed_bank r ∙ told)) (unread most_tracks (first a).now);
      one_form = λ κs a r e told bytes ok. given_form (first a).now _ _ (read_given (first a).now (bank_handed r) (handed_bank r ∙ told) ok) bytes;
      alone = λ κs a r e told κs' a' r' e' told' bytes bytes' ok ok' same.
          (given_form (first a).now _ _ (read_given (first a).now (bank_handed r) (handed_bank r ∙ told) ok) bytes).bytes ∙ ap encode_bank same
          ∙ sym (given_form (first a').now _ _ (read_given (first a').now (bank_handed r') (handed_bank r' ∙ told') ok') bytes').bytes;
      writes_back = λ κs a r e told bytes ok κs' a' r' e' told' b g c room.
          again (first a).now _ _ (read_given (first a).now (bank_handed r) (handed_bank r ∙ told) ok) bytes (fourth a').now room r' (fourth e').now (rw (b, g, c) at told');
      there = λ κs a r e told ok κs' a' r' e' told' b h. (rw b at told') ∙ given_there (first a).now _ _ (read_given (first a).now (bank_handed r) (handed_bank r ∙ told) ok) (second a') h;
      none = λ κs a r e told ok κs' a' r' e' told' b h. (rw b at told') ∙ given_none (first a).now _ _ (read_given (first a).now (bank_handed r) (handed_bank r ∙ told) ok) (second a') h;
      no_bank = λ κs a r e told n not κs' a' r' e' told' b.
          bank_track_injective ((rw b at told') ∙ track_refused most_tracks (first a).now (second a') (bank_no (first a).now (bank_handed r) (handed_bank r ∙ told) n not));
      lists = λ κs a r e told range is κs' a' r' e' told' b i κs'' a'' r'' e'' told'' same start status ruled.
          list_same (first a).now (second a) (third a') (track_handed r') (handed_track r' ∙ (rw (b, i) at told')) _ (sym told ∙ ap bank_track is) r'' (rw (same, start, status, ruled) at told'');
      no_track = λ κs a r e told n is κs' a' r' e' told' b i.
          list_refused (first a).now (second a) (third a') (track_handed r') (handed_track r' ∙ (rw (b, i) at told')) n (sym told ∙ ap bank_track is);
    }
