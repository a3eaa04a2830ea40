-- The form of a bank, proved: by the laws of the definitions, and the worked blocks by computation.
use mathlib.Core.Path.{◌≡◌, refl, sym, ap, ◌∙◌}
use mathlib.Core.List.{List, [], ◌∷◌, ◌++◌, flatten}
use mathlib.Core.Logic.{⊎_elim}
use Prim.Native.Nat.{ℕ, zero, suc, ◌+◌, ◌≤◌, ◌<◌}
use native.Mathlib.Omega.{arith}
use lib.ListN.{length, get_or, length-append, length-map}
use Rattle.smf.specs.Answer.{gives, refuses}
use Rattle.smf.specs.Place.{Span, inside, bytes_of}
use Rattle.smf.specs.Write.{put}
use Rattle.smf.proofs.Answer.{by_answer, by_lt, ungiven}
use Rattle.bank.specs.Bank.{most_bytes, four_bytes, behind_entries, entries, bank_length, encode_bank, IsBank}
use Rattle.bank.specs.Read.{wide_from, entry_at, ranges, entries_of, no_gap, agrees, read_bank, track_at}
use Rattle.bank.specs.Write.{all_inside, tracks_of, bank_bytes, ranges_bank}
use Rattle.bank.proofs.Encoded.{bank_length_lem, bank_spans, bank_holds, bank_reads}
use Rattle.bank.proofs.OneForm as laws
use Rattle.bank.proofs.Tested as tested
use Rattle.claims.specs.Point3.{Bytes}
use Rattle.claims.specs.Bank.{Unread, Worked}
use Rattle.claims.proofs.Bytes.{both_bytes}

-- what stands at a place of bytes is one
pub bytes_at : (s : List ℕ) → Bytes s → (i : ℕ) → get_or s i 0 < 256
bytes_at [] h i = omega arith
bytes_at (b ∷ s) h zero = h.0
bytes_at (b ∷ s) h (suc i) = bytes_at s h.1 i

pub is_bank : (most : ℕ) (tracks : List (List ℕ)) → length tracks ≤ most → bank_length tracks ≤ most_bytes → IsBank most (encode_bank tracks) tracks
is_bank most tracks few small = record { bytes = refl; few = few; small = omega (arith, bank_length_lem tracks) }

module _ (most : ℕ) (block : List ℕ) where
  pub reads_back : (tracks : List (List ℕ)) → IsBank most block tracks → (spans : List Span) × (read_bank most block ≡ gives spans) × (tracks_of block spans ≡ tracks)
  reads_back tracks is =
      let bytes = is.bytes in
      let small : bank_length tracks ≤ most_bytes = omega (arith, bank_length_lem tracks, ap length bytes, is.small) in
      (bank_spans tracks, rw bytes (bank_reads tracks most is.few small), rw bytes (bank_holds tracks))

  pub one_form : (spans : List Span) → Bytes block → read_bank most block ≡ gives spans → IsBank most block (tracks_of block spans)
  one_form spans bytes e =
      record {
        bytes = laws.one_form block (bytes_at block bytes) most e;
        few = rw (length-map spans (bytes_of block)) (laws.read_few most block e);
        small = laws.read_small most block e;
      }

-- a block that is no bank, by what it is refused
pub unread : (most : ℕ) (block : List ℕ) → Unread most block (λ n. read_bank most block ≡ refuses n)
unread most block =
    record {
      many = tested.many most block;
      short = ⊎_elim (tested.no_count most block)
          (λ h. by_lt (length block) 4 (tested.no_count most block) (λ counted. tested.short most block counted h.0 h.1));
      other = λ few long bytes none.
          by_answer (read_bank most block) (λ spans e. absurd (none (tracks_of block spans) (one_form most block spans bytes e)))
          (λ n e. e ∙ ap refuses (ungiven (agrees block) (entries_of block) 26 (sym (tested.there most block (omega arith) few long) ∙ e)).1);
    }

pub unread_as : (most : ℕ) (block : List ℕ) (P Q : ℕ → Type 0) → ((n : ℕ) → P n → Q n) → Unread most block P → Unread most block Q
unread_as most block P Q say u =
    record {
      many = λ counted h. say 25 (u.many counted h);
      short = λ h. say 24 (u.short h);
      other = λ few long bytes none. say 26 (u.other few long bytes none);
    }

-- a number's bytes in front of bytes
four_more : (x : ℕ) (more : List ℕ) → x ≤ most_bytes → Bytes more → Bytes (four_bytes x ++ more)
four_more x more h bytes = (omega arith, (omega arith, (omega arith, (omega arith, bytes))))

entries_bytes : (offset : ℕ) (tracks : List (List ℕ)) → offset + length (flatten tracks) ≤ most_bytes → Bytes (entries offset tracks)
unfolding entries flatten
entries_bytes offset [] h = tt
entries_bytes offset (track ∷ tracks) h =
    let long = length-append track (flatten tracks) in
    let more : List ℕ = entries (offset + length track) tracks in
    four_more offset (four_bytes (length track) ++ more) (omega arith)
    (four_more (length track) more (omega arith) (entries_bytes (offset + length track) tracks (omega arith)))

pub bank_bytes_lem : (tracks : List (List ℕ)) → bank_length tracks ≤ most_bytes → Bytes (flatten tracks) → Bytes (encode_bank tracks)
unfolding encode_bank
bank_bytes_lem tracks small bytes =
    let own : List ℕ = entries (behind_entries (length tracks)) tracks in
    let more : List ℕ = own ++ flatten tracks in
    four_more (length tracks) (four_bytes (bank_length tracks) ++ more) (omega arith)
    (four_more (bank_length tracks) more small (both_bytes own (flatten tracks) (entries_bytes (behind_entries (length tracks)) tracks small) bytes))

pub worked : Worked
unfolding entries encode_bank flatten wide_from entry_at ranges no_gap agrees read_bank track_at inside bytes_of all_inside bank_bytes ranges_bank put
worked =
    record {
      empty = refl;
      one_empty = refl;
      two = refl;
      empty_read = refl;
      one_empty_read = refl;
      two_read = refl;
      many = refl;
      short = refl;
      uncounted = refl;
      none = refl;
      counted_alone = refl;
      no_entry = refl;
      total = refl;
      no_tracks_total = refl;
      first = refl;
      gap = refl;
      overlap = refl;
      behind = refl;
      wraps = refl;
      last = refl;
      no_track = refl;
      twice = refl;
      above = refl;
      beyond = refl;
      no_room = refl;
    }
