-- Document 02, Q-3: a bank of programs. What is written reads back as the tracks that it was written of, byte for byte; what reads as a bank is what would
-- be written for its tracks, one form alone; the writer accepts exactly when the count, the ranges and the size allow; and a track is listed as its bytes
-- by themselves are.
use Rattle.std.specs.Prelude.{◌≡◌, true, false, ◌↔◌, ◌⊎◌, ℕ, ◌≤◌, ◌<◌, length, take, drop, get_or, replicate, Err, Ok}
use mathlib.Core.List.{List, [], ◌∷◌, ◌++◌, flatten}
use Rattle.smf.specs.Answer.{gives, refuses}
use Rattle.smf.specs.Place.{Span, bytes_of}
use Rattle.smf.specs.Event.{no_span}
use Rattle.base.specs.declared.Range.{Range}
use Rattle.base.specs.declared.Refusal.{Refusal}
use Rattle.meta.specs.Meta.{span_of}
use Rattle.loader_track.proofs as loader_track
use Rattle.bank.specs.Bank.{most_tracks, most_bytes, four_bytes, behind_entries, bank_length, encode_bank, IsBank}
use Rattle.bank.specs.Read.{count_of, read_bank, track_at}
use Rattle.bank.specs.Write.{all_inside, tracks_of, write_bank}
use Rattle.bank.specs.Answers.{spans_of, bank_track, bank_wrote}
use Rattle.bank.specs.Entries.{range_in, ranges_in}
use Rattle.bank.specs.declared.Bank.{Bank}
use Rattle.bank.proofs as bank
use Rattle.claims.specs.Calls.{Always, EventListRead, BankRead, BankTrack, ListTrack, WriteBank, WriteOwnedBank, ◌&◌}
use Rattle.claims.specs.Handed.{verdict_of}
use Rattle.claims.specs.EntryCalls.{list_read_entry, bank_read_entry, bank_track_entry, bank_list_entry, bank_write_entry}
use Rattle.claims.specs.Point3.{Bytes}

-- the tracks of a bank that was read from a block: the bytes of as many of its ranges as it counts
abbrev pub tracks_in : List ℕ → Bank → List (List ℕ)
tracks_in block held = tracks_of block (take held.count (spans_of held.tracks))

-- the tracks of so many ranges, which are cells
abbrev pub cell_tracks : List ℕ → List ℕ → ℕ → List (List ℕ)
cell_tracks bytes cells count = tracks_of bytes (take count (ranges_in most_tracks cells))

-- what the count, the ranges and the size allow: no more tracks than the most, each range of the count inside the bytes lent, and a bank of at most 65,536
-- bytes, for which there is room
pub record Allowed (most : ℕ) (bytes : List ℕ) (ranges : List Span) (count room : ℕ) : Type 0 where
  pub few : count ≤ most
  pub inner : all_inside bytes (take count ranges) ≡ true
  pub small : bank_length (tracks_of bytes (take count ranges)) ≤ most_bytes
  pub fits : bank_length (tracks_of bytes (take count ranges)) ≤ room

-- what an accepted write leaves: from the first byte on the bank of the tracks, as many bytes as the total says, and every byte behind it as it came
pub record Leaves (most : ℕ) (tracks : List (List ℕ)) (before : List ℕ) (total : ℕ) (after : List ℕ) : Type 0 where
  pub size : total ≡ bank_length tracks
  pub written : IsBank most (take total after) tracks
  pub behind : drop total after ≡ drop total before
  pub long : length after ≡ length before

-- by which number a block is refused that is no bank, in this order: 25 where the count is above the most, wherever its four bytes are there; 24 where the
-- block is shorter than the header and its entries; 26 where it is the bank of no tracks for any other cause
pub record Unread (most : ℕ) (block : List ℕ) (RefusedBy : ℕ → Type 0) : Type 0 where
  pub many : 4 ≤ length block → most < count_of block → RefusedBy 25
  pub short : (length block < 4) ⊎ ((count_of block ≤ most) × (length block < behind_entries (count_of block))) → RefusedBy 24
  pub other : count_of block ≤ most → behind_entries (count_of block) ≤ length block → Bytes block → ((tracks : List (List ℕ)) → IsBank most block tracks → ⊥)
      → RefusedBy 26

-- of the definitions, whatever the most tracks are
pub record Forms : Type 0 where
  -- the bank of tracks reads as ranges whose bytes are those tracks
  pub reads_back : (most : ℕ) (block : List ℕ) (tracks : List (List ℕ)) → IsBank most block tracks
      → (spans : List Span) × (read_bank most block ≡ gives spans) × (tracks_of block spans ≡ tracks)
  -- bytes that read as a bank are the bank of the tracks that they read as
  pub one_form : (most : ℕ) (block : List ℕ) (spans : List Span) → Bytes block → read_bank most block ≡ gives spans → IsBank most block (tracks_of block spans)
  -- the bank of any tracks that are few and small enough is one, of as many bytes as its total says
  pub is_bank : (most : ℕ) (tracks : List (List ℕ)) → length tracks ≤ most → bank_length tracks ≤ most_bytes
      → IsBank most (encode_bank tracks) tracks × (length (encode_bank tracks) ≡ bank_length tracks)
  -- it is bytes, where the tracks are
  pub bytes : (tracks : List (List ℕ)) → bank_length tracks ≤ most_bytes → Bytes (flatten tracks) → Bytes (encode_bank tracks)
  -- no other bytes read as the same tracks
  pub alone : (most : ℕ) (block other : List ℕ) (spans others : List Span) → Bytes block → Bytes other → read_bank most block ≡ gives spans
      → read_bank most other ≡ gives others → tracks_of block spans ≡ tracks_of other others → block ≡ other
  -- what is no bank is refused
  pub unread : (most : ℕ) (block : List ℕ) → Unread most block (λ n. read_bank most block ≡ refuses n)
  -- document 02, Q-3: 26 above the most bytes, where the block is no shorter than its header and entries
  pub above : (most : ℕ) (block : List ℕ) → count_of block ≤ most → behind_entries (count_of block) ≤ length block → most_bytes < length block
      → read_bank most block ≡ refuses 26
  -- a bank is written exactly when it is allowed; and what it leaves then
  pub accepts : (most : ℕ) (bytes : List ℕ) (ranges : List Span) (count : ℕ) (out : List ℕ)
      → ((total : ℕ) × ((write_bank most bytes ranges count out).answer ≡ gives total)) ↔ Allowed most bytes ranges count (length out)
  pub leaves : (most : ℕ) (bytes : List ℕ) (ranges : List Span) (count : ℕ) (out : List ℕ) (total : ℕ) → (write_bank most bytes ranges count out).answer ≡ gives total
      → Leaves most (tracks_of bytes (take count ranges)) out total (write_bank most bytes ranges count out).buffer

-- of the functions
pub record Calls : Type 0 where
  -- `write_bank` accepts exactly when it is allowed; else it refuses by 25, then 19, then 20
  pub accepts : WriteBank (λ bytes ranges count out r end. ((total : ℕ) × (r ≡ Ok total)) ↔ Allowed most_tracks bytes (spans_of ranges) count (length out))
  pub many : WriteBank (λ bytes ranges count out r end. most_tracks < count → bank_wrote r ≡ refuses 25)
  pub outside : WriteBank (λ bytes ranges count out r end.
      count ≤ most_tracks → all_inside bytes (take count (spans_of ranges)) ≡ false → bank_wrote r ≡ refuses 19)
  pub large : WriteBank (λ bytes ranges count out r end. count ≤ most_tracks → all_inside bytes (take count (spans_of ranges)) ≡ true
      → (most_bytes < bank_length (tracks_of bytes (take count (spans_of ranges)))) ⊎ (length out < bank_length (tracks_of bytes (take count (spans_of ranges))))
      → bank_wrote r ≡ refuses 20)
  -- what it leaves where it accepts, and that this reads back as those tracks
  pub leaves : WriteBank (λ bytes ranges count out r end. (total : ℕ) → r ≡ Ok total
      → Leaves most_tracks (tracks_of bytes (take count (spans_of ranges))) out total end)
  pub reads_back : WriteBank (λ bytes ranges count out r end. (total : ℕ) → r ≡ Ok total → BankRead (λ block r'. block ≡ take total end
      → (r'.verdict ≡ Ok tt) × (tracks_in block r'.bank ≡ tracks_of bytes (take count (spans_of ranges)))))
  -- as many as were asked for
  pub counts_back : WriteOwnedBank (λ bytes ranges count out r end. (total : ℕ) → r ≡ Ok total → BankRead (λ block r'. block ≡ take total end
      → r'.bank.count ≡ count))
  -- `read_bank` accepts every bank, and gives its tracks; what is no bank it refuses
  pub reads : BankRead (λ block r. (tracks : List (List ℕ)) → IsBank most_tracks block tracks
      → (r.verdict ≡ Ok tt) × (tracks_in block r.bank ≡ tracks))
  pub unread : BankRead (λ block r. Unread most_tracks block (λ n. verdict_of r.verdict ≡ refuses n))
  -- bytes that `read_bank` accepts are the bank of the tracks that it gives, no other bytes read as those, and `write_bank` of its ranges gives them again
  pub one_form : BankRead (λ block r. Bytes block → r.verdict ≡ Ok tt → IsBank most_tracks block (tracks_in block r.bank))
  pub alone : BankRead (λ block r. BankRead (λ other r'. Bytes block → Bytes other → r.verdict ≡ Ok tt → r'.verdict ≡ Ok tt
      → tracks_in block r.bank ≡ tracks_in other r'.bank → block ≡ other))
  pub writes_back : BankRead (λ block r. Bytes block → r.verdict ≡ Ok tt → WriteBank (λ bytes ranges count out r' end.
      bytes ≡ block → ranges ≡ r.bank.tracks → count ≡ r.bank.count → length block ≤ length out
      → (r' ≡ Ok (length block)) × (take (length block) end ≡ block)))
  -- `bank_track` gives the range of an index of a bank that `read_bank` accepts, and refuses an index that is none by 34; else it refuses as `read_bank` does
  pub there : BankRead (λ block r. r.verdict ≡ Ok tt → BankTrack (λ block' index asked. block' ≡ block
      → index < r.bank.count → bank_track asked ≡ gives (get_or (spans_of r.bank.tracks) index no_span)))
  pub none : BankRead (λ block r. r.verdict ≡ Ok tt → BankTrack (λ block' index asked. block' ≡ block
      → r.bank.count ≤ index → bank_track asked ≡ refuses 34))
  pub no_bank : BankRead (λ block r. (n : Refusal) → r.verdict ≡ Err n → BankTrack (λ block' index asked. block' ≡ block
      → asked ≡ Err n))
  -- `list_track` is what `EventList::read` gives on the bytes of that range by themselves, from place 0 and no running status, by the same rules; where
  -- there is no such track it refuses as `bank_track` does
  pub lists : BankTrack (λ block index asked. (range : Range) → asked ≡ Ok range → ListTrack (λ block' index' rules r.
      block' ≡ block → index' ≡ index → EventListRead (λ raw at running rules' r'.
      raw ≡ bytes_of block (span_of range) → at ≡ 0 → running.status ≡ 0 → rules' ≡ rules
      → (r.verdict ≡ Ok tt) × (r.read ≡ r'))))
  pub no_track : BankTrack (λ block index asked. (n : Refusal) → asked ≡ Err n → ListTrack (λ block' index' rules r.
      block' ≡ block → index' ≡ index → r.verdict ≡ Err n))

-- the same of the entries
pub record Entries : Type 0 where
  pub accepts : Always bank.entries.apk_bank_write.Reads.Learnt (bank_write_entry (λ bytes ranges count out total r.
      (r ≡ 0) ↔ Allowed most_tracks bytes (ranges_in most_tracks ranges) count (length out.before)))
  pub many : Always bank.entries.apk_bank_write.Reads.Learnt (bank_write_entry (λ bytes ranges count out total r. most_tracks < count → r ≡ 25))
  pub outside : Always bank.entries.apk_bank_write.Reads.Learnt (bank_write_entry (λ bytes ranges count out total r.
      count ≤ most_tracks → all_inside bytes (take count (ranges_in most_tracks ranges)) ≡ false → r ≡ 19))
  pub large : Always bank.entries.apk_bank_write.Reads.Learnt (bank_write_entry (λ bytes ranges count out total r.
      count ≤ most_tracks → all_inside bytes (take count (ranges_in most_tracks ranges)) ≡ true
      → (most_bytes < bank_length (cell_tracks bytes ranges count)) ⊎ (length out.before < bank_length (cell_tracks bytes ranges count)) → r ≡ 20))
  pub leaves : Always bank.entries.apk_bank_write.Reads.Learnt (bank_write_entry (λ bytes ranges count out total r. r ≡ 0
      → Leaves most_tracks (cell_tracks bytes ranges count) out.before total.after out.after))
  pub reads_back : Always bank.entries.apk_bank_write.Reads.Learnt (bank_write_entry (λ bytes ranges count out total r. r ≡ 0
      → Always bank.entries.apk_bank_read.Reads.Learnt (bank_read_entry (λ block ranges' count' r'. block ≡ take total.after out.after
      → (r' ≡ 0) × (count'.after ≡ count) × (cell_tracks block ranges'.after count'.after ≡ cell_tracks bytes ranges count)))))
  pub reads : Always bank.entries.apk_bank_read.Reads.Learnt (bank_read_entry (λ block ranges count r. (tracks : List (List ℕ)) → IsBank most_tracks block tracks
      → (r ≡ 0) × (cell_tracks block ranges.after count.after ≡ tracks)))
  pub unread : Always bank.entries.apk_bank_read.Reads.Learnt (bank_read_entry (λ block ranges count r. Unread most_tracks block (λ n. r ≡ n)))
  pub one_form : Always bank.entries.apk_bank_read.Reads.Learnt (bank_read_entry (λ block ranges count r. Bytes block → r ≡ 0
      → IsBank most_tracks block (cell_tracks block ranges.after count.after)))
  pub alone : Always bank.entries.apk_bank_read.Reads.Learnt (bank_read_entry (λ block ranges count r.
      Always bank.entries.apk_bank_read.Reads.Learnt (bank_read_entry (λ other ranges' count' r'. Bytes block → Bytes other → r ≡ 0 → r' ≡ 0
      → cell_tracks block ranges.after count.after ≡ cell_tracks other ranges'.after count'.after → block ≡ other))))
  pub writes_back : Always bank.entries.apk_bank_read.Reads.Learnt (bank_read_entry (λ block ranges count r. Bytes block → r ≡ 0
      → Always bank.entries.apk_bank_write.Reads.Learnt (bank_write_entry (λ bytes ranges' count' out total r'.
      bytes ≡ block → ranges' ≡ ranges.after → count' ≡ count.after → length block ≤ length out.before
      → (r' ≡ 0) × (total.after ≡ length block) × (take (length block) out.after ≡ block)))))
  pub there : Always bank.entries.apk_bank_read.Reads.Learnt (bank_read_entry (λ block ranges count r. r ≡ 0
      → Always bank.entries.apk_bank_track.Reads.Learnt (bank_track_entry (λ block' index start long r'. block' ≡ block → index < count.after
      → (r' ≡ 0) × (record { start = start.after; length = long.after } ≡ range_in ranges.after index)))))
  pub none : Always bank.entries.apk_bank_read.Reads.Learnt (bank_read_entry (λ block ranges count r. r ≡ 0
      → Always bank.entries.apk_bank_track.Reads.Learnt (bank_track_entry (λ block' index start long r'. block' ≡ block → count.after ≤ index → r' ≡ 34))))
  pub no_bank : Always bank.entries.apk_bank_read.Reads.Learnt (bank_read_entry (λ block ranges count r. (r ≡ 0 → ⊥)
      → Always bank.entries.apk_bank_track.Reads.Learnt (bank_track_entry (λ block' index start long r'. block' ≡ block → r' ≡ r))))
  -- `apk_bank_list` is what `apk_list_read` answers and leaves on those bytes by themselves
  pub lists : Always bank.entries.apk_bank_track.Reads.Learnt (bank_track_entry (λ block index start long r. r ≡ 0
      → Always bank.entries.apk_bank_list.Reads.Learnt (bank_list_entry (λ block' index' bits rows count place after padding r'. block' ≡ block → index' ≡ index
      → Always loader_track.list_read.apk_list_read.Reads.Learnt (list_read_entry (λ bytes at running bits' rows' count' place' after' padding' r''.
      bytes ≡ bytes_of block (record { start = start.after; length = long.after }) → at ≡ 0 → running ≡ 0 → bits' ≡ bits
      → rows'.before ≡ rows.before → count'.before ≡ count.before → place'.before ≡ place.before → after'.before ≡ after.before
      → padding'.before ≡ padding.before
      → (r' & rows.after & count.after & place.after & after.after & padding.after)
      ≡ (r'' & rows'.after & count'.after & place'.after & after'.after & padding'.after)))))))
  pub no_track : Always bank.entries.apk_bank_track.Reads.Learnt (bank_track_entry (λ block index start long r. (r ≡ 0 → ⊥)
      → Always bank.entries.apk_bank_list.Reads.Learnt (bank_list_entry (λ block' index' bits rows count place after padding r'.
      block' ≡ block → index' ≡ index → r' ≡ r))))

-- what a block says, as numbers of four bytes, and behind them bytes
abbrev pub numbers : List ℕ → List ℕ → List ℕ
numbers [] more = more
numbers (n ∷ ns) more = four_bytes n ++ numbers ns more

-- a range by its start and its length
abbrev pub range : ℕ → ℕ → Span
range start long = record { start = start; length = long }

-- worked: a bank of no tracks, of an empty one, and of two; and what is refused
pub record Worked : Type 0 where
  pub empty : encode_bank [] ≡ 0 ∷ 0 ∷ 0 ∷ 0 ∷ 0 ∷ 0 ∷ 0 ∷ 8 ∷ []
  pub one_empty : encode_bank ([] ∷ []) ≡ 0 ∷ 0 ∷ 0 ∷ 1 ∷ 0 ∷ 0 ∷ 0 ∷ 16 ∷ 0 ∷ 0 ∷ 0 ∷ 16 ∷ 0 ∷ 0 ∷ 0 ∷ 0 ∷ []
  -- `00 FF 2F 00`, and `00 C0 05 00 FF 2F 00`
  pub two : encode_bank ((0 ∷ 255 ∷ 47 ∷ 0 ∷ []) ∷ (0 ∷ 192 ∷ 5 ∷ 0 ∷ 255 ∷ 47 ∷ 0 ∷ []) ∷ [])
      ≡ 0 ∷ 0 ∷ 0 ∷ 2 ∷ 0 ∷ 0 ∷ 0 ∷ 35 ∷ 0 ∷ 0 ∷ 0 ∷ 24 ∷ 0 ∷ 0 ∷ 0 ∷ 4 ∷ 0 ∷ 0 ∷ 0 ∷ 28 ∷ 0 ∷ 0 ∷ 0 ∷ 7 ∷ 0 ∷ 255 ∷ 47 ∷ 0
      ∷ 0 ∷ 192 ∷ 5 ∷ 0 ∷ 255 ∷ 47 ∷ 0 ∷ []
  pub empty_read : read_bank most_tracks (numbers (0 ∷ 8 ∷ []) []) ≡ gives []
  pub one_empty_read : read_bank most_tracks (numbers (1 ∷ 16 ∷ 16 ∷ 0 ∷ []) []) ≡ gives (range 16 0 ∷ [])
  pub two_read : read_bank most_tracks (numbers (2 ∷ 35 ∷ 24 ∷ 4 ∷ 28 ∷ 7 ∷ []) (0 ∷ 255 ∷ 47 ∷ 0 ∷ 0 ∷ 192 ∷ 5 ∷ 0 ∷ 255 ∷ 47 ∷ 0 ∷ []))
      ≡ gives (range 24 4 ∷ range 28 7 ∷ [])
  -- 25 above 16 where the count can be read, and else 24
  pub many : read_bank most_tracks (0 ∷ 0 ∷ 0 ∷ 17 ∷ []) ≡ refuses 25
  pub short : read_bank most_tracks (0 ∷ 0 ∷ 0 ∷ 16 ∷ []) ≡ refuses 24
  pub uncounted : read_bank most_tracks (0 ∷ 0 ∷ 0 ∷ []) ≡ refuses 24
  pub none : read_bank most_tracks [] ≡ refuses 24
  pub counted_alone : read_bank most_tracks (0 ∷ 0 ∷ 0 ∷ 0 ∷ []) ≡ refuses 24
  pub no_entry : read_bank most_tracks (numbers (1 ∷ 8 ∷ []) []) ≡ refuses 24
  -- 26: a total that is not the length, a first offset that is not behind the entries, a gap, an overlap, and bytes behind the last track
  pub total : read_bank most_tracks (numbers (1 ∷ 24 ∷ 16 ∷ 0 ∷ []) []) ≡ refuses 26
  pub no_tracks_total : read_bank most_tracks (numbers (0 ∷ 9 ∷ []) []) ≡ refuses 26
  pub first : read_bank most_tracks (numbers (1 ∷ 17 ∷ 17 ∷ 0 ∷ []) (0 ∷ [])) ≡ refuses 26
  pub gap : read_bank most_tracks (numbers (2 ∷ 27 ∷ 24 ∷ 1 ∷ 26 ∷ 1 ∷ []) (0 ∷ 0 ∷ 0 ∷ [])) ≡ refuses 26
  pub overlap : read_bank most_tracks (numbers (2 ∷ 26 ∷ 24 ∷ 2 ∷ 25 ∷ 1 ∷ []) (0 ∷ 0 ∷ [])) ≡ refuses 26
  pub behind : read_bank most_tracks (numbers (1 ∷ 18 ∷ 16 ∷ 1 ∷ []) (0 ∷ 0 ∷ [])) ≡ refuses 26
  -- an offset and a length whose sum would wrap in 32 bits: `00000002 00000018 00000018 FFFFFFE8 00000000 00000018`
  pub wraps : read_bank most_tracks (numbers (2 ∷ 24 ∷ 24 ∷ 4294967272 ∷ 0 ∷ 24 ∷ []) []) ≡ refuses 26
  -- the index of the last track, and behind it 34
  pub last : track_at most_tracks (numbers (1 ∷ 16 ∷ 16 ∷ 0 ∷ []) []) 0 ≡ gives (range 16 0)
  pub no_track : track_at most_tracks (numbers (1 ∷ 16 ∷ 16 ∷ 0 ∷ []) []) 1 ≡ refuses 34
  -- written: a range twice, and what is behind the bank as it came; 25, 19 of a start beyond the end at length 0, and 20
  pub twice : write_bank most_tracks (1 ∷ 2 ∷ []) (range 1 1 ∷ range 1 1 ∷ []) 2 (replicate 27 255)
      ≡ record { buffer = numbers (2 ∷ 26 ∷ 24 ∷ 1 ∷ 25 ∷ 1 ∷ []) (2 ∷ 2 ∷ 255 ∷ []); answer = gives 26 }
  pub above : write_bank most_tracks [] (replicate 17 (range 0 0)) 17 [] ≡ record { buffer = []; answer = refuses 25 }
  pub beyond : write_bank most_tracks (1 ∷ []) (range 2 0 ∷ []) 1 [] ≡ record { buffer = []; answer = refuses 19 }
  pub no_room : write_bank most_tracks [] [] 0 (replicate 7 255) ≡ record { buffer = replicate 7 255; answer = refuses 20 }

-- all of it
pub record Banks : Type 0 where
  pub forms : Forms
  pub calls : Calls
  pub entries : Entries
  pub worked : Worked
