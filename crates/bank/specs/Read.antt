-- A block, read as a bank: what its numbers say, whether they agree, and what is refused. Document 02, Q-3. Numbers are whole here, so that no sum of an
-- offset and a length wraps.
use Rattle.std.specs.Prelude.{Bool, ◌&&◌, ◌||◌, List, [], ◌∷◌, ℕ, zero, suc, ◌+◌, ◌*◌, ltb, leb, eqb, length, get_or}
use Rattle.smf.specs.Answer.{Answer, gives, unless, and_then, Rules}
use Rattle.smf.specs.Header.{word}
use Rattle.smf.specs.Place.{Span, bytes_of}
use Rattle.smf.specs.Event.{no_span}
use Rattle.smf.specs.Lists.{ListAt, list_at}
use Rattle.bank.specs.Bank.{most_bytes, behind_entries}

-- the number of four bytes, the highest first
abbrev pub wide : ℕ → ℕ → ℕ → ℕ → ℕ
wide a b c d = word a b * 65536 + word c d

-- the number at a place; what is not there counts as 0
unfoldable pub wide_from : List ℕ → ℕ → ℕ
wide_from block at = wide (get_or block at 0) (get_or block (at + 1) 0) (get_or block (at + 2) 0) (get_or block (at + 3) 0)

-- the count, which stands first
abbrev pub count_of : List ℕ → ℕ
count_of block = wide_from block 0

-- the total, behind it
abbrev pub total_of : List ℕ → ℕ
total_of block = wide_from block 4

-- the entry of a track by its index, behind those before it: an offset and a length
unfoldable pub entry_at : List ℕ → ℕ → Span
entry_at block i = record { start = wide_from block (behind_entries i); length = wide_from block (behind_entries i + 4) }

-- so many ranges, each by its index, from one index on
unfoldable pub ranges : (ℕ → Span) → ℕ → ℕ → List Span
ranges range i zero = []
ranges range i (suc n) = range i ∷ ranges range (i + 1) n

-- the ranges of a block's tracks, as its entries say them
abbrev pub entries_of : List ℕ → List Span
entries_of block = ranges (entry_at block) 0 (count_of block)

-- in order with no gap: the first starts at a place, each next where the one before it ends, and the last ends at the end
unfoldable pub no_gap : ℕ → List Span → ℕ → Bool
no_gap place [] end = eqb place end
no_gap place (track ∷ tracks) end = eqb track.start place && no_gap (place + track.length) tracks end

-- whether the numbers of a block agree with it: the total is its length, which is not above the most, and the tracks stand behind the entries up to
-- its end
unfoldable pub agrees : List ℕ → Bool
agrees block =
    leb (length block) most_bytes
    && (eqb (total_of block) (length block) && no_gap (behind_entries (count_of block)) (entries_of block) (length block))

-- the ranges of a bank's tracks in its block. Document 02, Q-3: 25 where the count is above the most, wherever it can be read; 24 where the block is
-- shorter than the header and its entries; 26 any other disagreement. Of a block of under four bytes no count can be read: it is 24 by the second test,
-- since the header alone has eight
unfoldable pub read_bank : ℕ → List ℕ → Answer (List Span)
read_bank most block =
    unless (ltb (length block) 4 || leb (count_of block) most) 25
    (unless (leb (behind_entries (count_of block)) (length block)) 24
    (unless (agrees block) 26
    (gives (entries_of block))))

-- the range of a bank's track by its index: the bank's refusals, then 34 where there is no such index
unfoldable pub track_at : ℕ → List ℕ → ℕ → Answer Span
track_at most block index =
    and_then (read_bank most block) (λ (tracks : List Span). unless (ltb index (length tracks)) 34 (gives (get_or tracks index no_span)))

-- a bank's track, listed: as its bytes by themselves are, from their first on and from no running status
unfoldable pub track_listed : Rules → ℕ → ℕ → List ℕ → ℕ → Answer ListAt
track_listed rules events most block index =
    and_then (track_at most block index) (λ (track : Span). gives (list_at rules events 0 (bytes_of block track) 0))
