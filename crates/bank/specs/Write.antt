-- A bank, written of ranges of the bytes lent. Document 02, Q-3.
use Rattle.std.specs.Prelude.{Bool, true, ◌&&◌, List, [], ◌∷◌, map, ℕ, leb, take}
use Rattle.smf.specs.Answer.{Answer, gives, unless}
use Rattle.smf.specs.Place.{Span, inside, bytes_of}
use Rattle.smf.specs.Write.{Written, write}
use Rattle.bank.specs.Bank.{most_bytes, bank_length, encode_bank}

-- whether each range is inside the bytes lent; a start beyond their end counts even at length 0
unfoldable pub all_inside : List ℕ → List Span → Bool
all_inside bytes [] = true
all_inside bytes (range ∷ ranges) = inside bytes range && all_inside bytes ranges

-- the tracks that ranges of the bytes lent are: they may be empty, overlap and repeat
abbrev pub tracks_of : List ℕ → List Span → List (List ℕ)
tracks_of bytes ranges = map (bytes_of bytes) ranges

-- the bank of tracks, unless it has above 65,536 bytes: 20
unfoldable pub bank_bytes : List (List ℕ) → Answer (List ℕ)
bank_bytes tracks = unless (leb (bank_length tracks) most_bytes) 20 (gives (encode_bank tracks))

-- the bank of so many ranges: 25 where they are above the most, 19 where one is not inside the bytes lent, then 20; those past the count are not looked at
unfoldable pub ranges_bank : ℕ → List ℕ → List Span → ℕ → Answer (List ℕ)
ranges_bank most bytes ranges count =
    unless (leb count most) 25
    (unless (all_inside bytes (take count ranges)) 19
    (bank_bytes (tracks_of bytes (take count ranges))))

-- what writing it from the first byte of a buffer on leaves there, and answers: its total, or at last 20 where there is no room
abbrev pub write_bank : ℕ → List ℕ → List Span → ℕ → List ℕ → Written
write_bank most bytes ranges count buffer = write (ranges_bank most bytes ranges count) buffer 0
