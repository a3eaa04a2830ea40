-- The block that a bank is. Document 02, Q-3: big-endian numbers of 32 bits, the count and the total, then an offset and a length for each track, then
-- the tracks in order with no gap.
use Rattle.std.specs.Prelude.{◌≡◌, ℕ, ◌+◌, ◌*◌, ◌/◌, ◌%◌, ◌≤◌, length}
use mathlib.Core.List.{List, [], ◌∷◌, ◌++◌, flatten}
use Rattle.smf.specs.Header.{two_bytes_of}

-- document 02, Q-3: at most 16 tracks
abbrev pub most_tracks : ℕ
most_tracks = 16

-- document 02, Q-3: and at most 65,536 bytes
abbrev pub most_bytes : ℕ
most_bytes = 65536

-- the four bytes of a number, the highest first
abbrev pub four_bytes : ℕ → List ℕ
four_bytes x = two_bytes_of (x / 65536) ++ two_bytes_of (x % 65536)

-- the place behind so many entries: the count and the total are eight bytes, and each entry is eight more. Behind all of them the first track starts
abbrev pub behind_entries : ℕ → ℕ
behind_entries count = 8 + 8 * count

-- an offset and a length for each track: the first starts at an offset, and each next where the one before it ends
unfoldable pub entries : ℕ → List (List ℕ) → List ℕ
entries offset [] = []
entries offset (track ∷ tracks) = four_bytes offset ++ (four_bytes (length track) ++ entries (offset + length track) tracks)

-- how many bytes the bank of tracks has: its total
abbrev pub bank_length : List (List ℕ) → ℕ
bank_length tracks = behind_entries (length tracks) + length (flatten tracks)

-- the bank of tracks
unfoldable pub encode_bank : List (List ℕ) → List ℕ
encode_bank tracks =
    four_bytes (length tracks) ++ (four_bytes (bank_length tracks) ++ (entries (behind_entries (length tracks)) tracks ++ flatten tracks))

-- these bytes are the bank of these tracks, which are no more than so many
pub record IsBank (most : ℕ) (block : List ℕ) (tracks : List (List ℕ)) : Type 0 where
  pub bytes : block ≡ encode_bank tracks
  pub few : length tracks ≤ most
  pub small : length block ≤ most_bytes
