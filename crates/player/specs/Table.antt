-- The table of velocities that a player keeps. Document 02, Q-1: 16 channels by 128 keys.
use Rattle.std.specs.Prelude.{List, [], ◌∷◌, map, ℕ, zero, suc, ◌+◌, ◌*◌, ◌/◌, ◌%◌, get_or}

-- document 02, Q-1: a table has 16 channels
abbrev pub channels : ℕ
channels = 16

-- document 02, Q-1: and 128 keys of each
abbrev pub keys : ℕ
keys = 128

-- the velocities of the keys of each channel
abbrev pub Table : Type 0
Table = List (List ℕ)

-- the entry of a channel and key
abbrev pub entry : Table → ℕ → ℕ → ℕ
entry t channel key = get_or (get_or t channel []) key 0

-- so many numbers from one on
unfoldable pub numbers_from : ℕ → ℕ → List ℕ
numbers_from i zero = []
numbers_from i (suc n) = i ∷ numbers_from (suc i) n

-- the table whose entries a rule gives
unfoldable pub table_of : (ℕ → ℕ → ℕ) → Table
table_of rule = map (λ (channel : ℕ). map (rule channel) (numbers_from 0 keys)) (numbers_from 0 channels)

-- document 02, Q-1: a fresh table holds 0
unfoldable pub fresh : Table
fresh = table_of (λ channel key. 0)

-- Places: the order channel, then key

-- how many entries a table has
abbrev pub places : ℕ
places = channels * keys

-- the place of a channel and key among them
abbrev pub key_place : ℕ → ℕ → ℕ
key_place channel key = channel * keys + key

-- the entry at a place
abbrev pub velocity_at : Table → ℕ → ℕ
velocity_at t place = entry t (place / keys) (place % keys)
