-- The keys that sound. Document 02, Q-1: an entry that is not 0; how many there are of each channel; and the list that silences them, a `NoteOff` with
-- delta 0 and velocity 0 for each, by channel, then key, the first so many from a channel and key asked for.
use Rattle.std.specs.Prelude.{◌&&◌, List, [], ◌∷◌, map, ℕ, ◌+◌, ◌-◌, ◌/◌, ◌%◌, eqb, take}
use Rattle.smf.specs.Answer.{pick, Answer, gives, unless}
use Rattle.smf.specs.Place.{Span}
use Rattle.smf.specs.Kind.{note_off, midi}
use Rattle.smf.specs.Event.{Event, event}
use Rattle.player.specs.Table.{Table, keys, numbers_from, places, key_place, velocity_at}
use Rattle.player.specs.Widths.{within}

-- how many of these entries sound
unfoldable pub sounding_count : List ℕ → ℕ
sounding_count [] = 0
sounding_count (v ∷ vs) = pick (eqb v 0) 0 1 + sounding_count vs

-- of each channel, how many of its keys sound
unfoldable pub counts : Table → List ℕ
counts t = map sounding_count t

-- of these places those that sound, in their order
unfoldable pub sounding_of : Table → List ℕ → List ℕ
sounding_of t [] = []
sounding_of t (place ∷ more) = pick (eqb (velocity_at t place) 0) (sounding_of t more) (place ∷ sounding_of t more)

-- the places at or behind one that sound, by channel, then key
unfoldable pub sounding_from : Table → ℕ → List ℕ
sounding_from t place = sounding_of t (numbers_from place (places - place))

-- a `NoteOff` for the key at a place, with delta 0 and velocity 0
abbrev pub note_off_at : ℕ → Event Span
note_off_at place = event 0 (midi (place / keys) (note_off (place % keys) 0))

-- the first so many of them, from a place on
unfoldable pub silence_from : ℕ → Table → ℕ → List (Event Span)
silence_from most t place = map note_off_at (take most (sounding_from t place))

-- the silencing list from a channel and key; 18 where one is above its width
unfoldable pub silence : ℕ → Table → ℕ → ℕ → Answer (List (Event Span))
silence most t channel key = unless (within 4 channel && within 7 key) 18 (gives (silence_from most t (key_place channel key)))
