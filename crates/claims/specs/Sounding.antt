-- Document 02, Q-1: notes still sounding. What a list leaves in a table, which goes from list to list, so that two lists in turn equal their joined
-- events; which lists are taken, every legal one among them; and the list that silences: which keys it names, that it is legal, that it makes 0 of what
-- it names and of nothing else, and that such lists in turn have in all as many events as keys sound.
use Rattle.std.specs.Prelude.{◌≡◌, true, false, ◌&&◌, ◌↔◌, ◌⊎◌, ℕ, ◌+◌, ◌*◌, ◌≤◌, ◌<◌, eqb, length, take, replicate}
use mathlib.Core.List.{List, [], ◌∷◌, ◌++◌, map, sum, Memᴰ}
use Rattle.smf.specs.Answer.{pick, gives, Rules}
use Rattle.smf.specs.Place.{Span}
use Rattle.smf.specs.Kind.{midi, note_off, note_on}
use Rattle.smf.specs.Event.{Event, event}
use Rattle.smf.specs.Lists.{records_judged, listed}
use Rattle.track.specs.List.{capacity, record_of}
use Rattle.track.specs.declared.list.EventList.{EventList}
use Rattle.rows.specs.Rows.{width}
use Rattle.rows.specs.RowLists.{are_rows, called_rows}
use Rattle.player.specs.Table.{channels, keys, places, Table, entry}
use Rattle.player.specs.Notes.{table_after}
use Rattle.player.specs.Widths.{all_within}
use Rattle.player.specs.Entries.{table_in}
use Rattle.player.proofs as player
use Rattle.claims.specs.Calls.{Always, Some, silence_call, EventListRead, Fresh, CountsOwned, After, Silence}
use Rattle.claims.specs.EntryCalls.{sounding_after_entry, sounding_counts_entry, sounding_silence_entry}

-- the events that a list counts
abbrev pub events_in : EventList → List (Event Span)
events_in list = take list.count (map record_of list.records)

-- a list of the events of two others, the second behind the first, and no more than a list holds
abbrev pub Joins : EventList → EventList → EventList → Type 0
Joins a b c = (c.count ≤ capacity) × (events_in c ≡ events_in a ++ events_in b)

-- the same of rows
abbrev pub RowsJoin : (rowsA : List ℕ) (count_a : ℕ) (rowsB : List ℕ) (countB : ℕ) (rowsC : List ℕ) (countC : ℕ) → Type 0
RowsJoin rowsA count_a rowsB countB rowsC countC =
    (countC ≤ capacity) × (are_rows countC rowsC ≡ true) × (called_rows countC rowsC ≡ called_rows count_a rowsA ++ called_rows countB rowsB)

-- each event that a list counts is legal, by given rules and over given payload bytes, and the list counts no more than it holds
abbrev pub Legal : Rules → List ℕ → EventList → Type 0
Legal rules bytes list =
    (list.count ≤ capacity)
    × (take list.count (records_judged rules bytes (map record_of list.records)) ≡ map gives (listed bytes (map record_of list.records) list.count))

-- no event of these is a note message for a channel and key
abbrev pub NoNote : ℕ → ℕ → List (Event Span) → Type 0
NoNote channel key es =
    (delta vel : ℕ) → (Memᴰ (event delta (midi channel (note_on key vel))) es → ⊥) × (Memᴰ (event delta (midi channel (note_off key vel))) es → ⊥)

-- document 02, Q-1: after events each entry is the velocity of the last note message for it, 0 after a `NoteOff`, and as before if there was none
pub record LeavesLast (before : Table) (es : List (Event Span)) (after : Table) : Type 0 where
  pub on : (front behind : List (Event Span)) (delta channel key vel : ℕ) → channel < channels → key < keys
      → es ≡ front ++ (event delta (midi channel (note_on key vel)) ∷ behind) → NoNote channel key behind → entry after channel key ≡ vel
  pub off : (front behind : List (Event Span)) (delta channel key vel : ℕ) → channel < channels → key < keys
      → es ≡ front ++ (event delta (midi channel (note_off key vel)) ∷ behind) → NoNote channel key behind → entry after channel key ≡ 0
  pub none : (channel key : ℕ) → channel < channels → key < keys → NoNote channel key es → entry after channel key ≡ entry before channel key

-- document 02, Q-1: a `NoteOff` with delta 0 and velocity 0 for a channel and key
abbrev pub off : ℕ → ℕ → Event Span
off channel key = event 0 (midi channel (note_off key 0))

-- a table after events that silence: 0 for each key that one of them names, and every other entry as it was
pub record Silenced (before : Table) (es : List (Event Span)) (after : Table) : Type 0 where
  pub named : (channel key : ℕ) → channel < channels → key < keys → Memᴰ (off channel key) es → entry after channel key ≡ 0
  pub others : (channel key : ℕ) → channel < channels → key < keys → (Memᴰ (off channel key) es → ⊥) → entry after channel key ≡ entry before channel key

-- by channel, then key: one key stands before another
abbrev pub Before : ℕ → ℕ → ℕ → ℕ → Type 0
Before channel key channel' key' = (channel < channel') ⊎ ((channel ≡ channel') × (key < key'))

-- a key sounds, its entry not 0, and does not stand before the one that is asked for
pub record Sounds (table : Table) (channel key c k : ℕ) : Type 0 where
  pub channel_fits : c < channels
  pub key_fits : k < keys
  pub not_nought : entry table c k ≡ 0 → ⊥
  pub behind : Before c k channel key → ⊥

-- document 02, Q-1: a `NoteOff` for each sounding key, by channel, then key, the first 128, which is what a list holds, from a channel and key asked for
pub record Names (table : Table) (channel key : ℕ) (es : List (Event Span)) : Type 0 where
  pub few : length es ≤ capacity
  pub sounds : (e : Event Span) → Memᴰ e es → (c : ℕ) × ((k : ℕ) × ((e ≡ off c k) × Sounds table channel key c k))
  pub order : (front behind : List (Event Span)) (c k c' k' : ℕ) → es ≡ front ++ (off c k ∷ off c' k' ∷ behind) → Before c k c' k'
  -- none is left out, but behind as many others as a list holds
  pub all : (c k : ℕ) → Sounds table channel key c k
      → Memᴰ (off c k) es ⊎ ((length es ≡ capacity) × ((c' k' : ℕ) → Memᴰ (off c' k') es → Before c' k' c k))

-- Lists in turn

-- the key behind one, by channel, then key: the last key of a channel is followed by the first of the next
abbrev pub next_channel : ℕ → ℕ → ℕ
next_channel channel key = pick (eqb (key + 1) keys) (channel + 1) channel

abbrev pub next_key : ℕ → ℕ
next_key key = pick (eqb (key + 1) keys) 0 (key + 1)

-- silencing lists of one table that were taken in turn, the first from a channel and key on and each next from the key behind the last one named, and how many
-- events they have in all; by which events are given from a channel and key on
pub data InTurn (Given : ℕ → ℕ → List (Event Span) → Type 0) : (channel key many : ℕ) → Type 0 where
  -- behind the last key of the last channel nothing is left to ask for
  over : InTurn Given channels 0 0
  -- an empty list ends them
  none : {channel key : ℕ} → Given channel key [] → InTurn Given channel key 0
  -- a list whose last event names a key, and those from the key behind that one on
  more : {channel key many : ℕ} (es : List (Event Span)) (c k : ℕ) → Given channel key (es ++ (off c k ∷ []))
      → InTurn Given (next_channel c k) (next_key k) many → InTurn Given channel key (length es + 1 + many)

-- events that a call of `silence` on a table gave, from a channel and key on
abbrev pub ListGiven : Table → ℕ → ℕ → List (Event Span) → Type 0
ListGiven table channel key es =
    Some player.silence.silence.Reads.Learnt
    (silence_call (λ table' channel' key' list number. (table' ≡ table) × (channel'.0 ≡ channel) × (key'.0 ≡ key) × (number ≡ 0) × (events_in list ≡ es)))

-- events whose rows a call of `apk_sounding_silence` on a table handed out
abbrev pub RowsGiven : List ℕ → ℕ → ℕ → List (Event Span) → Type 0
RowsGiven table channel key es =
    Some player.entries.apk_sounding_silence.Reads.Learnt
    (sounding_silence_entry (λ table' channel' key' rows count r.
    (table' ≡ table) × (channel' ≡ channel) × (key' ≡ key) × (r ≡ 0) × (called_rows count.after rows.after ≡ es)))

pub record Sounding : Type 1 where
  -- `after` accepts exactly the lists that count no more than a list holds and whose deltas and restricted fields are within their widths; 21, then 18
  pub accepts : After (λ table list left number. (number ≡ 0) ↔ ((list.count ≤ capacity) × (all_within (events_in list) ≡ true)))
  pub many : After (λ table list left number. capacity < list.count → number ≡ 21)
  pub wide : After (λ table list left number. list.count ≤ capacity → all_within (events_in list) ≡ false → number ≡ 18)
  -- and so does `apk_sounding_after`, of rows that are events' all; by the same numbers, 18 for a row that is no event's too
  pub entry_accepts : Always player.entries.apk_sounding_after.Reads.Learnt (sounding_after_entry (λ rows count table r.
      (r ≡ 0) ↔ ((count ≤ capacity) × ((are_rows count rows && all_within (called_rows count rows)) ≡ true))))
  pub entry_many : Always player.entries.apk_sounding_after.Reads.Learnt (sounding_after_entry (λ rows count table r. capacity < count → r ≡ 21))
  pub entry_wide : Always player.entries.apk_sounding_after.Reads.Learnt (sounding_after_entry (λ rows count table r.
      count ≤ capacity → (are_rows count rows && all_within (called_rows count rows)) ≡ false → r ≡ 18))
  -- what it leaves, where it accepts
  pub leaves : After (λ table list left number. number ≡ 0 → LeavesLast table (events_in list) left)
  pub entry_leaves : Always player.entries.apk_sounding_after.Reads.Learnt (sounding_after_entry (λ rows count table r. r ≡ 0
      → LeavesLast (table_in table.before) (called_rows count rows) (table_in table.after)))
  -- of the definition, whatever the lists hold and whatever stands for a payload: two lists in turn equal their joined events
  pub joined : {P : Type 0} (table : Table) (es fs : List (Event P)) → table_after (table_after table es) fs ≡ table_after table (es ++ fs)
  -- of `after`: two lists that are accepted in turn, and a list that joins them, which is accepted too and leaves the same table
  pub after_joined : After (λ table a left number. number ≡ 0 → After (λ table' b left' number'. table' ≡ left → number' ≡ 0
      → After (λ table'' c left'' number''. table'' ≡ table → Joins a b c → (number'' ≡ 0) × (left'' ≡ left'))))
  -- and of `apk_sounding_after`
  pub entry_joined : Always player.entries.apk_sounding_after.Reads.Learnt (sounding_after_entry (λ rowsA count_a tableA a. a ≡ 0
      → Always player.entries.apk_sounding_after.Reads.Learnt (sounding_after_entry (λ rowsB countB tableB b. tableB.before ≡ tableA.after → b ≡ 0
      → Always player.entries.apk_sounding_after.Reads.Learnt (sounding_after_entry (λ rowsC countC tableC c. tableC.before ≡ tableA.before
      → RowsJoin rowsA count_a rowsB countB rowsC countC → (c ≡ 0) × (tableC.after ≡ tableB.after)))))))
  -- a list whose events are legal is accepted, whatever the rules and the payload bytes are by which they are
  pub takes_legal : After (λ table list left number. (rules : Rules) (bytes : List ℕ) → Legal rules bytes list → number ≡ 0)
  -- and so is a list as `EventList::read` gives it
  pub takes_read : EventListRead (λ raw at running rules r. After (λ table list left number. list ≡ r.list → number ≡ 0))
  -- a fresh table holds 0
  pub fresh : Fresh (λ table. (channel key : ℕ) → channel < channels → key < keys → entry table channel key ≡ 0)
  -- `silence` accepts exactly the channels and keys within their widths, and names what sounds from there on
  pub asks : Silence (λ table channel key list number. (number ≡ 0) ↔ ((channel.0 < 16) × (key.0 < 128)))
  -- and so does `apk_sounding_silence`, where there are cells for the rows: 18, then 20
  pub entry_asks : Always player.entries.apk_sounding_silence.Reads.Learnt (sounding_silence_entry (λ table channel key rows count r.
      (channel < 16) × (key < 128) → capacity * width ≤ length rows.before → r ≡ 0))
  pub entry_unasked : Always player.entries.apk_sounding_silence.Reads.Learnt (sounding_silence_entry (λ table channel key rows count r.
      ((channel < 16) × (key < 128) → ⊥) → r ≡ 18))
  pub names : Silence (λ table channel key list number. number ≡ 0 → Names table channel.0 key.0 (events_in list))
  pub entry_names : Always player.entries.apk_sounding_silence.Reads.Learnt (sounding_silence_entry (λ table channel key rows count r. r ≡ 0
      → Names (table_in table) channel key (called_rows count.after rows.after)))
  -- the list that `silence` gives is legal by all rules, whatever the payload bytes are
  pub silence_legal : Silence (λ table channel key list number. (rules : Rules) (bytes : List ℕ) → Legal rules bytes list)
  -- `after`, of the same table and that list: it is accepted, makes 0 of what the list names, and leaves the rest
  pub silences : Silence (λ table channel key list number. After (λ table' list' left number'. table' ≡ table → list' ≡ list
      → (number' ≡ 0) × Silenced table (events_in list) left))
  -- and of the entries: the rows that `apk_sounding_silence` hands out, given to `apk_sounding_after` with the same table
  pub entry_silences : Always player.entries.apk_sounding_silence.Reads.Learnt (sounding_silence_entry (λ table channel key rows count r. r ≡ 0
      → Always player.entries.apk_sounding_after.Reads.Learnt (sounding_after_entry (λ rows' count' table' r'.
      rows' ≡ rows.after → count' ≡ count.after → table'.before ≡ table
      → (r' ≡ 0) × Silenced (table_in table) (called_rows count' rows') (table_in table'.after)))))
  -- with no more keys sounding than a list holds, the list from channel 0, key 0 leaves what `fresh` gives
  pub all_off : Silence (λ table channel key list number. channel.0 ≡ 0 → key.0 ≡ 0
      → CountsOwned (λ table' sounding. table' ≡ table → sum ◌+◌ 0 sounding ≤ capacity
      → After (λ table'' list' left number'. table'' ≡ table → list' ≡ list → Fresh (λ none. left ≡ none))))
  -- and the rows from there leave the bytes of a fresh table, which are 0
  pub entry_all_off : Always player.entries.apk_sounding_silence.Reads.Learnt (sounding_silence_entry (λ table channel key rows count r. channel ≡ 0 → key ≡ 0 → r ≡ 0
      → Always player.entries.apk_sounding_counts.Reads.Learnt (sounding_counts_entry (λ table' sounding r'. table' ≡ table → sum ◌+◌ 0 sounding.after ≤ capacity
      → Always player.entries.apk_sounding_after.Reads.Learnt (sounding_after_entry (λ rows' count' table'' r''.
      rows' ≡ rows.after → count' ≡ count.after → table''.before ≡ table → table''.after ≡ replicate places 0))))))
  -- silencing lists in turn, from channel 0, key 0, have in all as many events as `counts` says that keys sound
  pub counted : CountsOwned (λ table sounding. (many : ℕ) → InTurn (ListGiven table) 0 0 many → many ≡ sum ◌+◌ 0 sounding)
  -- and so have the rows
  pub entry_counted : Always player.entries.apk_sounding_counts.Reads.Learnt (sounding_counts_entry (λ table sounding r.
      (many : ℕ) → InTurn (RowsGiven table) 0 0 many → many ≡ sum ◌+◌ 0 sounding.after))
