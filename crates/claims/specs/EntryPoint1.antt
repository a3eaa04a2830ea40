-- Point 1 of the exported entries, which is what is linked: each accepts, or refuses by a number of the table in documents 01 and 02, one of its own; a refusal
-- leaves what was lent as it came, but for what document 01 says of one event that is read and of lists. Entries that refuse nothing have no line.
use Rattle.std.specs.Prelude.{◌≡◌, true, List, [], ◌∷◌, ◌⊎◌, ℕ, ◌+◌, ◌≤◌, ◌<◌, length, drop}
use Rattle.smf.specs.Answer.{gives}
use Rattle.smf.specs.Number.{read_number}
use Rattle.smf.specs.Place.{Span, inside, bytes_of}
use Rattle.smf.specs.Write.{over}
use Rattle.smf.specs.Lists.{ListAt}
use Rattle.track.specs.List.{capacity}
use Rattle.rows.specs.Sheet.{sheet_of}
use Rattle.rows.specs.RowLists.{rows_judged}
use Rattle.loader.specs.Entry.{from_bits}
use Rattle.loader_track.specs.Lists.{stop_number}
use Rattle.loader.proofs as loader
use Rattle.loader_track.proofs as loader_track
use Rattle.player.proofs as player
use Rattle.bank.specs.Bank.{most_tracks}
use Rattle.bank.specs.Read.{track_at}
use Rattle.bank.proofs as bank
use Rattle.claims.specs.Calls.{Always, Lent}
use Rattle.claims.specs.EntryCalls.{number_read_entry, number_write_entry, payload_read_entry, payload_write_entry, format_read_entry, format_encode_entry, timing_read_entry, timing_encode_entry, fps_as_code_entry, fps_from_int_entry, fps_as_f32_entry, smpte_new_entry, smpte_read_entry, smpte_encode_entry, smpte_second_f32_entry, smpte_position_entry, bend_as_int_entry, bend_as_f32_entry, bend_as_f64_entry, event_read_entry, event_length_entry, event_write_entry, list_read_entry, list_length_entry, list_write_entry, event_same_entry, list_same_entry, sounding_after_entry, sounding_silence_entry, bank_read_entry, bank_track_entry, bank_list_entry, bank_write_entry}
use Rattle.claims.specs.EntrySays.{Unchanged, Outcome, AnswersBy, said, said_list, entry_event_left, entry_size_left, entry_list_left}
use Rattle.claims.specs.Table.{among, OneOf, of_number, of_payload, of_event, of_length, of_writing, of_list_length, of_list_writing, of_bank, of_bank_track, of_bank_writing}
use Rattle.claims.specs.Stands.{status_left, ListStands}
use Rattle.claims.specs.Leaves.{EventLeaves, SizeLeaves, ListLeaves}

-- numbers and payloads: 2, 3 and 11 only where reading is strict
pub record NumberRefusals : Type 0 where
  pub number_read : Always loader.numbers.apk_number_read.Reads.Learnt (number_read_entry (λ bytes at bits value next padding r.
      AnswersBy (of_number (from_bits bits).strict) r (Unchanged value × Unchanged next × Unchanged padding)))
  pub number_write : Always loader.numbers.apk_number_write.Reads.Learnt (number_write_entry (λ value out at next r.
      AnswersBy (18 ∷ 20 ∷ []) r (Unchanged out × Unchanged next)))
  pub payload_read : Always loader.numbers.apk_payload_read.Reads.Learnt (payload_read_entry (λ bytes at bits start long padding r.
      AnswersBy (of_payload (from_bits bits).strict) r (Unchanged start × Unchanged long × Unchanged padding)))
  pub payload_write : Always loader.numbers.apk_payload_write.Reads.Learnt (payload_write_entry (λ payload start long out at next r.
      AnswersBy (19 ∷ 20 ∷ 22 ∷ []) r (Unchanged out × Unchanged next)))

-- header fields: 17 under two bytes, 15 a format above 2, 16 no such rate, 18 ticks above their width
pub record FieldRefusals : Type 0 where
  pub format_read : Always loader.fields.apk_format_read.Reads.Learnt (format_read_entry (λ bytes format r. AnswersBy (15 ∷ 17 ∷ []) r (Unchanged format)))
  pub format_encode : Always loader.fields.apk_format_encode.Reads.Learnt (format_encode_entry (λ format bytes r. AnswersBy (15 ∷ []) r (Unchanged bytes)))
  pub timing_read_lem : Always loader.fields.apk_timing_read.Reads.Learnt (timing_read_entry (λ bytes ticks rate subframe r.
      AnswersBy (16 ∷ 17 ∷ []) r (Unchanged ticks × Unchanged rate × Unchanged subframe)))
  pub timing_encode : Always loader.fields.apk_timing_encode.Reads.Learnt (timing_encode_entry (λ ticks rate subframe bytes r.
      AnswersBy (16 ∷ 18 ∷ []) r (Unchanged bytes)))

-- rates and SMPTE times: 16 no such rate, 13 outside the ranges, 18 where it is written
pub record TimeRefusals : Type 0 where
  pub fps_as_code : Always loader.smpte.apk_fps_as_code.Reads.Learnt (fps_as_code_entry (λ rate code r. AnswersBy (16 ∷ []) r (Unchanged code)))
  pub fps_from_int : Always loader.smpte.apk_fps_from_int.Reads.Learnt (fps_from_int_entry (λ raw rate r. AnswersBy (16 ∷ []) r (Unchanged rate)))
  pub fps_as_f32 : Always loader.smpte.apk_fps_as_f32.Reads.Learnt (fps_as_f32_entry (λ rate frames r. AnswersBy (16 ∷ []) r (Unchanged frames)))
  pub smpte_new : Always loader.smpte.apk_smpte_new.Reads.Learnt (smpte_new_entry (λ hour minute second frame subframe rate bits r.
      AnswersBy (13 ∷ 16 ∷ []) r (Unit {0})))
  pub smpte_read : Always loader.smpte.apk_smpte_read.Reads.Learnt (smpte_read_entry (λ first minute second frame subframe bits time r.
      AnswersBy (13 ∷ []) r (Unchanged time)))
  pub smpte_encode : Always loader.smpte.apk_smpte_encode.Reads.Learnt (smpte_encode_entry (λ hour minute second frame subframe rate bits bytes r.
      AnswersBy (16 ∷ 18 ∷ []) r (Unchanged bytes)))
  pub smpte_second_f32 : Always loader.smpte.apk_smpte_second_f32.Reads.Learnt (smpte_second_f32_entry (λ hour minute second frame subframe rate bits seconds r.
      AnswersBy (13 ∷ 16 ∷ []) r (Unchanged seconds)))
  pub smpte_position : Always loader.smpte.apk_smpte_position.Reads.Learnt (smpte_position_entry (λ hour minute second frame subframe rate bits subframes r.
      AnswersBy (13 ∷ 16 ∷ []) r (Unchanged subframes)))

-- bends: 18 above the width
pub record BendRefusals : Type 0 where
  pub bend_as_int : Always loader.bends.apk_bend_as_int.Reads.Learnt (bend_as_int_entry (λ raw int r. AnswersBy (18 ∷ []) r (Unchanged int)))
  pub bend_as_f32 : Always loader.bends.apk_bend_as_f32.Reads.Learnt (bend_as_f32_entry (λ raw float r. AnswersBy (18 ∷ []) r (Unchanged float)))
  pub bend_as_f64 : Always loader.bends.apk_bend_as_f64.Reads.Learnt (bend_as_f64_entry (λ raw float r. AnswersBy (18 ∷ []) r (Unchanged float)))

-- a list that was handed out: its rows in the cells from the first on and no other cell changed, how many they are, where reading stopped and why,
-- and their padding
pub record HandedOut (l : ListAt) (rows : Lent (List ℕ)) (count place after padding : Lent ℕ) (r : ℕ) : Type 0 where
  pub answer : r ≡ stop_number l.stop
  pub cells : rows.after ≡ over (sheet_of l.events) rows.before 0
  pub many : count.after ≡ length l.events
  pub reached : place.after ≡ l.place
  pub status : after.after ≡ l.running
  pub padded : padding.after ≡ l.padding

-- what `apk_list_read` says of a list, by the cells that it was lent
pub record ListTold (l : ListAt) (rows : Lent (List ℕ)) (count place after padding : Lent ℕ) (r : ℕ) : Type 0 where
  pub fits : length (sheet_of l.events) ≤ length rows.before → HandedOut l rows count place after padding r
  -- too few cells: 20, and nothing changes
  pub short : length rows.before < length (sheet_of l.events) → (r ≡ 20) × Unchanged rows × Unchanged count × Unchanged place × Unchanged after × Unchanged padding

pub record TrackRefusals : Type 0 where
  -- one event, read: a refusal is one of 1 to 14, leaves the row, uses no byte, says the running status that document 01 names, and has no padding
  pub event_read_lem : Always loader_track.events.apk_event_read.Reads.Learnt (event_read_entry (λ bytes at running bits row used after padding r.
      Outcome (of_event (from_bits bits).strict) r ((0 < used.after) × (at + used.after ≤ length bytes))
      (Unchanged row × (used.after ≡ 0) × (after.after ≡ status_left running (read_number (from_bits bits) (drop at bytes)) r) × (padding.after ≡ 0))))
  -- a list, read: 0 at the end, 255 full, else a refusal, which is one of 1 to 14, or 20 where the cells are too few
  pub list_read_answers : Always loader_track.list_read.apk_list_read.Reads.Learnt (list_read_entry (λ bytes at running bits rows count place after padding r.
      (among (0 ∷ 255 ∷ []) r ≡ true) ⊎ OneOf (20 ∷ of_event (from_bits bits).strict) r))
  -- it hands out a list of the events that stand there; those before a refusal stand, and it gives the place of the refused delta
  pub list_read : Always loader_track.list_read.apk_list_read.Reads.Learnt (list_read_entry (λ bytes at running bits rows count place after padding r.
      (l : ListAt) × ListStands (from_bits bits) bytes capacity running at l × ListTold l rows count place after padding r))
  -- one row's event, measured and written: a refusal leaves every byte, the place and the running status as given; an acceptance changes no byte but
  -- its own
  pub event_length : Always loader_track.events.apk_event_length.Reads.Learnt (event_length_entry (λ row payload running bits long after r.
      AnswersBy of_length r (Unchanged long × Unchanged after)))
  pub event_write : Always loader_track.events.apk_event_write.Reads.Learnt (event_write_entry (λ row payload running bits out at next after r.
      AnswersBy of_writing r (Unchanged next) × EventLeaves running at out.before (entry_event_left out next after r) (said r next.after)))
  -- a list of rows, measured and written: a refusal gives its number and index, and leaves every byte, the length, and the running status as given
  pub list_length : Always loader_track.list_write.apk_list_length.Reads.Learnt (list_length_entry (λ rows count payload running bits long after index r.
      Outcome of_list_length r (Unchanged index) (Unchanged long)
      × SizeLeaves (rows_judged (from_bits bits) payload count rows) count running (entry_size_left long after index r) (said_list r long.after index.after)))
  pub list_write : Always loader_track.list_write.apk_list_write.Reads.Learnt (list_write_entry (λ rows count payload running bits out long after index r.
      Outcome of_list_writing r (Unchanged index) (Unchanged long)
      × ListLeaves (rows_judged (from_bits bits) payload count rows) count running out.before (entry_list_left out long after index r) (said_list r long.after index.after)))

-- sameness: 21 a count above what a list holds, 18 a row that is no event's
pub record SameRefusals : Type 0 where
  pub event_same : Always loader_track.sameness.apk_event_same.Reads.Learnt (event_same_entry (λ rowA bytesA rowB bytesB same r. AnswersBy (18 ∷ []) r (Unchanged same)))
  pub list_same : Always loader_track.sameness.apk_list_same.Reads.Learnt (list_same_entry (λ rowsA count_a bytesA rowsB countB bytesB same r.
      AnswersBy (18 ∷ 21 ∷ []) r (Unchanged same)))

-- document 02, Q-1: 21 a count above what a list holds, 18 a row that is no event's, or a delta, a restricted field, or a channel or key asked for above
-- its width; 20 too few cells for the rows that are handed out. A refusal hands out an empty list
pub record SoundingRefusals : Type 0 where
  pub sounding_after : Always player.entries.apk_sounding_after.Reads.Learnt (sounding_after_entry (λ rows count table r.
      AnswersBy (18 ∷ 21 ∷ []) r (Unchanged table)))
  pub sounding_silence : Always player.entries.apk_sounding_silence.Reads.Learnt (sounding_silence_entry (λ table channel key rows count r.
      AnswersBy (18 ∷ 20 ∷ []) r (Unchanged rows × (count.after ≡ 0))))

-- document 02, Q-3: by which numbers a bank of programs is refused, and a track of it; a refusal leaves all that was lent as it came
pub record BankRefusals : Type 0 where
  pub bank_read : Always bank.entries.apk_bank_read.Reads.Learnt (bank_read_entry (λ block ranges count r.
      AnswersBy of_bank r (Unchanged ranges × Unchanged count)))
  pub bank_track_lem : Always bank.entries.apk_bank_track.Reads.Learnt (bank_track_entry (λ block index start long r.
      AnswersBy of_bank_track r (Unchanged start × Unchanged long)))
  -- a track, listed: a refusal of the bank or of the index changes nothing; else it is what `apk_list_read` says of the bytes of that index's range by
  -- themselves, from the first on and from no running status
  pub bank_list : Always bank.entries.apk_bank_list.Reads.Learnt (bank_list_entry (λ block index bits rows count place after padding r.
      (OneOf of_bank_track r × Unchanged rows × Unchanged count × Unchanged place × Unchanged after × Unchanged padding)
      ⊎ ((track : Span) × (track_at most_tracks block index ≡ gives track) × (inside block track ≡ true)
      × ((l : ListAt) × ListStands (from_bits bits) (bytes_of block track) capacity 0 0 l × ListTold l rows count place after padding r))))
  pub bank_write : Always bank.entries.apk_bank_write.Reads.Learnt (bank_write_entry (λ bytes ranges count out total r.
      AnswersBy of_bank_writing r (Unchanged out × Unchanged total)))

-- all of them
pub record EntryPoint1 : Type 0 where
  pub numbers : NumberRefusals
  pub fields : FieldRefusals
  pub times : TimeRefusals
  pub bends : BendRefusals
  pub tracks : TrackRefusals
  pub sameness : SameRefusals
  pub sounding : SoundingRefusals
  pub banks : BankRefusals
