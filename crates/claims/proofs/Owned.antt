-- What the kit knows of a value of its type: a list's array is full, and the type of each `Unknown` is a byte; a table has all its channels and keys, and the ranges of a bank are as many as it may have tracks.
use Rattle.std.specs.Prelude.{None, Option, Some, ℕ}
use mathlib.Core.Path.{◌≡◌}
use mathlib.Core.List.{List, [], ◌∷◌, map}
use lib.ListN.{length}
use contract.Lifetimes.{Lfts}
use mir.Val.{Val}
use denote.Array.{each}
use denote.Shadow.{shadow}
use denote.Struct.Laws as struct
use borrow.Fn.Kinds.{Dens, GoodsP}
use borrow.Kind.Array.{good_length, e_struct}
use Rattle.smf.specs.Event.{carries, meta_carries}
use Rattle.meta.specs.Meta.{number_meta, meta_of}
use Rattle.meta.specs.declared.MetaMessage.{MetaMessage}
use Rattle.meta.specs.declared.MetaMessage.TheVariants as meta
use Rattle.meta.specs.contracts.MetaMessage as message
use Rattle.event.specs.Event.{kind_of}
use Rattle.event.specs.declared.TrackEventKind.{TrackEventKind}
use Rattle.event.specs.declared.TrackEventKind.TheVariants as kind
use Rattle.event.specs.contracts.TrackEventKind as event
use Rattle.track.specs.List.{capacity, record_of}
use Rattle.track.specs.declared.list.Record.{Record}
use Rattle.track.specs.contracts.list.Record as record-type
use Rattle.track.specs.contracts.list.EventList as list
use Rattle.track.proofs.list.EventList.TheLaws as laws
use Rattle.write.proofs.records.write_list as write_list_lem
use Rattle.player.proofs.Tables.{Shaped}
use Rattle.player.proofs.Arrays.{shaped_array}
use Rattle.player.proofs.table.counts as counts
use Rattle.base.specs.contracts.Range as range
use Rattle.base.proofs.Range.TheLaws as range-laws
use Rattle.bank.specs.Bank.{most_tracks}
use Rattle.bank.proofs.writing.write_bank as write_bank_lem
use Rattle.claims.proofs.Carried.{TypeByte, TypeBytes}

number_type : (n : Option ℕ) → TypeByte (meta_carries (number_meta n))
unfolding meta_carries
number_type (Some n) = tt
number_type None = tt

meta_type : (m : MetaMessage) (vs : List Val) → shadow ((message.the_field).row.own_val ((message.the_field).into m) vs) → TypeByte (meta_carries (meta_of m))
unfolding meta_carries
meta_type (meta.TrackNumber n) vs p = number_type n
meta_type (meta.Text r) vs p = tt
meta_type (meta.Copyright r) vs p = tt
meta_type (meta.TrackName r) vs p = tt
meta_type (meta.InstrumentName r) vs p = tt
meta_type (meta.Lyric r) vs p = tt
meta_type (meta.Marker r) vs p = tt
meta_type (meta.CuePoint r) vs p = tt
meta_type (meta.ProgramName r) vs p = tt
meta_type (meta.DeviceName r) vs p = tt
meta_type (meta.MidiChannel c) vs p = tt
meta_type (meta.MidiPort c) vs p = tt
meta_type meta.EndOfTrack vs p = tt
meta_type (meta.Tempo v) vs p = tt
meta_type (meta.SmpteOffset time) vs p = tt
meta_type (meta.TimeSignature a b c d) vs p = tt
meta_type (meta.KeySignature sharps minor) vs p = tt
meta_type (meta.SequencerSpecific r) vs p = tt
meta_type (meta.Unknown t r) vs p = p.1.1.1.1.0.1

kind_type : (k : TrackEventKind) (vs : List Val) → shadow ((event.the_field).row.own_val ((event.the_field).into k) vs) → TypeByte (carries (kind_of k))
unfolding carries
kind_type (kind.Midi channel m) vs p = tt
kind_type (kind.SysEx r) vs p = tt
kind_type (kind.Escape r) vs p = tt
kind_type (kind.Meta m) vs p = meta_type m p.1.1.0.0 p.1.1.1.1.0

record_types : (r : Record) (vs : List Val) → shadow ((record-type.the_field).row.own_val ((record-type.the_field).into r) vs) → TypeByte (carries (record_of r).kind)
record_types r vs p = kind_type r.event.kind _ p.1.1.0.1.1.1.0

all_types : (rs : List Record) (us : List Val)
    → shadow (each (record-type.the_row).Denot (record-type.the_row).own_val rs us) → TypeBytes (map record_of rs)
all_types [] us p = tt
all_types (r ∷ rs) [] p = absurd p
all_types (r ∷ rs) (u ∷ us) p = (record_types r (u ∷ []) p.0, all_types rs us p.1)

module _ (κs : Lfts 2) (a : Dens κs write_list_lem.Kinds.ps) (good : GoodsP κs write_list_lem.Kinds.ps a) where
  pub full_list : length a.0.records ≡ capacity
  full_list =
      let parts = struct.owed list.the_type laws.the_laws a.0 (struct.val list.the_type laws.the_laws a.0 ∷ []) good.0 in
      parts.0.1.0.1

  pub list_types : TypeBytes (map record_of a.0.records)
  list_types =
      let parts = struct.owed list.the_type laws.the_laws a.0 (struct.val list.the_type laws.the_laws a.0 ∷ []) good.0 in
      all_types a.0.records parts.0.0 parts.0.1.1

pub full_table : (κs : Lfts 0) (a : Dens κs counts.Kinds.ps) → GoodsP κs counts.Kinds.ps a → Shaped a.0
full_table κs a good = shaped_array a.0 _ good.0

pub full_ranges : (κs : Lfts 2) (a : Dens κs write_bank_lem.Kinds.ps) → GoodsP κs write_bank_lem.Kinds.ps a → length a.1.0 ≡ most_tracks
full_ranges κs a good = good_length (e_struct range.the_type range-laws.the_laws range-laws.the_copy) most_tracks a.1.0 _ good.1.0
