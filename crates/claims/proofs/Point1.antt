-- Point 1, proved: each promise's definition refuses by those numbers, and leaves what it found.
use mathlib.Core.Path.{◌≡◌, refl, sym, subst}
use mathlib.Core.Bool.{true}
use mathlib.Core.List.{List, [], ◌∷◌, map}
use Prim.Native.Nat.{ℕ}
use lib.Ieee.{binary32, binary64}
use Rattle.smf.specs.Answer.{Answer}
use Rattle.smf.specs.Write as smf
use Rattle.smf.specs.Write.{number_bytes, part, payload_bytes}
use Rattle.smf.specs.Event.{legal, EventWritten}
use Rattle.smf.specs.Lists.{ListAt, list_at, holding, held_as, records_judged, ListSize, ListWritten}
use Rattle.base.specs.Refusal.{number_of}
use Rattle.base.specs.Rules.{rules_of}
use Rattle.base.specs.declared.Rules.{Rules}
use Rattle.base.specs.declared.Running.{Running}
use Rattle.base.specs.declared.Refusal.{Refusal}
use Rattle.base.specs.declared.Refusal.TheVariants as refusal
use Rattle.header.specs.Timing.{timing_of}
use Rattle.event.specs.Event.{event_of}
use Rattle.rows.specs.RowEvent.{row_judged}
use Rattle.rows.specs.RowLists.{rows_judged}
use Rattle.track.specs.List.{capacity, record_of}
use Rattle.track.specs.Read.{list_read_of}
use Rattle.track.specs.declared.read.ReadList.{ReadList}
use Rattle.player.specs.Widths.{accepted}
use Rattle.player.specs.Sounding.{silence}
use Rattle.bank.specs.Bank.{most_tracks}
use Rattle.bank.specs.Read.{read_bank, track_listed}
use Rattle.bank.specs.Write.{ranges_bank}
use Rattle.bank.specs.Answers.{BankAnswer, ListAnswer, held_tracks, empty_list, spans_of}
use Rattle.claims.specs.Calls.{first}
use Rattle.claims.specs.Table.{in_table, By, Keeps, of_number, of_payload, of_meta, of_length, of_bank, of_bank_track, of_bank_writing}
use Rattle.claims.specs.Stands.{EventOrLeft, ListStands}
use Rattle.claims.specs.Leaves.{EventLeaves, SizeLeaves, ListLeaves}
use Rattle.claims.specs.Point1.{Numbered, Point1}
use Rattle.claims.proofs.Calls as calls
use Rattle.claims.proofs.Refusals.{by_more, number_at_by, payload_at_by, meta_at_by, width_by, format_by, rate_by, timing_by, timing_bytes_by, time_by, time_of_by, time_bytes_by, seconds_by, position_by, bend_by, bend_float_by, number_bytes_by, payload_bytes_by, write_keeps, legal_by, row_by, event_length_by}
use Rattle.claims.proofs.BankRefusals.{bank_by, track_by, listed_by, ranges_bank_by, part_by, bank_keeps, list_keeps}
use Rattle.claims.proofs.Player.{accepted_by, silence_by, answers_beside}
use Rattle.claims.proofs.ReadLeaves.{event_or_left}
use Rattle.claims.proofs.Stands.{list_stands}
use Rattle.claims.proofs.EventWrites.{event_leaves}
use Rattle.claims.proofs.ListLeaves.{records_by, rows_by, size_leaves, list_leaves_lem}

table : (n : Refusal) → in_table (number_of n) ≡ true
table refusal.RunningStatus = refl
table refusal.NumberCutOff = refl
table refusal.NumberContinues = refl
table refusal.NoStatus = refl
table refusal.NoRunningStatus = refl
table refusal.SystemCommon = refl
table refusal.SystemRealtime = refl
table refusal.ChannelDataShort = refl
table refusal.ChannelDataTopBit = refl
table refusal.NoMetaType = refl
table refusal.PayloadCutOff = refl
table refusal.ChannelOrPort = refl
table refusal.SmpteTime = refl
table refusal.KeySignatureShort = refl
table refusal.NoSuchFormat = refl
table refusal.NoSuchRate = refl
table refusal.HeaderFieldShort = refl
table refusal.AboveWidth = refl
table refusal.PayloadOutside = refl
table refusal.NoRoom = refl
table refusal.TooManyEvents = refl
table refusal.PayloadTooLong = refl
table refusal.UnknownNamed = refl
table refusal.BankShort = refl
table refusal.TooManyTracks = refl
table refusal.BankDisagrees = refl
table refusal.NoSuchTrack = refl

-- what an answer says is refused by the numbers of the definition that it equals
of : {A : Type 0} {x y : Answer A} (ns : List ℕ) → x ≡ y → By ns y → By ns x
of ns told h = subst (By ns) (sym told) h

numbered : Numbered
numbered =
    record {
      u2_try_from = λ κs a z e told. of (18 ∷ []) told (width_by 2 _);
      u4_try_from = λ κs a z e told. of (18 ∷ []) told (width_by 4 _);
      u7_try_from = λ κs a z e told. of (18 ∷ []) told (width_by 7 _);
      u14_try_from = λ κs a z e told. of (18 ∷ []) told (width_by 14 _);
      u15_try_from = λ κs a z e told. of (18 ∷ []) told (width_by 15 _);
      u24_try_from = λ κs a z e told. of (18 ∷ []) told (width_by 24 _);
      u28_try_from = λ κs a z e told. of (18 ∷ []) told (width_by 28 _);
      format_read = λ κs a z e told. of (15 ∷ 17 ∷ []) told (format_by (first a).now);
      timing_read_lem = λ κs a z e told. of (16 ∷ 17 ∷ []) told (timing_by (first a).now);
      timing_encode = λ κs a z e told. of (18 ∷ []) told (timing_bytes_by (timing_of (first a)));
      fps_from_int = λ κs a z e told. of (16 ∷ []) told (rate_by (first a));
      smpte_new = λ κs a z e told. of (13 ∷ []) told (time_by _ _);
      smpte_read = λ κs a z e told. of (13 ∷ []) told (time_of_by _ _ _ _ _ _);
      smpte_second_f32 = λ κs a z e told. of (13 ∷ []) told (seconds_by _ _);
      smpte_position = λ κs a z e told. of (13 ∷ []) told (position_by _ _);
      smpte_encode = λ κs a z e told. of (18 ∷ []) told (time_bytes_by _ _);
      bend_as_int = λ κs a z e told. of (18 ∷ []) told (bend_by _);
      bend_as_f32 = λ κs a z e told. of (18 ∷ []) told.0 (bend_float_by binary32 _);
      bend_as_f64 = λ κs a z e told. of (18 ∷ []) told.0 (bend_float_by binary64 _);
      event_length = λ κs a z e told. of of_length told (event_length_by _ _ (legal_by _ _ _));
      row_length = λ κs a z e told. of of_length told (event_length_by _ _ (row_by _ _ _));
    }

list_said : (raw : List ℕ) (at : ℕ) (running : Running) (rules : Rules) (r : ReadList) → list_read_of r ≡ held_as capacity (list_at (rules_of rules) capacity running.status raw at)
    → (l : ListAt) × (list_read_of r ≡ held_as capacity l) × ListStands (rules_of rules) raw capacity running.status at l
list_said raw at running rules r told =
    (list_at (rules_of rules) capacity running.status raw at, told, list_stands (rules_of rules) raw at capacity running.status)

pub point_1 : Point1
point_1 =
    record {
      table = table;
      numbered = numbered;
      read_u7 = calls.read_u7 _ (λ raw at rules r told. of (of_number rules.strict) told (number_at_by (rules_of rules) raw at));
      read_varlen_slice = calls.read_varlen_slice _ (λ raw at rules r told. of (of_payload rules.strict) told (payload_at_by (rules_of rules) raw at));
      meta_message_read = calls.read_meta_lem _ (λ raw at rules r told. of (of_meta rules.strict) told (meta_at_by (rules_of rules) raw at));
      write_varlen = calls.write_varlen _ (λ self out at r end told.
          subst (λ (w : smf.Written). Keeps (18 ∷ 20 ∷ []) w.answer out w.buffer) (sym told)
          (write_keeps (18 ∷ 20 ∷ []) (number_bytes self.0) out at (by_more (18 ∷ 20 ∷ []) (18 ∷ []) (number_bytes self.0) refl (number_bytes_by self.0)) refl));
      write_varlen_slice = calls.write_varlen_slice _ (λ bytes slice out at r end told.
          subst (λ (w : smf.Written). Keeps (19 ∷ 20 ∷ 22 ∷ []) w.answer out w.buffer) (sym told)
          (write_keeps (19 ∷ 20 ∷ 22 ∷ []) (payload_bytes bytes slice.start slice.length) out at
          (by_more (19 ∷ 20 ∷ 22 ∷ []) (19 ∷ 22 ∷ []) (payload_bytes bytes slice.start slice.length) refl (payload_bytes_by bytes slice.start slice.length)) refl));
      track_event_read = calls.read_event_lem _ (λ raw at running rules r told.
          subst (EventOrLeft (rules_of rules) raw running.status at) (sym told) (event_or_left (rules_of rules) raw running.status at));
      event_list_read = calls.read_list_lem _ list_said;
      write_event_lem = calls.write_event_lem _ (λ event running rules bytes out at r end told.
          subst (λ (w : EventWritten). EventLeaves running.status at out w w.written.answer) (sym told)
          (event_leaves running.status (legal (rules_of rules) bytes (event_of event)) (legal_by (rules_of rules) bytes (event_of event)) out at));
      write_row = calls.write_row _ (λ row running rules bytes out at r end told.
          subst (λ (w : EventWritten). EventLeaves running.status at out w w.written.answer) (sym told)
          (event_leaves running.status (row_judged (rules_of rules) bytes row) (row_by (rules_of rules) bytes row) out at));
      list_length = calls.list_length _ (λ list running rules bytes r told.
          subst (λ (w : ListSize). SizeLeaves (records_judged (rules_of rules) bytes (map record_of list.records)) list.count running.status w w.answer) (sym told)
          (size_leaves (records_judged (rules_of rules) bytes (map record_of list.records)) (records_by (rules_of rules) bytes (map record_of list.records)) list.count capacity running.status));
      write_list_lem = calls.write_list_lem _ (λ list running rules bytes out r end told.
          subst (λ (w : ListWritten). ListLeaves (records_judged (rules_of rules) bytes (map record_of list.records)) list.count running.status out w w.answer) (sym told)
          (list_leaves_lem (records_judged (rules_of rules) bytes (map record_of list.records)) (records_by (rules_of rules) bytes (map record_of list.records)) list.count capacity running.status out));
      rows_length = calls.rows_length _ (λ rows count running rules bytes r told.
          subst (λ (w : ListSize). SizeLeaves (rows_judged (rules_of rules) bytes count rows) count running.status w w.answer) (sym told)
          (size_leaves (rows_judged (rules_of rules) bytes count rows) (rows_by (rules_of rules) bytes count rows) count capacity running.status));
      write_rows = calls.write_rows _ (λ rows count running rules bytes out r end told.
          subst (λ (w : ListWritten). ListLeaves (rows_judged (rules_of rules) bytes count rows) count running.status out w w.answer) (sym told)
          (list_leaves_lem (rows_judged (rules_of rules) bytes count rows) (rows_by (rules_of rules) bytes count rows) count capacity running.status out));
      after = calls.after _ (λ table list left number told.
          let records = map record_of list.records in
          answers_beside (18 ∷ 21 ∷ []) table (accepted capacity records list.count) _ told (accepted_by capacity records list.count));
      silence = calls.silence _ (λ table channel key list number told.
          answers_beside (18 ∷ []) (holding capacity []) (silence capacity table channel.0 key.0) _ told (silence_by capacity table channel.0 key.0));
      write_slice = calls.write_slice _ (λ bytes slice out at r end told.
          let own = part bytes (record { start = slice.start; length = slice.length }) in
          subst (λ (w : smf.Written). Keeps (19 ∷ 20 ∷ []) w.answer out w.buffer) (sym told)
          (write_keeps (19 ∷ 20 ∷ []) own out at (part_by bytes (record { start = slice.start; length = slice.length })) refl));
      read_bank_lem = calls.read_bank_lem _ (λ block r told.
          subst (λ (w : BankAnswer). Keeps of_bank w.verdict (held_tracks most_tracks []) w.bank) (sym told)
          (bank_keeps most_tracks (read_bank most_tracks block) (bank_by most_tracks block)));
      bank_track_lem = calls.bank_track_lem _ (λ block index r told. of of_bank_track told (track_by most_tracks block index));
      list_track = calls.list_track _ (λ block index rules r told.
          subst (λ (w : ListAnswer). Keeps of_bank_track w.verdict (empty_list capacity) w.list) (sym told)
          (list_keeps capacity (track_listed (rules_of rules) capacity most_tracks block index) (listed_by (rules_of rules) capacity most_tracks block index)));
      write_bank_lem = calls.write_bank_lem _ (λ bytes ranges count out r end told.
          subst (λ (w : smf.Written). Keeps of_bank_writing w.answer out w.buffer) (sym told)
          (write_keeps of_bank_writing (ranges_bank most_tracks bytes (spans_of ranges) count) out 0 (ranges_bank_by most_tracks bytes (spans_of ranges) count) refl));
    }
