-- A claim of every call that a promise permits, from a law over plain values whose premise is the promise's own equation.
use Rattle.write.specs.declared.answer.WriteRefused.{WriteRefused}
use Rattle.write.specs.declared.answer.Size.{Size}
use Rattle.std.specs.Prelude.{Result}
use Rattle.base.specs.declared.Refusal.{Refusal}
use Rattle.number.specs.declared.payload.Payload.{Payload}
use Rattle.write.specs.declared.answer.Past.{Past}
use Rattle.number.specs.declared.varlen.NumberAt.{NumberAt}
use Rattle.meta.specs.declared.MetaAt.{MetaAt}
use Rattle.write.specs.declared.answer.ListRefused.{ListRefused}
use Rattle.event.specs.declared.read.EventRefused.{EventRefused}
use Rattle.event.specs.declared.read.EventAt.{EventAt}
use mathlib.Core.Path.{◌≡◌, ◌∙◌}
use mathlib.Core.List.{List, map}
use Prim.Native.Nat.{ℕ}
use Rattle.smf.specs.Place.{number_at, payload_at}
use Rattle.smf.specs.Write.{write, number_bytes, part, payload_bytes}
use Rattle.smf.specs.MetaAt.{meta_at}
use Rattle.smf.specs.Event.{event_at, legal, write_event}
use Rattle.smf.specs.Lists.{list_at, held_as, records_judged, size_list, write_list}
use Rattle.base.specs.Rules.{rules_of}
use Rattle.number.specs.Varlen.{number_read_of, write_left}
use Rattle.number.specs.Payload.{slice_read}
use Rattle.base.specs.declared.Rules.{Rules}
use Rattle.base.specs.declared.Running.{Running}
use Rattle.base.specs.declared.Range.{Range}
use Rattle.base.specs.declared.u4.{u4}
use Rattle.base.specs.declared.u7.{u7}
use Rattle.number.specs.declared.u28.{u28}
use Rattle.meta.specs.Meta.{meta_read}
use Rattle.event.specs.Event.{event_of, event_read}
use Rattle.event.specs.declared.TrackEvent.{TrackEvent}
use Rattle.track.specs.List.{capacity, record_of, held_of}
use Rattle.track.specs.Read.{list_read_of}
use Rattle.track.specs.declared.list.EventList.{EventList}
use Rattle.track.specs.declared.read.ReadList.{ReadList}
use Rattle.rows.specs.RowEvent.{row_judged}
use Rattle.rows.specs.RowLists.{rows_judged}
use Rattle.write.specs.Wrote.{wrote_event}
use Rattle.write.specs.ListAnswers.{size_said, wrote_list}
use Rattle.player.specs.Table.{Table}
use Rattle.player.specs.Widths.{accepted}
use Rattle.player.specs.Sounding as player
use Rattle.player.specs.Answers.{with_number, table_beside, list_beside, table_said, list_said}
use Rattle.bank.specs.Bank.{most_tracks}
use Rattle.bank.specs.Read.{read_bank, track_at, track_listed}
use Rattle.bank.specs.Write.{write_bank}
use Rattle.bank.specs.Answers.{spans_of, bank_answer, bank_track, list_answer, bank_left}
use Rattle.claims.specs.Handed.{ReadBank, ListedTrack, list_handed, bank_handed, track_handed}
use Rattle.claims.proofs.Handed.{bank_shown, track_shown, handed_list, handed_bank, handed_track}
use Rattle.claims.specs.Calls.{first, second, third, fourth, fifth, sixth, ReadU7, WriteVarlen, ReadVarlenSlice, WriteVarlenSlice, MetaMessageRead, TrackEventRead, EventListRead, WriteEvent, WriteRow, ListLength, WriteList, RowsLength, WriteRows, After, Silence, WriteSlice, BankRead, BankTrack, ListTrack, WriteBank}

pub read_u7 : (Claim : List ℕ → ℕ → Rules → Result NumberAt Refusal → Type 0)
    → ((raw : List ℕ) (at : ℕ) (rules : Rules) (r : Result NumberAt Refusal) → number_read_of r ≡ number_at (rules_of rules) raw at → Claim raw at rules r)
    → ReadU7 Claim
read_u7 Claim law κs a r e told = law (first a).now (second a) (third a) r told

pub write_varlen : (Claim : u28 → List ℕ → ℕ → Result ℕ Refusal → List ℕ → Type 0)
    → ((self : u28) (out : List ℕ) (at : ℕ) (r : Result ℕ Refusal) (end : List ℕ) → write_left r end ≡ write (number_bytes self.0) out at → Claim self out at r end)
    → WriteVarlen Claim
write_varlen Claim law κs a r e told = law (first a) (second a).now (third a) r (second e).now told

pub read_varlen_slice : (Claim : List ℕ → ℕ → Rules → Result Payload Refusal → Type 0)
    → ((raw : List ℕ) (at : ℕ) (rules : Rules) (r : Result Payload Refusal) → slice_read r ≡ payload_at (rules_of rules) raw at → Claim raw at rules r)
    → ReadVarlenSlice Claim
read_varlen_slice Claim law κs a r e told = law (first a).now (second a) (third a) r told

pub write_varlen_slice : (Claim : List ℕ → Range → List ℕ → ℕ → Result ℕ Refusal → List ℕ → Type 0)
    → ((bytes : List ℕ) (slice : Range) (out : List ℕ) (at : ℕ) (r : Result ℕ Refusal) (end : List ℕ)
    → write_left r end ≡ write (payload_bytes bytes slice.start slice.length) out at → Claim bytes slice out at r end)
    → WriteVarlenSlice Claim
write_varlen_slice Claim law κs a r e told = law (first a).now (second a) (third a).now (fourth a) r (third e).now told

pub read_meta_lem : (Claim : List ℕ → ℕ → Rules → Result MetaAt Refusal → Type 0)
    → ((raw : List ℕ) (at : ℕ) (rules : Rules) (r : Result MetaAt Refusal) → meta_read r ≡ meta_at (rules_of rules) raw at → Claim raw at rules r)
    → MetaMessageRead Claim
read_meta_lem Claim law κs a r e told = law (first a).now (second a) (third a) r told

pub read_event_lem : (Claim : List ℕ → ℕ → Running → Rules → Result EventAt EventRefused → Type 0)
    → ((raw : List ℕ) (at : ℕ) (running : Running) (rules : Rules) (r : Result EventAt EventRefused)
    → event_read r ≡ event_at (rules_of rules) running.status raw at → Claim raw at running rules r)
    → TrackEventRead Claim
read_event_lem Claim law κs a r e told = law (first a).now (second a) (third a) (fourth a) r told

pub read_list_lem : (Claim : List ℕ → ℕ → Running → Rules → ReadList → Type 0)
    → ((raw : List ℕ) (at : ℕ) (running : Running) (rules : Rules) (r : ReadList)
    → list_read_of r ≡ held_as capacity (list_at (rules_of rules) capacity running.status raw at) → Claim raw at running rules r)
    → EventListRead Claim
read_list_lem Claim law κs a r e told = law (first a).now (second a) (third a) (fourth a) r told

pub write_event_lem : (Claim : TrackEvent → Running → Rules → List ℕ → List ℕ → ℕ → Result Past WriteRefused → List ℕ → Type 0)
    → ((event : TrackEvent) (running : Running) (rules : Rules) (bytes out : List ℕ) (at : ℕ) (r : Result Past WriteRefused) (end : List ℕ)
    → wrote_event r end ≡ write_event running.status (legal (rules_of rules) bytes (event_of event)) out at
    → Claim event running rules bytes out at r end)
    → WriteEvent Claim
write_event_lem Claim law κs a r e told =
    law (first a) (second a) (third a) (fourth a).now (fifth a).now (sixth a) r (fifth e).now told

pub write_row : (Claim : List ℕ → Running → Rules → List ℕ → List ℕ → ℕ → Result Past WriteRefused → List ℕ → Type 0)
    → ((row : List ℕ) (running : Running) (rules : Rules) (bytes out : List ℕ) (at : ℕ) (r : Result Past WriteRefused) (end : List ℕ)
    → wrote_event r end ≡ write_event running.status (row_judged (rules_of rules) bytes row) out at
    → Claim row running rules bytes out at r end)
    → WriteRow Claim
write_row Claim law κs a r e told =
    law (first a) (second a) (third a) (fourth a).now (fifth a).now (sixth a) r (fifth e).now told

pub list_length : (Claim : EventList → Running → Rules → List ℕ → Result Size ListRefused → Type 0)
    → ((list : EventList) (running : Running) (rules : Rules) (bytes : List ℕ) (r : Result Size ListRefused)
    → size_said r ≡ size_list capacity running.status (records_judged (rules_of rules) bytes (map record_of list.records)) list.count
    → Claim list running rules bytes r)
    → ListLength Claim
list_length Claim law κs a r e told = law (first a) (second a) (third a) (fourth a).now r told

pub write_list_lem : (Claim : EventList → Running → Rules → List ℕ → List ℕ → Result Size ListRefused → List ℕ → Type 0)
    → ((list : EventList) (running : Running) (rules : Rules) (bytes out : List ℕ) (r : Result Size ListRefused) (end : List ℕ)
    → wrote_list r end ≡ write_list capacity running.status (records_judged (rules_of rules) bytes (map record_of list.records)) list.count out
    → Claim list running rules bytes out r end)
    → WriteList Claim
write_list_lem Claim law κs a r e told =
    law (first a) (second a) (third a) (fourth a).now (fifth a).now r (fifth e).now told

pub rows_length : (Claim : List ℕ → ℕ → Running → Rules → List ℕ → Result Size ListRefused → Type 0)
    → ((rows : List ℕ) (count : ℕ) (running : Running) (rules : Rules) (bytes : List ℕ) (r : Result Size ListRefused)
    → size_said r ≡ size_list capacity running.status (rows_judged (rules_of rules) bytes count rows) count
    → Claim rows count running rules bytes r)
    → RowsLength Claim
rows_length Claim law κs a r e told = law (first a).now (second a) (third a) (fourth a) (fifth a).now r told

pub write_rows : (Claim : List ℕ → ℕ → Running → Rules → List ℕ → List ℕ → Result Size ListRefused → List ℕ → Type 0)
    → ((rows : List ℕ) (count : ℕ) (running : Running) (rules : Rules) (bytes out : List ℕ) (r : Result Size ListRefused) (end : List ℕ)
    → wrote_list r end ≡ write_list capacity running.status (rows_judged (rules_of rules) bytes count rows) count out
    → Claim rows count running rules bytes out r end)
    → WriteRows Claim
write_rows Claim law κs a r e told =
    law (first a).now (second a) (third a) (fourth a) (fifth a).now (sixth a).now r (sixth e).now told

pub after : (Claim : Table → EventList → Table → ℕ → Type 0)
    → ((table : Table) (list : EventList) (left : Table) (number : ℕ)
    → with_number left number ≡ table_beside table (accepted capacity (map record_of list.records) list.count) → Claim table list left number)
    → After Claim
after Claim law κs a r e told = law (first a) (second a) (table_said r).value (table_said r).number told

pub silence : (Claim : Table → u4 → u7 → EventList → ℕ → Type 0)
    → ((table : Table) (channel : u4) (key : u7) (list : EventList) (number : ℕ)
    → with_number (held_of list) number ≡ list_beside capacity (player.silence capacity table channel.0 key.0) → Claim table channel key list number)
    → Silence Claim
silence Claim law κs a r e told = law (first a) (second a) (third a) (list_handed r) (list_said r).number (handed_list r ∙ told)

pub write_slice : (Claim : List ℕ → Range → List ℕ → ℕ → Result ℕ Refusal → List ℕ → Type 0)
    → ((bytes : List ℕ) (slice : Range) (out : List ℕ) (at : ℕ) (r : Result ℕ Refusal) (end : List ℕ)
    → write_left r end ≡ write (part bytes (record { start = slice.start; length = slice.length })) out at → Claim bytes slice out at r end)
    → WriteSlice Claim
write_slice Claim law κs a r e told = law (first a).now (second a) (third a).now (fourth a) r (third e).now told

pub read_bank_lem : (Claim : List ℕ → ReadBank → Type 0)
    → ((block : List ℕ) (r : ReadBank) → bank_shown r ≡ bank_answer most_tracks (read_bank most_tracks block) → Claim block r)
    → BankRead Claim
read_bank_lem Claim law κs a r e told = law (first a).now (bank_handed r) (handed_bank r ∙ told)

pub bank_track_lem : (Claim : List ℕ → ℕ → Result Range Refusal → Type 0)
    → ((block : List ℕ) (index : ℕ) (r : Result Range Refusal) → bank_track r ≡ track_at most_tracks block index → Claim block index r)
    → BankTrack Claim
bank_track_lem Claim law κs a r e told = law (first a).now (second a) r told

pub list_track : (Claim : List ℕ → ℕ → Rules → ListedTrack → Type 0)
    → ((block : List ℕ) (index : ℕ) (rules : Rules) (r : ListedTrack)
    → track_shown r ≡ list_answer capacity (track_listed (rules_of rules) capacity most_tracks block index) → Claim block index rules r)
    → ListTrack Claim
list_track Claim law κs a r e told = law (first a).now (second a) (third a) (track_handed r) (handed_track r ∙ told)

pub write_bank_lem : (Claim : List ℕ → List Range → ℕ → List ℕ → Result ℕ Refusal → List ℕ → Type 0)
    → ((bytes : List ℕ) (ranges : List Range) (count : ℕ) (out : List ℕ) (r : Result ℕ Refusal) (end : List ℕ)
    → bank_left r end ≡ write_bank most_tracks bytes (spans_of ranges) count out → Claim bytes ranges count out r end)
    → WriteBank Claim
write_bank_lem Claim law κs a r e told = law (first a).now (second a) (third a) (fourth a).now r (fourth e).now told
