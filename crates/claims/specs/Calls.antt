-- What holds of every call that a function's own promise permits. The checker reads the promise from the source: `Reads.Learnt` of a function
-- is what its `ensures` tell of the arguments, of the answer and of the arguments at the end, `Reads.Asked` what its `requires` ask.
-- A claim speaks of a call by the names of its parameters: the order in which they stand is written once for each function, here and, for the
-- exported entries, in `EntryCalls.antt`.
use Rattle.write.specs.declared.answer.WriteRefused.{WriteRefused}
use Rattle.write.specs.declared.answer.Size.{Size}
use Rattle.rows.specs.declared.lists.RowsRead.{RowsRead}
use Rattle.rows.specs.declared.one.RowRead.{RowRead}
use Rattle.base.specs.declared.Refusal.{Refusal}
use Rattle.number.specs.declared.payload.Payload.{Payload}
use Rattle.write.specs.declared.answer.Past.{Past}
use Rattle.number.specs.declared.varlen.NumberAt.{NumberAt}
use Rattle.meta.specs.declared.MetaAt.{MetaAt}
use Rattle.write.specs.declared.answer.ListRefused.{ListRefused}
use Rattle.event.specs.declared.read.EventRefused.{EventRefused}
use Rattle.event.specs.declared.read.EventAt.{EventAt}
use Rattle.std.specs.Prelude.{◌≡◌, List, ℕ, Result}
use Rattle.std.specs.Borrow.{MutBor}
use borrow.Fn.Kinds.{GoodsP}
use Rattle.base.specs.declared.Rules.{Rules}
use Rattle.base.specs.declared.Running.{Running}
use Rattle.base.specs.declared.Range.{Range}
use Rattle.base.specs.declared.u4.{u4}
use Rattle.base.specs.declared.u7.{u7}
use Rattle.number.specs.declared.u28.{u28}
use Rattle.event.specs.declared.TrackEvent.{TrackEvent}
use Rattle.track.specs.declared.list.EventList.{EventList}
use Rattle.track.specs.declared.read.ReadList.{ReadList}
use Rattle.number.proofs.u28.read_u7 as read_u7
use Rattle.number.proofs.u28.write_varlen as write_varlen
use Rattle.number.proofs.payload.read_varlen_slice as read_varlen_slice
use Rattle.number.proofs.payload.write_varlen_slice as write_varlen_slice
use Rattle.number.proofs.payload.write_slice as write_slice
use Rattle.meta.proofs.MetaMessage.read as read_meta_lem
use Rattle.event.proofs.TrackEvent.read as read_event_lem
use Rattle.track.proofs.list.EventList.read as read_list_lem
use Rattle.write.proofs.one.write_event as write_event_lem
use Rattle.write.proofs.one.write_row as write_row
use Rattle.write.proofs.records.list_length as list_length
use Rattle.write.proofs.records.write_list as write_list_lem
use Rattle.write.proofs.row_lists.rows_length as rows_length
use Rattle.write.proofs.row_lists.write_rows as write_rows
use Rattle.rows.proofs.lists.read_rows as read_rows
use Rattle.rows.proofs.one.read_row as read_row
use Rattle.player.specs.Table.{Table}
use Rattle.player.proofs.table.fresh as fresh
use Rattle.player.proofs.table.counts as counts
use Rattle.player.proofs.notes.after as after
use Rattle.player.proofs.silence.silence as silence
use Rattle.player.specs.Answers.{table_said, list_said}
use Rattle.bank.proofs.read.read_bank as read_bank_lem
use Rattle.bank.proofs.read.bank_track as bank_track_lem
use Rattle.bank.proofs.list.list_track as list_track
use Rattle.bank.proofs.writing.write_bank as write_bank_lem
use Rattle.claims.specs.Handed.{ReadBank, ListedTrack, list_handed, bank_handed, track_handed}

-- a call of a function: its arguments, its answer, and the arguments at its end, at any lifetimes of what is lent
module _ {L : Type 0} {A R E : L → Type 0} (Told : (κs : L) → A κs → R κs → E κs → Type 0) where
  -- what is shown of a call
  abbrev pub Shows {ℓ} : Type ℓ → Type ℓ
  Shows X = (κs : L) → A κs → R κs → E κs → X

  -- whatever the promise permits, the claim holds of it
  abbrev pub Always : Shows (Type 0) → Type 0
  Always Claim = (κs : L) (a : A κs) (z : R κs) (e : E κs) → Told κs a z e → Claim κs a z e

  -- some call that the promise permits, and of which something holds
  abbrev pub Some : Shows (Type 0) → Type 0
  Some Holds = (κs : L) × ((a : A κs) × ((z : R κs) × ((e : E κs) × (Told κs a z e × Holds κs a z e))))

  -- any two answers that it permits for the same arguments are identical
  abbrev pub OneAnswer : Type 0
  OneAnswer = (κs : L) (a : A κs) (y z : R κs) (d e : E κs) → Told κs a y d → Told κs a z e → y ≡ z

  -- and so is what is shown: the answer, and what each lent value and buffer holds at the end
  abbrev pub OneOutcome : {X : Type 0} → Shows X → Type 0
  OneOutcome show = (κs : L) (a : A κs) (y z : R κs) (d e : E κs) → Told κs a y d → Told κs a z e → show κs a y d ≡ show κs a z e

-- the arguments of a call, or what they are at its end, by their order in the source
abbrev pub first : {A B : Type 0} → A × B → A
first x = x.0

abbrev pub second : {A B C : Type 0} → A × (B × C) → B
second x = x.1.0

abbrev pub third : {A B C D : Type 0} → A × (B × (C × D)) → C
third x = x.1.1.0

abbrev pub fourth : {A B C D E : Type 0} → A × (B × (C × (D × E))) → D
fourth x = x.1.1.1.0

abbrev pub fifth : {A B C D E F : Type 0} → A × (B × (C × (D × (E × F)))) → E
fifth x = x.1.1.1.1.0

abbrev pub sixth : {A B C D E F G : Type 0} → A × (B × (C × (D × (E × (F × G))))) → F
sixth x = x.1.1.1.1.1.0

abbrev pub seventh : {A B C D E F G H : Type 0} → A × (B × (C × (D × (E × (F × (G × H)))))) → G
seventh x = x.1.1.1.1.1.1.0

abbrev pub eighth : {A B C D E F G H I : Type 0} → A × (B × (C × (D × (E × (F × (G × (H × I))))))) → H
eighth x = x.1.1.1.1.1.1.1.0

abbrev pub ninth : {A B C D E F G H I J : Type 0} → A × (B × (C × (D × (E × (F × (G × (H × (I × J)))))))) → I
ninth x = x.1.1.1.1.1.1.1.1.0

-- what was lent: what it holds when the call begins, and at the end
pub record Lent (A : Type 0) : Type 0 where
  pub before : A
  pub after : A

abbrev pub while_lent : {A : Type 0} → MutBor A → MutBor A → Lent A
while_lent x y = record { before = x.now; after = y.now }

-- what is shown together
infixr 40 ◌&◌
abbrev pub ◌&◌ : {A B : Type 0} → A → B → A × B
a & b = (a, b)

-- What is shown of a call to which a buffer is lent, by names

module _ {ℓ} {X : Type ℓ} where
  -- `self.write_varlen(out, at)`, its answer, and what `out` holds at the end
  abbrev pub write_varlen_call : (u28 → List ℕ → ℕ → Result ℕ Refusal → List ℕ → X) → Shows write_varlen.Reads.Learnt X
  write_varlen_call show κs a r e = show (first a) (second a).now (third a) r (second e).now

  -- `write_varlen_slice(bytes, slice, out, at)`, its answer, and what `out` holds at the end
  abbrev pub write_varlen_slice_call : (List ℕ → Range → List ℕ → ℕ → Result ℕ Refusal → List ℕ → X) → Shows write_varlen_slice.Reads.Learnt X
  write_varlen_slice_call show κs a r e = show (first a).now (second a) (third a).now (fourth a) r (third e).now

  -- `write_slice(bytes, slice, out, at)`, its answer, and what `out` holds at the end
  abbrev pub write_slice_call : (List ℕ → Range → List ℕ → ℕ → Result ℕ Refusal → List ℕ → X) → Shows write_slice.Reads.Learnt X
  write_slice_call show κs a r e = show (first a).now (second a) (third a).now (fourth a) r (third e).now

  -- `read_row(raw, at, running, rules, row)`, its answer, and what `row` holds at the end
  abbrev pub read_row_call : (List ℕ → ℕ → Running → Rules → List ℕ → Result RowRead EventRefused → List ℕ → X) → Shows read_row.Reads.Learnt X
  read_row_call show κs a r e = show (first a).now (second a) (third a) (fourth a) (fifth a).now r (fifth e).now

  -- `read_rows(raw, at, running, rules, cells)`, its answer, and what `cells` holds at the end
  abbrev pub read_rows_call : (List ℕ → ℕ → Running → Rules → List ℕ → Result RowsRead Refusal → List ℕ → X) → Shows read_rows.Reads.Learnt X
  read_rows_call show κs a r e = show (first a).now (second a) (third a) (fourth a) (fifth a).now r (fifth e).now

  -- `write_event(event, running, rules, bytes, out, at)`, its answer, and what `out` holds at the end
  abbrev pub write_event_call : (TrackEvent → Running → Rules → List ℕ → List ℕ → ℕ → Result Past WriteRefused → List ℕ → X) → Shows write_event_lem.Reads.Learnt X
  write_event_call show κs a r e = show (first a) (second a) (third a) (fourth a).now (fifth a).now (sixth a) r (fifth e).now

  -- `write_row(row, running, rules, bytes, out, at)`, its answer, and what `out` holds at the end
  abbrev pub write_row_call : (List ℕ → Running → Rules → List ℕ → List ℕ → ℕ → Result Past WriteRefused → List ℕ → X) → Shows write_row.Reads.Learnt X
  write_row_call show κs a r e = show (first a) (second a) (third a) (fourth a).now (fifth a).now (sixth a) r (fifth e).now

  -- `write_list(list, running, rules, bytes, out)`, its answer, and what `out` holds at the end
  abbrev pub write_list_call : (EventList → Running → Rules → List ℕ → List ℕ → Result Size ListRefused → List ℕ → X) → Shows write_list_lem.Reads.Learnt X
  write_list_call show κs a r e = show (first a) (second a) (third a) (fourth a).now (fifth a).now r (fifth e).now

  -- `write_rows(rows, count, running, rules, bytes, out)`, its answer, and what `out` holds at the end
  abbrev pub write_rows_call : (List ℕ → ℕ → Running → Rules → List ℕ → List ℕ → Result Size ListRefused → List ℕ → X) → Shows write_rows.Reads.Learnt X
  write_rows_call show κs a r e = show (first a).now (second a) (third a) (fourth a) (fifth a).now (sixth a).now r (sixth e).now

  -- `after(table, list)`: its answer, a table, and the number beside it: 0, or that of the refusal which hands the table back
  abbrev pub after_call : (Table → EventList → Table → ℕ → X) → Shows after.Reads.Learnt X
  after_call show κs a r e = show (first a) (second a) (table_said r).value (table_said r).number

  -- `silence(table, channel, key)`: its answer, a list, and the number beside it: 0, or that of the refusal
  abbrev pub silence_call : (Table → u4 → u7 → EventList → ℕ → X) → Shows silence.Reads.Learnt X
  silence_call show κs a r e = show (first a) (second a) (third a) (list_handed r) (list_said r).number

  -- `write_bank(bytes, ranges, count, out)`, its answer, and what `out` holds at the end
  abbrev pub write_bank_call : (List ℕ → List Range → ℕ → List ℕ → Result ℕ Refusal → List ℕ → X) → Shows write_bank_lem.Reads.Learnt X
  write_bank_call show κs a r e = show (first a).now (second a) (third a) (fourth a).now r (fourth e).now

-- Claims of every call

-- `u28::read_u7(raw, at, rules)`, and its answer
abbrev pub ReadU7 : (List ℕ → ℕ → Rules → Result NumberAt Refusal → Type 0) → Type 0
ReadU7 Claim = Always read_u7.Reads.Learnt (λ κs a r e. Claim (first a).now (second a) (third a) r)

abbrev pub WriteVarlen : (u28 → List ℕ → ℕ → Result ℕ Refusal → List ℕ → Type 0) → Type 0
WriteVarlen Claim = Always write_varlen.Reads.Learnt (write_varlen_call Claim)

-- `read_varlen_slice(raw, at, rules)`, and its answer
abbrev pub ReadVarlenSlice : (List ℕ → ℕ → Rules → Result Payload Refusal → Type 0) → Type 0
ReadVarlenSlice Claim = Always read_varlen_slice.Reads.Learnt (λ κs a r e. Claim (first a).now (second a) (third a) r)

abbrev pub WriteVarlenSlice : (List ℕ → Range → List ℕ → ℕ → Result ℕ Refusal → List ℕ → Type 0) → Type 0
WriteVarlenSlice Claim = Always write_varlen_slice.Reads.Learnt (write_varlen_slice_call Claim)

abbrev pub WriteSlice : (List ℕ → Range → List ℕ → ℕ → Result ℕ Refusal → List ℕ → Type 0) → Type 0
WriteSlice Claim = Always write_slice.Reads.Learnt (write_slice_call Claim)

-- `MetaMessage::read(raw, at, rules)`, and its answer
abbrev pub MetaMessageRead : (List ℕ → ℕ → Rules → Result MetaAt Refusal → Type 0) → Type 0
MetaMessageRead Claim = Always read_meta_lem.Reads.Learnt (λ κs a r e. Claim (first a).now (second a) (third a) r)

-- `TrackEvent::read(raw, at, running, rules)`, and its answer
abbrev pub TrackEventRead : (List ℕ → ℕ → Running → Rules → Result EventAt EventRefused → Type 0) → Type 0
TrackEventRead Claim = Always read_event_lem.Reads.Learnt (λ κs a r e. Claim (first a).now (second a) (third a) (fourth a) r)

-- `EventList::read(raw, at, running, rules)`, and its answer
abbrev pub EventListRead : (List ℕ → ℕ → Running → Rules → ReadList → Type 0) → Type 0
EventListRead Claim = Always read_list_lem.Reads.Learnt (λ κs a r e. Claim (first a).now (second a) (third a) (fourth a) r)

abbrev pub WriteEvent : (TrackEvent → Running → Rules → List ℕ → List ℕ → ℕ → Result Past WriteRefused → List ℕ → Type 0) → Type 0
WriteEvent Claim = Always write_event_lem.Reads.Learnt (write_event_call Claim)

abbrev pub WriteRow : (List ℕ → Running → Rules → List ℕ → List ℕ → ℕ → Result Past WriteRefused → List ℕ → Type 0) → Type 0
WriteRow Claim = Always write_row.Reads.Learnt (write_row_call Claim)

-- `list_length(list, running, rules, bytes)`, and its answer
abbrev pub ListLength : (EventList → Running → Rules → List ℕ → Result Size ListRefused → Type 0) → Type 0
ListLength Claim = Always list_length.Reads.Learnt (λ κs a r e. Claim (first a) (second a) (third a) (fourth a).now r)

abbrev pub WriteList : (EventList → Running → Rules → List ℕ → List ℕ → Result Size ListRefused → List ℕ → Type 0) → Type 0
WriteList Claim = Always write_list_lem.Reads.Learnt (write_list_call Claim)

-- `rows_length(rows, count, running, rules, bytes)`, and its answer
abbrev pub RowsLength : (List ℕ → ℕ → Running → Rules → List ℕ → Result Size ListRefused → Type 0) → Type 0
RowsLength Claim = Always rows_length.Reads.Learnt (λ κs a r e. Claim (first a).now (second a) (third a) (fourth a) (fifth a).now r)

abbrev pub WriteRows : (List ℕ → ℕ → Running → Rules → List ℕ → List ℕ → Result Size ListRefused → List ℕ → Type 0) → Type 0
WriteRows Claim = Always write_rows.Reads.Learnt (write_rows_call Claim)

-- `fresh()`: its answer
abbrev pub Fresh : (Table → Type 0) → Type 0
Fresh Claim = Always fresh.Reads.Learnt (λ κs a r e. Claim r)

-- `counts(table)`, and its answer; the table is a value of its type, as that of every call is: an array then has all its elements
abbrev pub CountsOwned : (Table → List ℕ → Type 0) → Type 0
CountsOwned Claim = Always counts.Reads.Learnt (λ κs a r e. GoodsP κs counts.Kinds.ps a → Claim (first a) r)

abbrev pub After : (Table → EventList → Table → ℕ → Type 0) → Type 0
After Claim = Always after.Reads.Learnt (after_call Claim)

abbrev pub Silence : (Table → u4 → u7 → EventList → ℕ → Type 0) → Type 0
Silence Claim = Always silence.Reads.Learnt (silence_call Claim)

-- `read_bank(block)`, and its answer
abbrev pub BankRead : (List ℕ → ReadBank → Type 0) → Type 0
BankRead Claim = Always read_bank_lem.Reads.Learnt (λ κs a r e. Claim (first a).now (bank_handed r))

-- `bank_track(block, index)`, and its answer
abbrev pub BankTrack : (List ℕ → ℕ → Result Range Refusal → Type 0) → Type 0
BankTrack Claim = Always bank_track_lem.Reads.Learnt (λ κs a r e. Claim (first a).now (second a) r)

-- `list_track(block, index, rules)`, and its answer
abbrev pub ListTrack : (List ℕ → ℕ → Rules → ListedTrack → Type 0) → Type 0
ListTrack Claim = Always list_track.Reads.Learnt (λ κs a r e. Claim (first a).now (second a) (third a) (track_handed r))

abbrev pub WriteBank : (List ℕ → List Range → ℕ → List ℕ → Result ℕ Refusal → List ℕ → Type 0) → Type 0
WriteBank Claim = Always write_bank_lem.Reads.Learnt (write_bank_call Claim)

-- the same, of ranges that are a value of their type, as those of every call are: as many as a bank may have tracks
abbrev pub WriteOwnedBank : (List ℕ → List Range → ℕ → List ℕ → Result ℕ Refusal → List ℕ → Type 0) → Type 0
WriteOwnedBank Claim = Always write_bank_lem.Reads.Learnt (λ κs a r e. GoodsP κs write_bank_lem.Kinds.ps a → write_bank_call Claim κs a r e)
