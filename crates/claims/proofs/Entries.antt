-- Each promise is an equation for the answer and for each lent value: two that it permits are equal to the same.
use mathlib.Core.Path.{◌≡◌, refl, sym, ap, ◌∙◌}
use mathlib.Core.List.{List}
use Prim.Native.Nat.{ℕ}
use Rattle.smf.specs.Answer as smf
use Rattle.base.specs.Rules.{rules_of}
use Rattle.base.specs.declared.Rules.{Rules}
use Rattle.smf.specs.Event.{Same}
use Rattle.smf.specs.Lists.{SameList}
use Rattle.track.specs.List.{capacity}
use Rattle.rows.specs.RowEvent.{called_row}
use Rattle.rows.specs.RowLists.{called_rows}
use Rattle.same.specs.OfRows.{rows_asked, lists_asked}
use Rattle.rows.proofs.IdenticalLists.{rows_left_identical}
use Rattle.rows.proofs.IdenticalRow.{row_told_injective}
use Rattle.event.proofs.IdenticalRunning.{step_identical}
use Rattle.loader_track.proofs.Identical.{handed_identical}
use Rattle.player.specs.Answers.{Beside}
use Rattle.player.specs.Entries.{CellsLeft}
use Rattle.claims.specs.Calls.{first, second, third, fourth, fifth, sixth, seventh}
use Rattle.claims.proofs.Agree.{joined, agree₂, agree₃, agree₄, agree₅, agree₆}
use Rattle.claims.specs.Entries.{NumberEntries, HeaderEntries, TimeEntries, BendEntries, EventEntries, ListEntries, Sameness, SoundingEntries, BankEntries, Sheets, HandedOver, Entries}

rules_of_injective : {x y : Rules} → rules_of x ≡ rules_of y → x ≡ y
rules_of_injective e = ap (λ (r : smf.Rules). record { strict = r.strict }) e

numbers : NumberEntries
numbers =
    record {
      rules = λ κs a y z d e p q. rules_of_injective (p ∙ sym q);
      number_read = λ κs a y z d e p q. agree₄ p q;
      number_length = λ κs a y z d e p q. p ∙ sym q;
      number_write = λ κs a y z d e p q. agree₃ p q;
      payload_read = λ κs a y z d e p q. agree₄ p q;
      payload_write = λ κs a y z d e p q. agree₃ p q;
    }

headers : HeaderEntries
headers =
    record {
      format_read = λ κs a y z d e p q. agree₂ p q;
      format_encode = λ κs a y z d e p q. agree₂ p q;
      timing_read_lem = λ κs a y z d e p q. agree₄ p q;
      timing_encode = λ κs a y z d e p q. agree₂ p q;
    }

times : TimeEntries
times =
    record {
      fps_from_code = λ κs a y z d e p q. p ∙ sym q;
      fps_as_code = λ κs a y z d e p q. agree₂ p q;
      fps_from_int = λ κs a y z d e p q. agree₂ p q;
      fps_as_f32 = λ κs a y z d e p q. agree₂ p q;
      smpte_new = λ κs a y z d e p q. p ∙ sym q;
      smpte_read = λ κs a y z d e p q. agree₂ p q;
      smpte_encode = λ κs a y z d e p q. agree₂ p q;
      smpte_second_f32 = λ κs a y z d e p q. agree₂ p q;
      smpte_position = λ κs a y z d e p q. agree₂ p q;
    }

bends : BendEntries
bends =
    record {
      bend_min_raw_value = λ κs a y z d e p q. p ∙ sym q;
      bend_mid_raw_value = λ κs a y z d e p q. p ∙ sym q;
      bend_max_raw_value = λ κs a y z d e p q. p ∙ sym q;
      bend_from_int = λ κs a y z d e p q. p ∙ sym q;
      bend_from_f32 = λ κs a y z d e p q. p ∙ sym q;
      bend_from_f64 = λ κs a y z d e p q. p ∙ sym q;
      bend_as_int = λ κs a y z d e p q. agree₂ p q;
      bend_as_f32 = λ κs a y z d e p q. agree₂ p q;
      bend_as_f64 = λ κs a y z d e p q. agree₂ p q;
    }

events : EventEntries
events =
    record {
      event_read_lem = λ κs a y z d e p q. agree₅ p q;
      event_length = λ κs a y z d e p q. agree₃ p q;
      event_write = λ κs a y z d e p q. agree₄ p q;
    }

lists : ListEntries
lists =
    record {
      list_read = λ κs a y z d e p q. agree₆ p q;
      list_length = λ κs a y z d e p q. agree₄ p q;
      list_write = λ κs a y z d e p q. agree₅ p q;
    }

sameness : Sameness
sameness =
    record {
      event_same = λ κs a y z d e p q.
          joined (handed_identical (rows_asked (first a).now (third a).now)
          (Same (second a).now (called_row (first a).now) (fourth a).now (called_row (third a).now))
          y z (fifth a).now (fifth d).now (fifth e).now p q);
      list_same = λ κs a y z d e p q.
          joined (handed_identical (lists_asked capacity (first a).now (second a) (fourth a).now (fifth a))
          (SameList (third a).now (called_rows (second a) (first a).now) (second a) (sixth a).now (called_rows (fifth a) (fourth a).now) (fifth a))
          y z (seventh a).now (seventh d).now (seventh e).now p q);
    }

sounding : SoundingEntries
sounding =
    record {
      sounding_after = λ κs a y z d e p q.
          let same = p ∙ sym q in joined (ap (λ (b : Beside (List ℕ)). b.number) same, ap (λ (b : Beside (List ℕ)). b.value) same);
      sounding_counts = λ κs a y z d e p q. joined (refl, p ∙ sym q);
      sounding_silence = λ κs a y z d e p q.
          let same = p ∙ sym q in
          joined (ap (λ (c : CellsLeft). c.number) same, joined (ap (λ (c : CellsLeft). c.cells) same, ap (λ (c : CellsLeft). c.count) same));
    }

banks : BankEntries
banks =
    record {
      bank_read = λ κs a y z d e p q. agree₃ p q;
      bank_track_lem = λ κs a y z d e p q. agree₃ p q;
      bank_list = λ κs a y z d e p q. agree₆ p q;
      bank_write = λ κs a y z d e p q. agree₃ p q;
    }

sheets : Sheets
sheets =
    record {
      read_row = λ κs a y z d e p q. joined (row_told_injective (p.0 ∙ sym q.0), p.1 ∙ sym q.1);
      read_rows = λ κs a y z d e p q. joined (rows_left_identical (p ∙ sym q));
    }

handed_over : HandedOver
handed_over =
    record {
      read_step = λ κs a y z d e p q. step_identical p q;
    }

pub entries : Entries
entries = record { numbers = numbers; headers = headers; times = times; bends = bends; events = events; lists = lists; sameness = sameness; sounding = sounding; banks = banks; sheets = sheets; handed_over = handed_over }
