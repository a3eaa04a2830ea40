-- What the short way finds is what is read: the laws of reading one event, put together for a delta of one byte and a channel status.
use mathlib.Core.Path.{◌≡◌, refl, sym, ◌∙◌}
use mathlib.Core.Bool.{true}
use mathlib.Core.List.{List}
use mathlib.Core.Logic.{◌⊎◌, inl, inr, ⊎_elim}
use Prim.Native.Nat.{ℕ, ◌+◌, ◌-◌, ◌*◌, ◌/◌, ◌%◌, ◌≤◌, ◌<◌}
use native.Mathlib.Numerals.{add-one}
use native.Mathlib.Omega.{arith}
use lib.Dec.{eqb}
use lib.ListN.{length, drop, get_or}
use lib.Seq.{drop-cons}
use borrow.Author.Tests.{lt-ltb, le-leb, lt-leb, eqb-true, eqb-false}
use Rattle.smf.specs.Answer.{Rules, gives}
use Rattle.smf.specs.Running.{is_running}
use Rattle.smf.specs.Number.{encode_number, numeral, read_number, number_from}
use Rattle.smf.specs.Wire.{Delta, data_length, read_body}
use Rattle.smf.specs.Kind.{message_one, message_two}
use Rattle.smf.specs.Event.{placed, name_raw, event_at}
use Rattle.smf.specs.Lists.{Reader, full, takes, stops, step_on, next_at}
use Rattle.smf.proofs.Answer.{by_test, by_lt}
use Rattle.smf.proofs.Number.{encode_one}
use Rattle.smf.proofs.Place.{Sited, site_begun, site_next, number_placed_lem}
use Rattle.smf.proofs.Reading.{message_with, one_or_two, data_one, data_two, body_status, body_running, status_channel, running_channel, event_body}
use Rattle.smf.proofs.Steps.{event_within_lem}
use Rattle.rows.specs.Rows.{row, midi_row}
use Rattle.std.specs.Prelude.{Option, None, Some}
use Rattle.rows.specs.Short.{short_event, DataRead, ShortRead, ShortData, ShortAt}
use Rattle.rows.specs.declared.short.Short.{Short}

-- C0..DF, and only these, have one data byte
pub one_byte : (status : ℕ) → status / 32 ≡ 6 → data_length status ≡ 1
unfolding data_length
one_byte status h =
    by_test (eqb (status / 16) 0xC) (λ t. rw t)
    (λ t. by_test (eqb (status / 16) 0xD) (λ u. rw (t, u)) (λ u. absurd (omega (arith, eqb-false (status / 16) 0xC t, eqb-false (status / 16) 0xD u))))

pub two_bytes : (status : ℕ) → (status / 32 ≡ 6 → ⊥) → data_length status ≡ 1 → ⊥
unfolding data_length
two_bytes status h =
    by_test (eqb (status / 16) 0xC) (λ t e. h (omega (arith, eqb-true (status / 16) 0xC t)))
    (λ t. by_test (eqb (status / 16) 0xD) (λ u e. h (omega (arith, eqb-true (status / 16) 0xD u))) (λ u e. let z : 2 ≡ 1 = rw (t, u) at e in omega (arith, z)))

module _ (s : List ℕ) (at place status : ℕ) (fits : place + 2 ≤ length s) (a : get_or s place 0 < 0x80) where
  enough : data_length status ≤ length s - place
  enough = ⊎_elim (λ n. omega arith) (λ n. omega arith) (one_or_two status)

  pub found_one : status / 32 ≡ 6 → DataRead s at place status (place + 1 - at) status (get_or s place 0) 0
  found_one h =
      record {
        same = refl;
        single = λ n. refl;
        read = λ rules delta site. data_one rules s at place status delta site 0 enough (one_byte status h) a;
      }

  pub found_two : (status / 32 ≡ 6 → ⊥) → get_or s (place + 1) 0 < 0x80 → DataRead s at place status (place + 2 - at) status (get_or s place 0) (get_or s (place + 1) 0)
  found_two h b =
      record {
        same = refl;
        single = λ n. absurd (h n);
        read = λ rules delta site. data_two rules s at place status delta site enough (two_bytes status h) a b;
      }

module _ (s : List ℕ) (at running : ℕ) (valid : is_running running ≡ true) (fits : at + 4 ≤ length s) (small : get_or s at 0 < 0x80) where
  -- a delta of one byte
  delta_read_lem : (rules : Rules) → read_number rules (drop at s) ≡ gives (numeral (get_or s at 0) (drop (at + 1) s))
  unfolding read_number number_from
  delta_read_lem rules =
      let own : 0 * 128 + get_or s at 0 % 128 ≡ get_or s at 0 = omega arith in
      rw (drop-cons s at 0 (omega arith), lt-ltb (get_or s at 0) 128 small, own, add-one at)

  -- it has no padding
  abbrev delta : Delta
  delta = record { value = get_or s at 0; padding = 0 }

  body : (rules : Rules) → (placed s at (name_raw rules (read_body rules running delta (drop (at + 1) s))) ≡ event_at rules running s at) × Sited s at (at + 1)
  body rules =
      let b = event_body rules running s at valid (number_placed_lem rules s at (delta_read_lem rules) (site_next s at at (omega arith) (site_begun s at))) in
      let none : at + 1 - at - length (encode_number (get_or s at 0)) ≡ 0 = omega (arith, encode_one (get_or s at 0) small) in
      (rw none at b.0, b.1)

  module _ {used st a b : ℕ} where
    -- with a status byte of its own
    pub short_own : 0x80 ≤ get_or s (at + 1) 0 → get_or s (at + 1) 0 < 0xF0 → DataRead s at (at + 2) (get_or s (at + 1) 0) used st a b → ShortRead s at running used st a b
    short_own h g d =
        let two : at + 1 + 1 ≡ at + 2 = omega arith in
        record {
          there = omega arith;
          channel = (omega (arith, d.same), omega (arith, d.same));
          single = d.single;
          read = λ rules.
              let site : Sited s at (at + 2) = rw two at (site_next s at (at + 1) (omega arith) (body rules).1) in
              d.read rules delta site
              ∙ rw (d.same, ← two, ← status_channel rules running delta (get_or s (at + 1) 0) (drop (at + 1 + 1) s) g, ← body_status rules running delta s (at + 1) (omega arith) h) (body rules).0;
        }

    -- under the running status
    pub short_under : get_or s (at + 1) 0 < 0x80 → (running ≡ 0 → ⊥) → DataRead s at (at + 1) running used st a b → ShortRead s at running used st a b
    short_under h z d =
        let bounds = running_channel running valid z in
        record {
          there = omega arith;
          channel = (omega (arith, d.same, bounds.0), omega (arith, d.same, bounds.1));
          single = d.single;
          read = λ rules.
              d.read rules delta (body rules).1 ∙ rw (d.same, ← body_running rules running delta s (at + 1) (omega arith) h z) (body rules).0;
        }

  -- and what the data says is said of the event
  pub own_found : 0x80 ≤ get_or s (at + 1) 0 → get_or s (at + 1) 0 < 0xF0 → (r : Option Short) → ShortData s at (at + 2) (get_or s (at + 1) 0) r → ShortAt s at running r
  own_found h g None d = d
  own_found h g (Some x) d = short_own h g d

  pub under_found : get_or s (at + 1) 0 < 0x80 → (running ≡ 0 → ⊥) → (r : Option Short) → ShortData s at (at + 1) running r → ShortAt s at running r
  under_found h z None d = d
  under_found h z (Some x) d = short_under h z d

-- Its row

module _ (channel status a b : ℕ) where
  abbrev cells : List ℕ
  cells = midi_row channel (message_with status a b)

  pub row_bend : status / 16 ≡ 14 → cells ≡ row (status / 16) channel (a + 128 * b) 0 0 0 0
  unfolding message_with message_two data_length
  row_bend h = rw h

  one_data : (status / 16 ≡ 12) ⊎ (status / 16 ≡ 13) → b ≡ 0 → cells ≡ row (status / 16) channel a b 0 0 0
  unfolding message_with message_one message_two data_length
  one_data is z = rw z (⊎_elim (λ e. rw e) (λ e. rw e) is)

  two_data : ((status / 16 ≡ 8) ⊎ (status / 16 ≡ 9)) ⊎ ((status / 16 ≡ 10) ⊎ (status / 16 ≡ 11)) → cells ≡ row (status / 16) channel a b 0 0 0
  unfolding message_with message_two data_length
  two_data is = ⊎_elim (⊎_elim (λ e. rw e) (λ e. rw e)) (⊎_elim (λ e. rw e) (λ e. rw e)) is

  pub row_data : 0x80 ≤ status → status < 0xF0 → (status / 16 ≡ 14 → ⊥) → (status / 32 ≡ 6 → b ≡ 0) → cells ≡ row (status / 16) channel a b 0 0 0
  row_data low high bend single =
      let n = status / 16 in
      by_lt n 9 (λ lt. two_data (inl (inl (omega arith))))
      (λ g. by_lt n 10 (λ lt. two_data (inl (inr (omega arith))))
      (λ h. by_lt n 11 (λ lt. two_data (inr (inl (omega arith))))
      (λ i. by_lt n 12 (λ lt. two_data (inr (inr (omega arith))))
      (λ j. by_lt n 13 (λ lt. one_data (inl (omega arith)) (single (omega arith)))
      (λ k. by_lt n 14 (λ lt. one_data (inr (omega arith)) (single (omega arith)))
      (λ l. absurd (bend (omega arith))))))))

-- As a step of a list

module _ (rules : Rules) (cap : ℕ) {s : List ℕ} {place running used status a b : ℕ} (found : ShortRead s place running used status a b) (count : ℕ) where
  abbrev here : Reader
  here = record { place = place; running = running; count = count }

  pub short_within : place + used ≤ length s
  short_within = event_within_lem rules running s place (sym (found.read rules))

  pub short_full : cap ≤ count → next_at rules cap s here ≡ stops full
  unfolding next_at
  short_full h = rw (lt-leb (length s) place found.there, le-leb cap count h)

  pub short_next : count < cap → next_at rules cap s here ≡ takes (short_event (get_or s place 0) status a b) 0 (record { place = place + used; running = status; count = count + 1 })
  unfolding next_at step_on
  short_next h = rw (lt-leb (length s) place found.there, lt-leb cap count h, ← found.read rules)
