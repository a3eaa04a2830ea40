-- Notes still sounding, proved of whatever the promises permit: what they say is the definitions', of which it holds.
use mathlib.Core.Path.{◌≡◌, refl, sym, ap, ◌∙◌}
use mathlib.Core.Bool.{true}
use mathlib.Core.List.{List, [], ◌∷◌, ◌++◌, map, sum}
use Prim.Native.Nat.{ℕ, zero, suc, ◌+◌, ◌-◌, ◌/◌, ◌%◌, ◌≤◌, ◌<◌}
use native.Mathlib.Omega.{arith}
use borrow.Author.Tests.{eqb-true}
use lib.Dec.{eqb}
use lib.ListN.{length, take, drop, get_or, replicate, length-append, length-map}
use lib.Seq.{take-append_seam, get_or-append_seam}
use Rattle.smf.specs.Answer.{Answer, gives, refuses, Rules}
use Rattle.smf.specs.Place.{Span, bytes_of}
use Rattle.smf.specs.Kind.{midi, note_off}
use Rattle.smf.specs.Event as smf
use Rattle.smf.specs.Event.{Event, map_event}
use Rattle.smf.specs.Lists.{event_from, read_list, list_at, Held, filler, holding, ListHeld, held_as, records_judged, listed}
use Rattle.smf.proofs.Lists.{list_read}
use Rattle.smf.proofs.Answer.{by_test, by_answer}
use Rattle.base.specs.Rules.{rules_of}
use Rattle.track.specs.List.{capacity, record_of, held_of}
use Rattle.track.specs.Read.{list_read_of}
use Rattle.track.specs.declared.list.EventList.{EventList}
use Rattle.track.specs.declared.read.ReadList.{ReadList}
use Rattle.rows.specs.RowLists.{called_rows}
use Rattle.player.specs.Table.{channels, keys, Table, entry, numbers_from, fresh, places, key_place}
use Rattle.player.specs.Notes.{table_after}
use Rattle.player.specs.Widths.{all_within, accepted}
use Rattle.player.specs.Sounding.{counts, sounding_of, sounding_from, note_off_at, silence_from, silence}
use Rattle.player.specs.Answers.{with_number, table_beside, list_beside, table_said, list_said}
use Rattle.player.specs.Entries.{table_in, cells_left, silence_left}
use Rattle.player.proofs.Tables.{Shaped, entry_of}
use Rattle.player.proofs.Joined as player
use Rattle.player.proofs.WidthsLegal.{all_legal_within, read_within}
use Rattle.player.proofs.Silencing.{silenced, placed, placed_at, silence_length, silence_fits, silence_within, at, silence_fresh}
use Rattle.player.proofs.Silencing as silencing
use Rattle.player.proofs.TableBytes.{shaped_in}
use Rattle.player.proofs.Steps.{all_joined}
use Rattle.player.proofs.Sums.{none_left, in_turn, counts_sum}
use Rattle.claims.specs.Calls.{first, second, third, fourth, fifth}
use Rattle.claims.specs.Sounding.{events_in, Joins, Legal, off, Silenced, Names, next_channel, next_key, InTurn, over, none, more, ListGiven, RowsGiven, Sounding}
use Rattle.claims.specs.Handed.{list_handed}
use Rattle.claims.proofs.Handed.{handed_list}
use Rattle.claims.proofs.Owned.{full_table}
use Rattle.claims.proofs.Player.{accepted_by, silence_by, given_beside, refused_beside, never_nought, accepts, accepts_only, accepts_few, accepts_within, rows_accepts_few, rows_accepts_within, asks, asks_only}
use Rattle.claims.proofs.LastNotes.{leaves_last}
use Rattle.claims.proofs.Names.{names}
use Rattle.claims.proofs.Silences.{silenced_by}
use Rattle.claims.proofs.SoundingRows.{rows_exactly, rows_refused, rows_leave, rows_twice, handed, handed_out, handed_none, handed_called, handed_names, handed_silences, handed_fresh}

-- A list that is held

take_map : {A B : Type 0} (f : A → B) (n : ℕ) (xs : List A) → take n (map f xs) ≡ map f (take n xs)
take_map f zero xs = refl
take_map f (suc n) [] = refl
take_map f (suc n) (x ∷ xs) = ap (λ (l : List _). f x ∷ l) (take_map f n xs)

module _ (list : EventList) (es : List (Event Span)) (held : held_of list ≡ holding capacity es) where
  held_count : list.count ≡ length es
  unfolding holding
  held_count = ap (λ (h : Held). h.count) held

  held_records : map record_of list.records ≡ es ++ replicate (capacity - length es) filler
  unfolding holding
  held_records = ap (λ (h : Held). h.records) held

  held_events : events_in list ≡ es
  held_events = rw (held_count, held_records) (take-append_seam es (replicate (capacity - length es) filler))

  held_legal : (rules : Rules) (bytes : List ℕ) → length es ≤ capacity → records_judged rules bytes es ≡ map gives (map (map_event (bytes_of bytes)) es) → Legal rules bytes list
  held_legal rules bytes few legal = (rw held_count few, rw (take_map (smf.legal rules bytes), held_events) legal)

-- The list that `silence` gave

module _ (table : Table) (channel key : ℕ) (list : EventList) (number : ℕ) (told : with_number (held_of list) number ≡ list_beside capacity (silence capacity table channel key)) where
  abbrev asked : Answer (List (Event Span))
  asked = silence capacity table channel key

  gave_all : (es : List (Event Span)) → asked ≡ gives es → held_of list ≡ holding capacity (silence_from capacity table (key_place channel key))
  gave_all es e =
      (given_beside (holding capacity []) asked (holding capacity) told es e).1 ∙ ap (holding capacity) (sym (asks_only capacity table channel key es e).2)

  -- so many as a list holds, or after a refusal none
  gave : (most : ℕ) × (most ≤ capacity) × (held_of list ≡ holding capacity (silence_from most table (key_place channel key)))
  unfolding silence_from
  gave =
      by_answer asked
      (λ es e. (capacity, omega arith, gave_all es e))
      (λ n e. (0, omega arith, (refused_beside (holding capacity []) asked (holding capacity) told n e).1))

  gave_legal : (rules : Rules) (bytes : List ℕ) → Legal rules bytes list
  gave_legal rules bytes =
      let place = key_place channel key in
      let most = gave.0 in
      held_legal list (silence_from most table place) gave.2 rules bytes (omega (arith, silence_fits most table place, gave.1))
      (silencing.silence_legal rules bytes most table place)

  gave_only : number ≡ 0 → (channel < channels) × (key < keys) × (held_of list ≡ holding capacity (silence_from capacity table (key_place channel key)))
  gave_only z =
      by_answer asked
      (λ es e. let a = asks_only capacity table channel key es e in (a.0, a.1, gave_all es e))
      (λ n e. absurd (never_nought (18 ∷ []) asked n (silence_by capacity table channel key) e (sym (refused_beside (holding capacity []) asked (holding capacity) told n e).0 ∙ z)))

  gave_names : number ≡ 0 → Names table channel key (events_in list)
  gave_names z =
      let g = gave_only z in
      rw (held_events list (silence_from capacity table (key_place channel key)) g.2) (names table channel key g.0 g.1)

-- The table that `after` left

-- what `after` promises
abbrev AfterTold : Table → EventList → Table → ℕ → Type 0
AfterTold table list left number = with_number left number ≡ table_beside table (accepted capacity (map record_of list.records) list.count)

module _ (table : Table) (list : EventList) (left : Table) (number : ℕ) (told : AfterTold table list left number) where
  abbrev records : List (Event Span)
  records = map record_of list.records

  took : list.count ≤ capacity → all_within (events_in list) ≡ true → (number ≡ 0) × (left ≡ table_after table (events_in list))
  took few fit = given_beside table (accepted capacity records list.count) (table_after table) told (events_in list) (accepts capacity records list.count few fit)

  took_only : number ≡ 0 → (list.count ≤ capacity) × (all_within (events_in list) ≡ true) × (left ≡ table_after table (events_in list))
  took_only z =
      by_answer (accepted capacity records list.count)
      (λ es e.
      let a = accepts_only capacity records list.count es e in
      (a.0, rw a.2 a.1, (given_beside table (accepted capacity records list.count) (table_after table) told es e).1 ∙ ap (table_after table) (sym a.2)))
      (λ n e.
      absurd (never_nought (18 ∷ 21 ∷ []) (accepted capacity records list.count) n (accepted_by capacity records list.count) e
      (sym (refused_beside table (accepted capacity records list.count) (table_after table) told n e).0 ∙ z)))

  refused_by : (n : ℕ) → accepted capacity records list.count ≡ refuses n → number ≡ n
  refused_by n e = (refused_beside table (accepted capacity records list.count) (table_after table) told n e).0

-- Lists in turn

named_at : (ps : List ℕ) (j : ℕ) → j < length ps → get_or (map note_off_at ps) j filler ≡ note_off_at (get_or ps j 0)
named_at [] j h = absurd (omega arith)
named_at (p ∷ ps) zero h = refl
named_at (p ∷ ps) (suc j) h = named_at ps j (omega arith)

-- the place of the key behind one is the place behind its own
next_place : (q c k : ℕ) → q / keys ≡ c → q % keys ≡ k → key_place (next_channel c k) (next_key k) ≡ suc q
next_place q c k channel key =
    by_test (eqb (k + 1) keys) (λ t. let last = eqb-true (k + 1) keys t in rw t (omega arith)) (λ t. rw t (omega arith))

nothing_behind : (t : Table) → length (sounding_from t places) ≡ 0
unfolding sounding_from sounding_of numbers_from
nothing_behind t = refl

module _ (t : Table) (Given : ℕ → ℕ → List (Event Span) → Type 0)
    (own : (channel key : ℕ) (es : List (Event Span)) → Given channel key es → es ≡ silence_from capacity t (key_place channel key)) where
  -- the last event of a list names the last of its places
  last_named : (place : ℕ) (es : List (Event Span)) (c k : ℕ) → es ++ (off c k ∷ []) ≡ silence_from capacity t place → length (silenced capacity t place) ≡ suc (length es)
      → note_off_at (get_or (silenced capacity t place) (length es) 0) ≡ off c k
  unfolding silence_from
  last_named place es c k all long =
      sym (named_at (silenced capacity t place) (length es) (omega arith))
      ∙ ap (λ (l : List (Event Span)). get_or l (length es) filler) (sym all)
      ∙ get_or-append_seam es (off c k) [] filler

  -- in all they have as many events as places sound from there on
  in_all : {channel key many : ℕ} → key_place channel key ≤ places → InTurn Given channel key many → many ≡ length (sounding_from t (key_place channel key))
  in_all h over = sym (nothing_behind t)
  in_all {channel} {key} h (none g) =
      let place = key_place channel key in
      sym (none_left capacity t place (omega arith) (sym (silence_length capacity t place) ∙ sym (ap length (own channel key [] g))))
  in_all {channel} {key} h (more es c k g rest) =
      let place = key_place channel key in
      let all = own channel key (es ++ (off c k ∷ [])) g in
      let long : length (silenced capacity t place) ≡ suc (length es) = omega (arith, silence_length capacity t place, simp length-append at (ap length all)) in
      let q = get_or (silenced capacity t place) (length es) 0 in
      let kinds : midi (q / keys) (note_off (q % keys) 0) ≡ midi c (note_off k 0) = ap (λ (x : Event Span). x.kind) (last_named place es c k all long) in
      let next = next_place q c k (cc) (cc) in
      let there : q < places = placed_at (silenced capacity t place) (length es) (placed capacity t place) (omega (arith, long)) in
      let behind = in_all (omega (arith, next, there)) rest in
      let split = in_turn capacity t place (length es) h long in
      omega (arith, split, behind, ap (λ (p : ℕ). length (sounding_from t p)) next)

-- Laws over plain values, whose premises are the promises' own equations

module _ (table : Table) (a : EventList) (left : Table) (n : ℕ) (told : AfterTold table a left n) (z : n ≡ 0) (b : EventList) (left' : Table) (n' : ℕ) (told' : AfterTold left b left' n') (z' : n' ≡ 0) where
  -- two lists that were accepted in turn, and a list that joins them
  after_twice : (c : EventList) (left'' : Table) (n'' : ℕ) → AfterTold table c left'' n'' → Joins a b c → (n'' ≡ 0) × (left'' ≡ left')
  after_twice c left'' n'' told'' join =
      let one = took_only table a left n told z in
      let two = took_only left b left' n' told' z' in
      let both = took table c left'' n'' told'' join.0 (rw join.1 (all_joined (events_in a) (events_in b) ∙ rw (one.1, two.1))) in (
        both.0,
        both.1
            ∙ ap (table_after table) join.1
            ∙ sym (player.joined table (events_in a) (events_in b))
            ∙ ap (λ (t : Table). table_after t (events_in b)) (sym one.2)
            ∙ sym two.2,
      )

module _ (table : Table) (channel key : ℕ) (list : EventList) (number : ℕ) (told : with_number (held_of list) number ≡ list_beside capacity (silence capacity table channel key))
    (left : Table) (n : ℕ) (told' : AfterTold table list left n) where
  gave_silences : (n ≡ 0) × Silenced table (events_in list) left
  gave_silences =
      let g = gave table channel key list number told in
      let place = key_place channel key in
      let es = silence_from g.0 table place in
      let events = held_events list es g.2 in
      let many = held_count list es g.2 in
      let t = took table list left n told' (omega (arith, many, silence_fits g.0 table place, g.1)) (rw events (silence_within g.0 table place)) in
      (t.0, rw (t.1, events) (silenced_by g.0 table place))

  gave_fresh : Shaped table → channel ≡ 0 → key ≡ 0 → sum ◌+◌ 0 (counts table) ≤ capacity → left ≡ fresh
  gave_fresh whole c k few =
      let all = silence_from capacity table 0 in
      let held : held_of list ≡ holding capacity all = gave_all table 0 0 list number (rw (c, k) at told) all (asks capacity table 0 0 (omega arith) (omega arith)) in
      let events = held_events list all held in
      let many = held_count list all held in
      let t = took table list left n told' (omega (arith, many, silence_fits capacity table 0)) (rw events (silence_within capacity table 0)) in
      t.1 ∙ ap (table_after table) events ∙ silence_fresh capacity table (rw (counts_sum whole) at few)

-- a list as it was read
module _ (rules : Rules) (running : ℕ) (raw : List ℕ) (at : ℕ) (r : ReadList) (told : list_read_of r ≡ held_as capacity (list_at rules capacity running raw at)) where
  read_took : (table left : Table) (number : ℕ) → AfterTold table r.list left number → number ≡ 0
  unfolding list_at
  read_took table left number told' =
      let l = read_list rules capacity running (drop at raw) in
      let es = map (event_from raw at) l.events in
      let own = list_read rules capacity running (drop at raw) in
      let held : held_of r.list ≡ holding capacity es = ap (λ (h : ListHeld). h.list) told in
      let long : r.list.count ≡ length l.events = held_count r.list es held ∙ length-map l.events (event_from raw at) in
      (took table r.list left number told' (omega (arith, long, own.count))
      (rw (held_events r.list es held) (read_within rules raw at l.events own.legal))).0

-- what calls gave from a channel and key on
list_given_lem : (table table' : Table) (channel channel' key key' : ℕ) (list : EventList) (number : ℕ) (es : List (Event Span))
    → with_number (held_of list) number ≡ list_beside capacity (silence capacity table' channel' key')
    → (table' ≡ table) × (channel' ≡ channel) × (key' ≡ key) × (number ≡ 0) × (events_in list ≡ es) → es ≡ silence_from capacity table (key_place channel key)
list_given_lem table table' channel channel' key key' list number es told same =
    let held = (gave_only table channel key list number (rw (same.0, same.1, same.2) at told) same.3).2 in
    sym same.4 ∙ held_events list (silence_from capacity table (key_place channel key)) held

given_list : (table : Table) (channel key : ℕ) (es : List (Event Span)) → ListGiven table channel key es → es ≡ silence_from capacity table (key_place channel key)
given_list table channel key es g =
    let a = g.1.0 in
    let r = g.1.1.0 in
    let call = g.1.1.1 in
    list_given_lem table (first a) channel (second a).0 key (third a).0 (list_handed r) (list_said r).number es (handed_list r ∙ call.1.0) call.1.1

rows_given : (table table' : List ℕ) (channel channel' key key' : ℕ) (cells : List ℕ) (cells' : List ℕ) (count' r : ℕ) (es : List (Event Span))
    → cells_left cells' count' r ≡ silence_left (silence capacity (table_in table') channel' key') cells
    → (table' ≡ table) × (channel' ≡ channel) × (key' ≡ key) × (r ≡ 0) × (called_rows count' cells' ≡ es) → es ≡ silence_from capacity (table_in table) (key_place channel key)
rows_given table table' channel channel' key key' cells cells' count' r es told same =
    let h = handed (table_in table) channel key cells cells' count' r (rw (same.0, same.1, same.2) at told) same.3 in
    sym same.4 ∙ handed_called (table_in table) channel key cells' count' h

given_rows : (table : List ℕ) (channel key : ℕ) (es : List (Event Span)) → RowsGiven table channel key es → es ≡ silence_from capacity (table_in table) (key_place channel key)
given_rows table channel key es g =
    let a = g.1.0 in
    let call = g.1.1.1 in
    rows_given table (first a).now channel (second a) key (third a) (fourth a).now (fourth call.0).now (fifth call.0).now g.1.1.0 es
    call.1.0 call.1.1

fresh_entry : (channel key : ℕ) → channel < channels → key < keys → entry fresh channel key ≡ 0
unfolding fresh
fresh_entry channel key hc hk = entry_of (λ c k. 0) channel key hc hk

pub sounding : Sounding
sounding =
    record {
      accepts = λ κs a r e told.
          let list = second a in
          let took-all = took (first a) list (table_said r).value (table_said r).number told in
          let only = took_only (first a) list (table_said r).value (table_said r).number told in
          ((λ z. ((only z).0, (only z).1)), (λ h. (took-all h.0 h.1).0));
      many = λ κs a r e told h.
          let list = second a in
          refused_by (first a) list (table_said r).value (table_said r).number told 21 (accepts_few capacity (map record_of list.records) list.count h);
      wide = λ κs a r e told h w.
          let list = second a in
          refused_by (first a) list (table_said r).value (table_said r).number told 18 (accepts_within capacity (map record_of list.records) list.count h w);
      entry_many = λ κs a r e told h.
          rows_refused (third a).now (first a).now (second a) (third e).now r told 21 (rows_accepts_few capacity (first a).now (second a) h);
      entry_wide = λ κs a r e told h w.
          rows_refused (third a).now (first a).now (second a) (third e).now r told 18 (rows_accepts_within capacity (first a).now (second a) h w);
      entry_accepts = λ κs a r e told. rows_exactly (third a).now (first a).now (second a) (third e).now r told;
      fresh = λ κs a r e told. rw told fresh_entry;
      entry_asks = λ κs a r e told. handed_out (table_in (first a).now) (second a) (third a) (fourth a).now (fourth e).now (fifth e).now r told;
      entry_unasked = λ κs a r e told. handed_none (table_in (first a).now) (second a) (third a) (fourth a).now (fourth e).now (fifth e).now r told;
      leaves = λ κs a r e told z.
          let list = second a in
          rw (took_only (first a) list (table_said r).value (table_said r).number told z).2 (leaves_last (first a) (events_in list));
      entry_leaves = λ κs a r e told z. rows_leave (third a).now (first a).now (second a) (third e).now r told z;
      joined = player.joined;
      after_joined = λ κs a r e told z κs' a' r' e' told' same z' κs'' a'' r'' e'' told'' same' join.
          after_twice (first a) (second a) (table_said r).value (table_said r).number told z (second a') (table_said r').value (table_said r').number (rw same at told') z' (second a'') (table_said r'').value (table_said r'').number (rw same' at told'') join;
      entry_joined = λ κs a r e told z κs' a' r' e' told' same z' κs'' a'' r'' e'' told'' same' join.
          rows_twice (third a).now (first a).now (second a) (third e).now r told z (first a').now (second a') (third e').now r' (rw same at told') z'
          (first a'').now (second a'') (third e'').now r'' (rw same' at told'') join;
      takes_legal = λ κs a r e told rules bytes legal.
          let list = second a in
          (took (first a) list (table_said r).value (table_said r).number told legal.0 (all_legal_within rules bytes list.count (map record_of list.records) (listed bytes (map record_of list.records) list.count) legal.1)).0;
      takes_read = λ κs a r e told κs' a' r' e' told' same.
          read_took (rules_of (fourth a)) (third a).status (first a).now (second a) r told (first a') (table_said r').value (table_said r').number (rw same at told');
      asks = λ κs a r e told.
          let c = (second a).0 in
          let k = (third a).0 in (
            (λ z. let g = gave_only (first a) c k (list_handed r) (list_said r).number (handed_list r ∙ told) z in (g.0, g.1)),
            (λ h. (given_beside (holding capacity []) (silence capacity (first a) c k) (holding capacity) (handed_list r ∙ told) _ (asks capacity (first a) c k h.0 h.1)).0),
          );
      names = λ κs a r e told z. gave_names (first a) (second a).0 (third a).0 (list_handed r) (list_said r).number (handed_list r ∙ told) z;
      entry_names = λ κs a r e told z.
          let h = handed (table_in (first a).now) (second a) (third a) (fourth a).now (fourth e).now (fifth e).now r told z in
          handed_names (table_in (first a).now) (second a) (third a) (fourth e).now (fifth e).now h;
      silence_legal = λ κs a r e told. gave_legal (first a) (second a).0 (third a).0 (list_handed r) (list_said r).number (handed_list r ∙ told);
      silences = λ κs a r e told κs' a' r' e' told' same same'.
          gave_silences (first a) (second a).0 (third a).0 (list_handed r) (list_said r).number (handed_list r ∙ told) (table_said r').value (table_said r').number (rw (same, same') at told');
      entry_silences = λ κs a r e told z κs' a' r' e' told' same same' same''.
          let h = handed (table_in (first a).now) (second a) (third a) (fourth a).now (fourth e).now (fifth e).now r told z in
          rw (same, same')
          (handed_silences (first a).now (second a) (third a) (fourth e).now (fifth e).now h (third e').now r' (rw (same, same', same'') at told'));
      all_off = λ κs a r e told c k κs' a' r' e' told' good same few κs'' a'' r'' e'' told'' same' same'' κs''' a''' r''' e''' told'''.
          gave_fresh (first a) (second a).0 (third a).0 (list_handed r) (list_said r).number (handed_list r ∙ told) (table_said r'').value (table_said r'').number (rw (same', same'') at told'')
          (rw same at (full_table κs' a' good)) c k (rw (← same, ← told') few)
          ∙ sym told''';
      entry_all_off = λ κs a r e told c k z κs' a' r' e' told' same few κs'' a'' r'' e'' told'' same' same'' same'''.
          let h = handed (table_in (first a).now) (second a) (third a) (fourth a).now (fourth e).now (fifth e).now r told z in
          handed_fresh (first a).now (second a) (third a) (fourth e).now (fifth e).now h (third e'').now r'' (rw (same', same'', same''') at told'')
          c k (rw (← same, ← told') few);
      counted = λ κs a r e told good many turns.
          in_all (first a) (ListGiven (first a)) (given_list (first a)) (omega arith) turns ∙ sym (counts_sum (full_table κs a good)) ∙ ap (sum ◌+◌ 0) (sym told);
      entry_counted = λ κs a r e told many turns.
          let table = (first a).now in
          in_all (table_in table) (RowsGiven table) (given_rows table) (omega arith) turns ∙ sym (counts_sum (shaped_in table)) ∙ ap (sum ◌+◌ 0) (sym told);
    }
