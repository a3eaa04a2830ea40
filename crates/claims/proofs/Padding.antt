-- What is written has no padding, and a number has none exactly where it stands in its shortest form.
use mathlib.Core.Path.{◌≡◌, refl, sym, ap, ◌∙◌, subst}
use mathlib.Core.Bool.{Bool, true, false, true≢false}
use mathlib.Core.Logic.{◌↔◌}
use mathlib.Core.List.{List, [], ◌∷◌, ◌++◌, map, append_assoc}
use Prim.Native.Nat.{ℕ, zero, suc, ◌+◌, ◌≤◌, ◌<◌}
use native.Mathlib.Omega.{arith}
use lib.Dec.{ltb}
use lib.ListN.{length, take, drop, length-append, length-drop, take-append-drop}
use lib.Seq.{take_at, drop_at, length-take-le}
use borrow.Author.Tests.{ltb-true, ltb-false}
use Rattle.smf.specs.Answer.{pick, Answer, gives, refuses, Rules, strict_of}
use Rattle.smf.specs.Number.{joined, no_more, is_number, value_from, ahead, encode_number, numeral, number_from, read_number}
use Rattle.smf.specs.Place.{NumberAt, number_placed, number_at}
use Rattle.smf.specs.Write.{Written, over, write, number_bytes}
use Rattle.smf.specs.Running.{is_running}
use Rattle.smf.specs.Payload.{payload_after, read_payload}
use Rattle.smf.specs.Wire.{taken, data_length, read_two, read_channel, read_meta, read_status, read_body, after_delta, read_raw}
use Rattle.smf.specs.Kind.{message_two, is_text, called_meta, called}
use Rattle.smf.specs.Event.{Event, map_meta, map_kind, map_event, named, name_raw, read_event, EventAt, event_placed, reads_at, placed, event_at, encode_event, event_after, legal, EventWritten, write_event}
use Rattle.smf.specs.Lists.{go_on, read_more, read_list, paddings, list_at, ListHeld, ListWritten, write_list, records_judged}
use Rattle.smf.proofs.Answer.{said_of}
use Rattle.smf.proofs.Number.{none_nil, reads_back, encode_unpadded, encode_is_number, encode_value, shortest, smf_number}
use Rattle.smf.proofs.Place.{Reached, NumberReached, number_reached}
use Rattle.smf.proofs.Event.{event_reads_back}
use Rattle.smf.proofs.Legal.{is_legal, legal_strictly}
use Rattle.smf.proofs.ListLegality.{given_itself, records_lawful}
use Rattle.base.specs.Rules.{rules_of}
use Rattle.number.specs.Varlen.{write_left}
use Rattle.event.specs.Event.{event_of}
use Rattle.rows.specs.RowEvent.{row_judged}
use Rattle.track.specs.List.{capacity, record_of}
use Rattle.loader.specs.Entry.{from_bits, answered, leaves}
use Rattle.claims.specs.Calls.{first, second, third, fourth, fifth, sixth, seventh, eighth, ninth}
use Rattle.claims.specs.Table.{By, Keeps, of_number, of_legality}
use Rattle.claims.specs.Point3.{Bytes}
use Rattle.claims.specs.SmfForms.{between}
use Rattle.claims.specs.Padding.{NumbersWorked, EventsWorked, CutWorked, ListWorked, ShortestExactly, NumberUnpadded, EventUnpadded, ListUnpadded, Padding, EntryShortestExactly, EntryNumberUnpadded, EntryEventUnpadded, EntryListUnpadded, EntryPadding}
use Rattle.claims.proofs.Bytes.{number_bytes_lem}
use Rattle.claims.proofs.Refusals.{legal_by, row_by, number_at_by, number_bytes_by, by_more, write_keeps}
use Rattle.claims.proofs.SmfForms.{over_between, put_is, number_shortest}
use Rattle.claims.proofs.EventWrites.{event_wrote}
use Rattle.claims.proofs.Point3Calls.{event_end, list_end}
use Rattle.claims.proofs.ReadAgain.{again}
use Rattle.claims.proofs.EntryPoint3.{put_answer, row_itself, entry_unpadded}

-- A number's bytes are told by how many they are and by what they stand for

number_some : (k : ℕ) (n : List ℕ) → is_number k n ≡ true → 0 < length n
unfolding is_number
number_some zero n h = let z : ◌≡◌ {A = ℕ} 0 1 = cc in absurd (omega arith)
number_some (suc k) [] h = let z : ◌≡◌ {A = ℕ} 0 1 = cc in absurd (omega arith)
number_some (suc k) (b ∷ n) h = omega arith

alone : (k b c : ℕ) (u w : List ℕ) → is_number k u ≡ true → is_number k w ≡ true → length u ≡ length w → Bytes u → Bytes w → value_from b u ≡ value_from c w → (b ≡ c) × (u ≡ w)
unfolding is_number value_from
alone zero b c u w p q l f g e = let z : ◌≡◌ {A = ℕ} 0 1 = cc in absurd (omega arith)
alone (suc k) b c [] w p q l f g e = let z : ◌≡◌ {A = ℕ} 0 1 = cc in absurd (omega arith)
alone (suc k) b c (x ∷ u) [] p q l f g e = absurd (omega arith)
alone (suc k) b c (x ∷ u) (y ∷ w) p q l f g e =
    by (λ m n. alone k (joined b x) (joined c y) u w m n (omega (arith, l)) f.1 g.1 e) (ltb x 128) refl (ltb y 128) refl p q where
      by : (is_number k u ≡ true → is_number k w ≡ true → (joined b x ≡ joined c y) × (u ≡ w)) → (s : Bool) → ltb x 128 ≡ s → (t : Bool) → ltb y 128 ≡ t
          → pick s (no_more u) (is_number k u) ≡ true → pick t (no_more w) (is_number k w) ≡ true → (b ≡ c) × (x ∷ u ≡ y ∷ w)
      by behind true h true i p' q' =
          let nu = none_nil u p' in
          let nw = none_nil w q' in
          let v : joined b x ≡ joined c y = rw (nu, nw) at e in
          let lx = ltb-true x 128 h in
          let ly = ltb-true y 128 i in
          let same : x ≡ y = omega arith in
          (omega arith, rw (nu, nw, same))
      by behind true h false i p' q' = absurd (omega (arith, l, ap length (none_nil u p'), number_some k w q'))
      by behind false h true i p' q' = absurd (omega (arith, l, ap length (none_nil w q'), number_some k u p'))
      by behind false h false i p' q' =
          let r = behind p' q' in
          let v = r.0 in
          let lx = ltb-false x 128 h in
          let ly = ltb-false y 128 i in
          let mx = f.0 in
          let my = g.0 in
          let same : x ≡ y = omega arith in
          (omega arith, rw (same, r.1))

-- bytes that stand at a place, taken out from there
between_own : (s own rest : List ℕ) (at : ℕ) → at ≤ length s → drop at s ≡ own ++ rest → between at (at + length own) s ≡ own
between_own s own rest at h q =
    let l = length-take-le at s h in
    let whole : s ≡ (take at s ++ own) ++ rest = sym (take-append-drop at s) ∙ ap (λ (x : List ℕ). take at s ++ x) q ∙ sym (append_assoc (take at s) own rest) in
    let w : length (take at s ++ own) ≡ at + length own = rw (length-append, l) in
    let front : take (at + length own) s ≡ take at s ++ own = ap (take (at + length own)) whole ∙ take_at (take at s ++ own) rest (at + length own) w in
    ap (drop at) front ∙ drop_at (take at s) own at l

bytes_first : (a b : List ℕ) → Bytes (a ++ b) → Bytes a
bytes_first [] b h = tt
bytes_first (x ∷ a) b h = (h.0, bytes_first a b h.1)

bytes_drop : (n : ℕ) (s : List ℕ) → Bytes s → Bytes (drop n s)
bytes_drop zero s h = h
bytes_drop (suc n) [] h = h
bytes_drop (suc n) (b ∷ s) h = bytes_drop n s h.1

-- Numbers

number_exactly : (rules : Rules) (s : List ℕ) (at : ℕ) (m : NumberAt) → rules.strict ≡ true → Bytes s → number_at rules s at ≡ gives m
    → (m.padding ≡ 0) ↔ (between at m.next s ≡ encode_number m.value)
number_exactly rules s at m strict are e =
    let r : Reached rules s at m = said_of (NumberReached rules s at) (number_reached rules s at) e in
    let n = numeral m.value (drop m.next s) in
    let u = smf_number rules strict (drop at s) n r.read in
    let used = u.0 in
    let few = shortest rules strict (drop at s) n r.read in
    let some = number_some 4 used u.2 in
    let long : length (drop at s) ≡ length used + length (drop m.next s) = ap length u.1 ∙ length-append used (drop m.next s) in
    let inside : at ≤ length s = omega (arith, long, some, length-drop at s) in
    let end : at + length used ≡ m.next = omega (arith, long, r.site) in
    let there : between at m.next s ≡ used = subst (λ (k : ℕ). between at k s ≡ used) end (between_own s used (drop m.next s) at inside u.1) in
    let own = encode_number m.value in
    let own-bytes : Bytes used = bytes_first used (drop m.next s) (subst Bytes u.1 (bytes_drop at s are)) in
    let stands : value_from 0 used ≡ value_from 0 own = sym u.3 ∙ sym (encode_value m.value r.small) in (
      (λ z. there ∙ (alone 4 0 0 used own u.2 (encode_is_number m.value) (omega (arith, z, r.padded, long, few)) own-bytes (number_bytes_lem m.value) stands).1),
      (λ q. omega (arith, r.padded, long, ap length (sym there ∙ q))),
    )

-- a number that was written, wherever its bytes stand
number_written : (rules : Rules) (v : ℕ) (out : List ℕ) (at n : ℕ) (w : Written) → w ≡ write (number_bytes v) out at → w.answer ≡ gives n
    → (raw : List ℕ) (at' : ℕ) (rest : List ℕ) → drop at' raw ≡ between at n w.buffer ++ rest
    → (m : NumberAt) × (number_at rules raw at' ≡ gives m) × (m.value ≡ v) × (m.padding ≡ 0)
unfolding number_at
number_written rules v out at n w told e raw at' rest q =
    let p = put_is (number_bytes v) out at n w told e in
    let own = number_shortest v p.bytes p.has in
    let stands : drop at' raw ≡ encode_number v ++ rest = q ∙ ap (λ (l : List ℕ). l ++ rest) (p.there ∙ own.1) in
    (number_placed raw at' (numeral v rest), rw (stands, reads_back rules v rest own.0), refl, rw stands (encode_unpadded v rest))

-- Events, whatever they were made of

module _ (rules : Rules) (running : ℕ) (j : Answer (Event (List ℕ))) (numbered : By of_legality j) (legal : (e : Event (List ℕ)) → j ≡ gives e → is_legal rules e ≡ true)
    (out : List ℕ) (at n : ℕ) (h : (write_event running j out at).written.answer ≡ gives n) where
  event_written_lem : (rules' : Rules) → strict_of rules' ≡ strict_of rules → (raw : List ℕ) (at' : ℕ) (rest : List ℕ)
      → drop at' raw ≡ between at n (write_event running j out at).written.buffer ++ rest
      → (a : EventAt) × (event_at rules' running raw at' ≡ reads_at a) × (a.padding ≡ 0)
  unfolding event_at placed
  event_written_lem rules' alike raw at' rest q =
      let a = event_wrote running j numbered out at n h in
      let e = a.event in
      let bs = encode_event running e in
      let own : between at n (write_event running j out at).written.buffer ≡ bs =
      ap (between at n) a.own ∙ ap (λ (k : ℕ). between at k (over bs out at)) a.size ∙ over_between bs out at a.room
      in
      let stands : drop at' raw ≡ bs ++ rest = q ∙ ap (λ (l : List ℕ). l ++ rest) own in
      let is : is_legal rules' e ≡ true = sym (legal_strictly rules' e) ∙ ap (λ (r : Rules). is_legal r e) alike ∙ legal_strictly rules e ∙ legal e a.legal in
      (event_placed raw at' (taken e rest (event_after e) 0), ap (placed raw at') (ap (read_event rules' running) stands ∙ event_reads_back rules' running e rest a.valid is), refl)

-- Worked by hand

numbers_worked : NumbersWorked
unfolding ahead encode_number number_from read_number number_at
numbers_worked = refl

events_worked : EventsWorked
unfolding is_running ahead encode_number number_from read_number payload_after read_payload data_length read_two read_channel read_meta read_status read_body after_delta read_raw message_two is_text called_meta called map_meta map_kind map_event named name_raw read_event placed event_at
events_worked = refl

cut_worked : CutWorked
unfolding is_running ahead encode_number number_from read_number payload_after read_payload read_meta read_status read_body after_delta read_raw is_text called_meta called map_meta map_kind map_event named name_raw read_event placed event_at
cut_worked = refl

list_worked : ListWorked
unfolding is_running ahead encode_number number_from read_number data_length read_two read_channel read_status read_body after_delta read_raw message_two called map_kind map_event named name_raw read_event go_on read_more read_list paddings list_at
list_worked = refl

-- What the promises permit

shortest_exactly : ShortestExactly
shortest_exactly κs a r e told m strict are h = number_exactly (rules_of (third a)) (first a).now (second a) m strict are (sym told ∙ h)

number_unpadded : NumberUnpadded
number_unpadded κs a r e told n h κs' a' r' e' told' rest q =
    let w = number_written (rules_of (third a')) (first a).0 (second a).now (third a) n (write_left r (second e).now) told h (first a').now (second a') rest q in
    (w.0, told' ∙ w.1, w.2, w.3)

event_unpadded : EventUnpadded
event_unpadded κs a r e told n h κs' a' r' e' told' rest q same alike =
    let rules = rules_of (third a) in
    let bytes = (fourth a).now in
    let own = event_of (first a) in
    let end = sym (event_end r (fifth e).now) ∙ ap (λ (x : EventWritten). x.written.buffer) told in
    let w = event_written_lem rules (second a).status (legal rules bytes own) (legal_by rules bytes own) (λ x g. (given_itself rules bytes own x g).1)
    (fifth a).now (sixth a) n (sym (ap (λ (x : EventWritten). x.written.answer) told) ∙ h) (rules_of (fourth a')) alike (first a').now (second a') rest (rw end at q)
    in
    (w.0, rw same at told' ∙ w.1, w.2)

list_unpadded : ListUnpadded
list_unpadded κs a r e told n h κs' a' r' e' told' q z same strict =
    let rules = rules_of (third a) in
    let bytes = (fourth a).now in
    let records = map record_of (first a).records in
    let judged = records_judged rules bytes records in
    let running = (second a).status in
    let out = (fifth a).now in
    let g = again rules capacity running judged (first a).count out n (records_lawful rules bytes records) (sym (ap (λ (w : ListWritten). w.answer) told) ∙ h) in
    let own : (first a').now ≡ take n (write_list capacity running judged (first a).count out).buffer = q ∙ ap (take n) (sym (list_end r (fifth e).now) ∙ ap (λ (w : ListWritten). w.buffer) told) in
    ap (λ (l : ListHeld). l.padding) (rw (own, z, same, strict) at told') ∙ g.padding

pub padding : Padding
padding =
    record {
      worked = record { numbers = numbers_worked; events = events_worked; cut = cut_worked; list = list_worked };
      number = shortest_exactly;
      written_number = number_unpadded;
      written_event = event_unpadded;
      written_list = list_unpadded;
    }

-- What the entries' promises permit

-- an answer that an entry told by 0 is an acceptance
told_given : {A : Type 0} (ns : List ℕ) (x : Answer A) → By ns x → {r : ℕ} → r ≡ answered x → r ≡ 0 → (a : A) × (x ≡ gives a)
told_given ns (gives a) b told z = (a, refl)
told_given ns (refuses zero) b told z = absurd (true≢false (sym b))
told_given ns (refuses (suc n)) b told z = absurd (omega (arith, told, z))

kept_by : (ns out end : List ℕ) (x : Answer ℕ) → Keeps ns x out end → By ns x
kept_by ns out end (gives n) k = tt
kept_by ns out end (refuses n) k = k.0

-- what `apk_number_read` promises
module _ (x : Answer NumberAt) (v n p : ℕ) where
  abbrev NumberTold : ℕ → ℕ → ℕ → ℕ → Type 0
  NumberTold r v' n' p' =
      (r ≡ answered x) × ((v' ≡ leaves (λ (m : NumberAt). m.value) x v) × ((n' ≡ leaves (λ (m : NumberAt). m.next) x n) × (p' ≡ leaves (λ (m : NumberAt). m.padding) x p)))

  number_told : (m : NumberAt) → x ≡ gives m → {r v' n' p' : ℕ} → NumberTold r v' n' p' → (r ≡ 0) × (v' ≡ m.value) × (n' ≡ m.next) × (p' ≡ m.padding)
  number_told m e told = let t = rw e at told in (t.0, t.1.0, t.1.1.0, t.1.1.1)

entry_number : (rules : Rules) (s : List ℕ) (at v n p : ℕ) {r v' n' p' : ℕ} → NumberTold (number_at rules s at) v n p r v' n' p'
    → r ≡ 0 → rules.strict ≡ true → Bytes s → (p' ≡ 0) ↔ (between at n' s ≡ encode_number v')
entry_number rules s at v n p told z strict are =
    let x = number_at rules s at in
    let g = told_given (of_number rules.strict) x (number_at_by rules s at) told.0 z in
    let t = number_told x v n p g.0 g.1 told in
    rw (t.1, t.2, t.3) (number_exactly rules s at g.0 strict are g.1)

entry_number_written : (rules : Rules) (v : ℕ) (out : List ℕ) (at next : ℕ) {r next' : ℕ} {out' : List ℕ}
    → (r ≡ answered (write (number_bytes v) out at).answer) × ((out' ≡ (write (number_bytes v) out at).buffer) × (next' ≡ leaves (λ (k : ℕ). k) (write (number_bytes v) out at).answer next))
    → r ≡ 0 → (raw : List ℕ) (at' v₀ n₀ p₀ : ℕ) {r' v' n' p' : ℕ} → NumberTold (number_at rules raw at') v₀ n₀ p₀ r' v' n' p'
    → (rest : List ℕ) → drop at' raw ≡ between at next' out' ++ rest → (r' ≡ 0) × (v' ≡ v) × (p' ≡ 0)
entry_number_written rules v out at next {next' = next'} told z raw at' v₀ n₀ p₀ told' rest q =
    let w = write (number_bytes v) out at in
    let own = number_bytes v in
    let ns : List ℕ = 18 ∷ 20 ∷ [] in
    let by = kept_by ns out w.buffer w.answer (write_keeps ns own out at (by_more ns (18 ∷ []) own refl (number_bytes_by v)) refl) in
    let g = told_given ns w.answer by told.0 z in
    let end : next' ≡ g.0 = rw g.1 at told.1.1 in
    let m = number_written rules v out at g.0 w refl g.1 raw at' rest (rw (told.1.0, end) at q) in
    let t = number_told (number_at rules raw at') v₀ n₀ p₀ m.0 m.1 told' in
    (t.0, t.1 ∙ m.2, t.3 ∙ m.3)

entry_shortest_exactly : EntryShortestExactly
entry_shortest_exactly κs a r e told = entry_number (from_bits (third a)) (first a).now (second a) (fourth a).now (fifth a).now (sixth a).now told

entry_number_unpadded : EntryNumberUnpadded
entry_number_unpadded κs a r e told z κs' a' r' e' told' =
    entry_number_written (from_bits (third a')) (first a) (second a).now (third a) (fourth a).now told z
    (first a').now (second a') (fourth a').now (fifth a').now (sixth a').now told'

entry_event_unpadded : EntryEventUnpadded
entry_event_unpadded κs a r e told z κs' a' r' e' told' rest q same alike =
    let rules = from_bits (fourth a) in
    let payload = (second a).now in
    let row = (first a).now in
    let w = event_written_lem rules (third a) (row_judged rules payload row) (row_by rules payload row) (λ x g. (row_itself rules payload row x g).1)
    (fifth a).now (sixth a) _ (put_answer rules (third a) payload row (fifth a).now (sixth a) (seventh a).now told z)
    (from_bits (fourth a')) alike (first a').now (second a') rest (rw told.1.0 at q)
    in
    let t = rw (same, w.1) at told' in
    (t.0, t.1.1.1.1 ∙ w.2)

entry_list_unpadded : EntryListUnpadded
entry_list_unpadded κs a r e told z κs' a' r' e' told' q at_first same alike =
    entry_unpadded (from_bits (fifth a)) (fourth a) (third a).now (first a).now (second a) (sixth a).now (seventh a).now (ninth a).now told z
    (first a').now (second a') (third a') (from_bits (fourth a')) (fifth a').now (sixth a').now (seventh a').now (eighth a').now (ninth a').now told' q at_first same alike

pub entry_padding : EntryPadding
entry_padding =
    record {
      number = entry_shortest_exactly;
      written_number = entry_number_unpadded;
      written_event = entry_event_unpadded;
      written_list = entry_list_unpadded;
    }
