-- Point 3 of the entries, proved: what they leave is what the definitions do, of which it holds.
use mathlib.Core.Path.{◌≡◌, refl, sym, ap, ◌∙◌, subst}
use mathlib.Core.Bool.{Bool, true}
use mathlib.Core.List.{List, [], ◌∷◌, ◌++◌, map}
use Prim.Native.Nat.{ℕ, zero, suc, ◌+◌, ◌*◌, ◌≤◌}
use native.Mathlib.Omega.{arith}
use lib.ListN.{length, take, drop, length-map, length-take}
use lib.Seq.{take-length}
use Rattle.smf.specs.Place.{bytes_of}
use Rattle.smf.specs.Answer.{Answer, gives, refuses, Rules, strict_of}
use Rattle.smf.specs.Running.{is_running}
use Rattle.smf.specs.Write.{over}
use Rattle.smf.specs.Event.{Event, map_event, Same, encode_event, EventWritten, write_event}
use Rattle.smf.specs.Lists.{listed, ListAt, list_at, wrote, ListWritten, write_list, SameList}
use Rattle.smf.proofs.Answer.{by_test}
use Rattle.smf.proofs.Write.{put_fits}
use Rattle.smf.proofs.Event as smf
use Rattle.smf.proofs.Legal.{is_legal, legal_strictly}
use Rattle.smf.proofs.ListLegality.{given_itself, given_length}
use Rattle.track.specs.List.{capacity}
use Rattle.rows.specs.Rows.{width}
use Rattle.rows.specs.Sheet.{sheet_of}
use Rattle.rows.specs.RowEvent.{is_row, called_row, event_of_row, row_judged}
use Rattle.rows.specs.RowLists.{rows_judged, called_rows}
use Rattle.rows.proofs.RowCells.{sheet_length}
use Rattle.write.proofs.Judging.{rows_length}
use Rattle.loader.specs.Entry.{from_bits, leaves}
use Rattle.loader_track.specs.Lists.{sheet_put, read_answer}
use Rattle.claims.specs.Calls.{first, second, third, fourth, fifth, sixth, seventh, eighth, ninth}
use Rattle.claims.specs.Point3.{Bytes, FitsAsBytes, ListWriteSays}
use Rattle.claims.specs.EntrySays.{said, said_list}
use Rattle.claims.specs.EntryPoint3.{RowsBack, EntryPoint3}
use Rattle.claims.proofs.Point3.{rows_lawful, list_write_says}
use Rattle.claims.proofs.Refusals.{row_by}
use Rattle.claims.proofs.EventWrites.{event_wrote}
use Rattle.claims.proofs.Carried.{rows_carry, fits_as_bytes}
use Rattle.claims.proofs.ReadAgain.{left, own, read, Again, again}
use Rattle.claims.proofs.SmfForms.{over_between}
use Rattle.claims.proofs.EntryWrites.{EventPut, event_put, ListPut, list_put}

-- rows that are given are the events that they are over the bytes
module _ (rules : Rules) (bytes : List ℕ) where
  pub row_itself : (r : List ℕ) (e : Event (List ℕ)) → row_judged rules bytes r ≡ gives e → (e ≡ map_event (bytes_of bytes) (called_row r)) × (is_legal rules e ≡ true)
  unfolding row_judged event_of_row
  row_itself r e h =
      by_test (is_row r) (λ t. given_itself rules bytes (called_row r) e (rw t at h))
      (λ t. let q : ◌≡◌ {A = Answer (Event (List ℕ))} (refuses 18) (gives e) = rw t at h in let z : ◌≡◌ {A = ℕ} 0 1 = cc in absurd (omega arith))

  rows_themselves : (n : ℕ) (cells : List ℕ) (es : List (Event (List ℕ))) → take n (rows_judged rules bytes n cells) ≡ map gives es → es ≡ listed bytes (called_rows n cells) n
  unfolding rows_judged called_rows
  rows_themselves zero cells [] h = refl
  rows_themselves zero cells (e ∷ es) h = absurd (omega (arith, ap length h))
  rows_themselves (suc n) cells [] h = absurd (omega (arith, ap length h))
  rows_themselves (suc n) cells (e ∷ es) h =
      let q : row_judged rules bytes (take width cells) ≡ gives e = cc in
      let behind : take n (rows_judged rules bytes n (drop width cells)) ≡ map gives es = cc in
      rw (row_itself (take width cells) e q).0
      (ap (λ (l : List (Event (List ℕ))). map_event (bytes_of bytes) (called_row (take width cells)) ∷ l) (rows_themselves n (drop width cells) es behind))

-- what `apk_list_read` promises
abbrev pub ReadTold : Rules → ℕ → List ℕ → ℕ → List ℕ → ℕ → ℕ → ℕ → ℕ → ℕ → List ℕ → ℕ → ℕ → ℕ → ℕ → Type 0
ReadTold rules running raw at cells c p a d r cells' c' p' a' d' =
    let l = list_at rules capacity running raw at in
    (r ≡ read_answer l cells)
    × ((cells' ≡ (sheet_put l cells).buffer)
    × ((c' ≡ leaves (λ (k : ℕ). length l.events) (sheet_put l cells).answer c)
    × ((p' ≡ leaves (λ (k : ℕ). l.place) (sheet_put l cells).answer p)
    × ((a' ≡ leaves (λ (k : ℕ). l.running) (sheet_put l cells).answer a)
    × (d' ≡ leaves (λ (k : ℕ). l.padding) (sheet_put l cells).answer d)))))

-- rows that were written, read into cells again
module _ (rules : Rules) (running : ℕ) (payload rows : List ℕ) (count : ℕ) (out : List ℕ) (n : ℕ) where
  abbrev judged : List (Answer (Event (List ℕ)))
  judged = rows_judged rules payload count rows

  abbrev raw : List ℕ
  raw = own rules capacity running judged count out n

  abbrev back : ListAt
  back = read rules capacity running judged count out n

  abbrev Back : List ℕ → ℕ → ℕ → ℕ → ℕ → List ℕ → ℕ → ℕ → ℕ → Type 0
  Back cells c p a r cells' c' p' a' =
      RowsBack n (left rules capacity running judged count out n).running payload rows count raw
      (record { before = cells; after = cells' }) (record { before = c; after = c' }) (record { before = p; after = p' }) (record { before = a; after = a' }) r

  module _ (g : Again rules capacity running judged count out n) where
    as_many : length back.events ≡ count
    as_many =
        let there = ap length g.there in
        let legal = ap length g.legal in
        let counted = rows_length rules payload count rows in
        omega (arith, there, legal, length-map back.events (map_event (bytes_of raw)), given_length g.events, length-take count judged, counted)

    same : SameList raw back.events (length back.events) payload (called_rows count rows) count
    same =
        let there = g.there ∙ rows_themselves rules payload count rows g.events g.legal in
        rw (take-length back.events, there, as_many) refl

    fit : (cells : List ℕ) → count * width ≤ length cells → 0 + length (sheet_of back.events) ≤ length cells
    fit cells room = omega (arith, room, sheet_length back.events, ap (λ (k : ℕ). k * width) as_many)

    -- its padding is none
    rows_unpadded : (cells : List ℕ) (c p a d : ℕ) {r c' p' a' d' : ℕ} {cells' : List ℕ} → count * width ≤ length cells
        → ReadTold (strict_of rules) running raw 0 cells c p a d r cells' c' p' a' d' → d' ≡ 0
    rows_unpadded cells c p a d room told =
        let t = rw (← put_fits (sheet_of back.events) cells 0 (fit cells room)) at told in
        t.1.1.1.1.1 ∙ g.padding

    rows_back : (cells : List ℕ) (c p a d : ℕ) {r c' p' a' d' : ℕ} {cells' : List ℕ} → count * width ≤ length cells
        → ReadTold (strict_of rules) running raw 0 cells c p a d r cells' c' p' a' d' → Back cells c p a r cells' c' p' a'
    rows_back cells c p a d room told =
        let t = rw (← put_fits (sheet_of back.events) cells 0 (fit cells room)) at told in
        record {
          ended = rw g.stop at t.0;
          reached = t.1.1.1.0 ∙ g.place;
          status = t.1.1.1.1.0 ∙ g.status;
          events = back.events;
          handed = t.1.0;
          many = t.1.1.0 ∙ as_many;
          same = same;
        }

-- what was written and read by entries
module _ (rules : Rules) (running : ℕ) (payload rows : List ℕ) (count : ℕ) (out : List ℕ) (long index : ℕ) {w n after i : ℕ} {end : List ℕ}
    (told : ListPut rules running payload rows count long index out w end n after i) (z : w ≡ 0) where
  is : write_list capacity running (rows_judged rules payload count rows) count out ≡ record { buffer = end; answer = wrote n; running = after }
  is = list_put rules running payload rows count long index out told ∙ ap (λ (x : ℕ). record { buffer = end; answer = said_list x n i; running = after }) z

  entry_bytes : Bytes payload → FitsAsBytes rules capacity running (rows_judged rules payload count rows) count out
  entry_bytes are =
      let judged = rows_judged rules payload count rows in
      let says = list_write_says rules capacity running judged (rows_lawful rules payload count rows) count out in
      fits_as_bytes payload are rules capacity running judged count out (rows_carry payload are rules count rows) (says.accepts.0 (n, ap (λ (l : ListWritten). l.answer) is))

  pub entry_unpadded : (raw : List ℕ) (at running' : ℕ) (rules' : Rules) (cells : List ℕ) (c p a d : ℕ) {r c' p' a' d' : ℕ} {cells' : List ℕ}
      → ReadTold rules' running' raw at cells c p a d r cells' c' p' a' d' → raw ≡ take n end → at ≡ 0 → running' ≡ running → rules' ≡ strict_of rules
      → count * width ≤ length cells → d' ≡ 0
  entry_unpadded raw at running' rules' cells c p a d told' q at_first same strictly room =
      let g = again rules capacity running _ count out n (rows_lawful rules payload count rows) (ap (λ (l : ListWritten). l.answer) is) in
      let own : raw ≡ take n (write_list capacity running (rows_judged rules payload count rows) count out).buffer = q ∙ sym (ap (λ (l : ListWritten). take n l.buffer) is) in
      rows_unpadded rules running payload rows count out n g cells c p a d room (rw (own, at_first, same, strictly) at told')

  entry_again : (raw : List ℕ) (at running' : ℕ) (rules' : Rules) (cells : List ℕ) (c p a d : ℕ) {r c' p' a' d' : ℕ} {cells' : List ℕ}
      → ReadTold rules' running' raw at cells c p a d r cells' c' p' a' d' → raw ≡ take n end → at ≡ 0 → running' ≡ running → rules'.strict ≡ true
      → count * width ≤ length cells
      → RowsBack n after payload rows count raw
      (record { before = cells; after = cells' }) (record { before = c; after = c' }) (record { before = p; after = p' }) (record { before = a; after = a' }) r
  entry_again raw at running' rules' cells c p a d told' q at_first same strict room =
      let g = again rules capacity running _ count out n (rows_lawful rules payload count rows) (ap (λ (l : ListWritten). l.answer) is) in
      let strictly : rules' ≡ strict_of rules = ap (λ (b : Bool). record { strict = b }) strict in
      let own : raw ≡ take n (write_list capacity running (rows_judged rules payload count rows) count out).buffer = q ∙ sym (ap (λ (l : ListWritten). take n l.buffer) is) in
      rw (own, sym (ap (λ (l : ListWritten). l.running) is)) (rows_back rules running payload rows count out n g cells c p a d room (rw (own, at_first, same, strictly) at told'))

-- a row's event that was written at a place: its own bytes stand there
module _ (rules : Rules) (running : ℕ) (payload row out : List ℕ) (at n : ℕ) where
  abbrev one : EventWritten
  one = write_event running (row_judged rules payload row) out at

  record Own : Type 0 where
    pub valid : is_running running ≡ true
    pub legal : is_legal (strict_of rules) (map_event (bytes_of payload) (called_row row)) ≡ true
    pub stands : drop at (take n one.written.buffer) ≡ encode_event running (map_event (bytes_of payload) (called_row row))

  own_written_lem : one.written.answer ≡ gives n → Own
  own_written_lem h =
      let a = event_wrote running (row_judged rules payload row) (row_by rules payload row) out at n h in
      let g = row_itself rules payload row a.event a.legal in
      let bs = encode_event running a.event in
      record {
        valid = a.valid;
        legal = legal_strictly rules _ ∙ subst (λ (x : Event (List ℕ)). is_legal rules x ≡ true) g.0 g.1;
        stands =
            ap (λ (b : List ℕ). drop at (take n b)) a.own
            ∙ ap (λ (m : ℕ). drop at (take m (over bs out at))) a.size
            ∙ over_between bs out at a.room
            ∙ ap (encode_event running) g.0;
      }

never_begins : (rules rules' : Rules) (running : ℕ) (payload payload' row row' out out' : List ℕ) (at at' n n' : ℕ) (more : List ℕ)
    → (one rules running payload row out at n).written.answer ≡ gives n → (one rules' running payload' row' out' at' n').written.answer ≡ gives n'
    → drop at (take n (one rules running payload row out at n).written.buffer) ≡ drop at' (take n' (one rules' running payload' row' out' at' n').written.buffer) ++ more
    → Same payload (called_row row) payload' (called_row row')
never_begins rules rules' running payload payload' row row' out out' at at' n n' more h h' q =
    let a = own_written_lem rules running payload row out at n h in
    let a' = own_written_lem rules' running payload' row' out' at' n' h' in
    smf.prefix_free (strict_of rules) running (map_event (bytes_of payload) (called_row row)) (map_event (bytes_of payload') (called_row row')) more
    a.valid a.legal a'.legal (sym a.stands ∙ q ∙ ap (λ (l : List ℕ). l ++ more) a'.stands)

-- an event that an entry accepted is written, and what the buffer holds then
module _ (rules : Rules) (running : ℕ) (payload row out : List ℕ) (at next : ℕ) {r next' after' : ℕ} {out' : List ℕ}
    (told : EventPut rules running payload row out at next r out' next' after') where
  pub put_answer : r ≡ 0 → (write_event running (row_judged rules payload row) out at).written.answer ≡ gives next'
  put_answer z = ap (λ (w : EventWritten). w.written.answer) (event_put rules running payload row out at next told) ∙ ap (λ (x : ℕ). said x next') z

never : (rules rules' : Rules) (running running' : ℕ) (payload payload' row row' out out' : List ℕ) (at at' next next' : ℕ) {r r' n n' after after' : ℕ} {end end' : List ℕ}
    → EventPut rules running payload row out at next r end n after → r ≡ 0
    → EventPut rules' running' payload' row' out' at' next' r' end' n' after' → (more : List ℕ) → r' ≡ 0 → running' ≡ running
    → drop at (take n end) ≡ drop at' (take n' end') ++ more → Same payload (called_row row) payload' (called_row row')
never rules rules' running running' payload payload' row row' out out' at at' next next' {n = n} {n' = n'} told z told' more z' same q =
    let told'' = rw same at told' in
    never_begins rules rules' running payload payload' row row' out out' at at' n n' more
    (put_answer rules running payload row out at next told z) (put_answer rules' running payload' row' out' at' next' told'' z')
    (rw (← told.1.0, ← told''.1.0) q)

pub entry_point_3 : EntryPoint3
entry_point_3 =
    record {
      list_write = λ κs a r e told.
          let rules = from_bits (fifth a) in
          let judged = rows_judged rules (third a).now (second a) (first a).now in
          subst (ListWriteSays rules capacity (fourth a) judged (second a) (sixth a).now)
          (list_put rules (fourth a) (third a).now (first a).now (second a) (seventh a).now (ninth a).now (sixth a).now told)
          (list_write_says rules capacity (fourth a) judged (rows_lawful rules (third a).now (second a) (first a).now) (second a) (sixth a).now);
      bytes = λ κs a r e told z.
          entry_bytes (from_bits (fifth a)) (fourth a) (third a).now (first a).now (second a) (sixth a).now (seventh a).now (ninth a).now told z;
      reads_back = λ κs a r e told z κs' a' r' e' told'.
          entry_again (from_bits (fifth a)) (fourth a) (third a).now (first a).now (second a) (sixth a).now (seventh a).now (ninth a).now told z
          (first a').now (second a') (third a') (from_bits (fourth a')) (fifth a').now (sixth a').now (seventh a').now (eighth a').now (ninth a').now told';
      prefix_free = λ κs a r e told z κs' a' r' e' told'.
          never (from_bits (fourth a)) (from_bits (fourth a')) (third a) (third a') (second a).now (second a').now (first a).now (first a').now
          (fifth a).now (fifth a').now (sixth a) (sixth a') (seventh a).now (seventh a').now told z told';
    }
