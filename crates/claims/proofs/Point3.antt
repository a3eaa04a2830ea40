-- Point 3, proved of the definitions: what is written are the list's own bytes, which read back, and no bytes that read strictly as it are fewer.
use mathlib.Core.Path.{◌≡◌, refl, sym, ap, ◌∙◌, subst}
use mathlib.Core.Bool.{true}
use mathlib.Core.List.{List, map}
use Prim.Native.Nat.{ℕ, zero, suc, ◌≤◌}
use native.Mathlib.Omega.{arith}
use lib.ListN.{length, take, drop, length-take}
use Rattle.smf.specs.Answer.{Answer, gives, Rules, strict_of}
use Rattle.smf.specs.Running.{is_running}
use Rattle.smf.specs.Write.{over}
use Rattle.smf.specs.Event.{Event}
use Rattle.smf.specs.Lists.{read_list, paddings, encode_list, ListWritten, wrote, write_list}
use Rattle.smf.proofs.Write.{length_over}
use Rattle.smf.proofs.Legal.{AllLegal, all_strictly}
use Rattle.smf.proofs.Lists.{ReadsBack, list_reads_back, list_read, list_valid}
use Rattle.smf.proofs.ListLegality.{given_length, Lawful, lawful_all, lawful_take, records_lawful}
use Rattle.smf.proofs.ListWrites.{write_wrote, write_refused, write_fits, front_own, front_beyond}
use Rattle.rows.specs.Rows.{width}
use Rattle.rows.specs.RowLists.{rows_judged}
use Rattle.write.proofs.Judging.{row_lawful}
use Rattle.claims.proofs.Bytes.{list_bytes}
use Rattle.claims.specs.Point3.{ReadsStrictly, Fits, Accepted, ListWriteSays, Writes}

-- rows that are given are legal events
pub rows_lawful : (rules : Rules) (bytes : List ℕ) (n : ℕ) (cells : List ℕ) → Lawful rules (rows_judged rules bytes n cells)
unfolding rows_judged
rows_lawful rules bytes zero cells = tt
rows_lawful rules bytes (suc n) cells = (row_lawful rules bytes (take width cells), rows_lawful rules bytes n (drop width cells))

module _ (rules : Rules) (most running : ℕ) where
  -- bytes that read strictly as a list are no fewer than its own, and they do so from a running status
  fewer : (es : List (Event (List ℕ))) (s : List ℕ) → ReadsStrictly rules most running es s → length (encode_list running es) ≤ length s
  fewer es s r =
      let short = (list_read (strict_of rules) most running s).shortest refl in
      omega (arith, short, ap (λ (l : List (Event (List ℕ))). length (encode_list running l)) r.events)

  valid : (es : List (Event (List ℕ))) (s : List ℕ) → ReadsStrictly rules most running es s → is_running running ≡ true
  valid es s r = list_valid (strict_of rules) most running s r.all

  module _ (judged : List (Answer (Event (List ℕ)))) (lawful : Lawful rules judged) (count : ℕ) where
    laws : (es : List (Event (List ℕ))) → take count judged ≡ map gives es → AllLegal rules es
    laws es legal = lawful_all rules es (rw (← legal) (lawful_take rules count judged lawful))

    back : (es : List (Event (List ℕ))) → is_running running ≡ true → count ≤ most → take count judged ≡ map gives es
        → ReadsBack (read_list (strict_of rules) most running (encode_list running es)) running es
    back es is few legal =
        let few' : length es ≤ most = omega (arith, given_length es, ap length legal, length-take count judged) in
        list_reads_back (strict_of rules) most running es is (all_strictly rules es (laws es legal)) few'

    module _ (buffer : List ℕ) where
      abbrev written : ListWritten
      written = write_list most running judged count buffer

      -- the own bytes stand in front
      own_front : (n : ℕ) (e : written.answer ≡ wrote n) → take n written.buffer ≡ encode_list running (write_wrote most running judged count buffer n e).events
      own_front n e =
          let a = write_wrote most running judged count buffer n e in
          let own = encode_list running a.events in
          ap (take n) a.front ∙ ap (λ (k : ℕ). take k (over own buffer 0)) a.size ∙ front_own own buffer

      -- and have no padding
      pub unpadded : (n : ℕ) → written.answer ≡ wrote n → paddings (read_list (strict_of rules) most running (take n written.buffer)).events ≡ 0
      unpadded n e =
          let a = write_wrote most running judged count buffer n e in
          rw (own_front n e) (back a.events a.valid a.few a.legal).padding

      accepted : (n : ℕ) → written.answer ≡ wrote n → Accepted rules most running judged count buffer written n
      accepted n e =
          let a = write_wrote most running judged count buffer n e in
          let own = encode_list running a.events in
          let b = back a.events a.valid a.few a.legal in
          let front = own_front n e in
          record {
            events = a.events;
            legal = a.legal;
            reads = subst (ReadsStrictly rules most running a.events) (sym front) (record { events = b.events; all = b.stop });
            after = ap (λ (l : List ℕ). (read_list (strict_of rules) most running l).running) front ∙ b.after ∙ sym a.after;
            shortest = λ s r. omega (arith, a.size, fewer a.events s r);
            long = ap length a.front ∙ length_over own buffer 0 (omega (arith, a.size, a.room));
            beyond = ap (drop n) a.front ∙ ap (λ (k : ℕ). drop k (over own buffer 0)) a.size ∙ front_beyond own buffer ∙ ap (λ (k : ℕ). drop k buffer) (sym a.size);
          }

      -- where some bytes fit, the own bytes do
      own_fit : (f : Fits rules most running judged count buffer) → written.answer ≡ wrote (length (encode_list running f.1.0))
      own_fit f =
          let es = f.1.0 in
          let s = f.1.2.0 in
          let r = f.1.2.2 in
          let room : length (encode_list running es) ≤ length buffer = omega (arith, f.1.2.1, fewer es s r) in
          ap (λ (w : ListWritten). w.answer) (write_fits most running judged count buffer (valid es s r) f.0 es f.1.1 room)

      -- and where they are written, they are bytes that fit
      some_fit : (n : ℕ) → written.answer ≡ wrote n → Fits rules most running judged count buffer
      some_fit n e =
          let a = write_wrote most running judged count buffer n e in
          let b = back a.events a.valid a.few a.legal in
          (a.few, (a.events, a.legal, (encode_list running a.events, omega (arith, a.size, a.room), record { events = b.events; all = b.stop }, list_bytes rules running a.events (laws a.events a.legal))))

      -- whatever the list's events were made of
      pub list_write_says : ListWriteSays rules most running judged count buffer written
      list_write_says =
          record {
            accepts = ((λ w. some_fit w.0 w.1), (λ f. (length (encode_list running f.1.0), own_fit f)));
            accepted = accepted;
            refused = write_refused most running judged count buffer;
          }

pub writes : Writes
writes rules most running bytes records count buffer = list_write_says rules most running _ (records_lawful rules bytes records) count buffer
