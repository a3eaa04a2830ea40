-- What the loop that reads a list into cells keeps: the rows of the events so far stand in front.
use mathlib.Core.Path.{◌≡◌, refl, sym, ap, subst, ◌∙◌}
use mathlib.Core.Bool.{true, false}
use mathlib.Core.List.{List, [], ◌∷◌, ◌++◌, append_assoc, append-nil}
use Prim.Native.Nat.{ℕ, ◌+◌, ◌*◌, ◌≤◌, ◌<◌}
use native.Mathlib.Omega.{arith}
use lib.Dec.{leb}
use lib.ListN.{length, drop, length-append}
use borrow.Author.Tests.{leb-false}
use Rattle.smf.specs.Answer.{Rules, gives}
use Rattle.smf.specs.Running.{is_running}
use Rattle.smf.specs.Place.{Span}
use Rattle.smf.specs.Wire.{Taken, Reading, reads, refused}
use Rattle.smf.specs.Event.{Event, placed, read_event, event_at}
use Rattle.smf.specs.Write.{over}
use Rattle.smf.specs.Lists as smf
use Rattle.smf.specs.Lists.{stopped, list_at, Reader, takes, stops, step_on, next_at}
use Rattle.smf.proofs.Answer.{pick_test}
use Rattle.smf.proofs.Event.{event_read_lem}
use Rattle.smf.proofs.Write.{length_over, over_over, put_fits}
use Rattle.smf.proofs.ListPlaces.{list_invalid}
use Rattle.smf.proofs.Steps.{reader_at}
use Rattle.track.proofs.Reading.{Sofar, begun, all, again}
use Rattle.rows.specs.Rows.{width, event_row}
use Rattle.rows.proofs.Width.{row_length}
use Rattle.rows.specs.Sheet.{sheet_of}
use Rattle.rows.specs.Read.{read_sheet, Onward, goes, halts, LaidStep, laid_next}

pub sheet_length : (es : List (Event Span)) → length (sheet_of es) ≡ length es * width
unfolding sheet_of
sheet_length [] = refl
sheet_length (e ∷ es) = length-append (event_row e) (sheet_of es) ∙ omega (arith, row_length e, sheet_length es)

pub sheet_append : (xs ys : List (Event Span)) → sheet_of (xs ++ ys) ≡ sheet_of xs ++ sheet_of ys
unfolding sheet_of
sheet_append [] ys = refl
sheet_append (x ∷ xs) ys = ap (λ (l : List ℕ). event_row x ++ l) (sheet_append xs ys) ∙ sym (append_assoc (event_row x) (sheet_of xs) (sheet_of ys))

sheet_one : (e : Event Span) → sheet_of (e ∷ []) ≡ event_row e
unfolding sheet_of
sheet_one e = append-nil (event_row e)

-- one row more, behind
sheet_next : (es : List (Event Span)) (e : Event Span) → sheet_of (es ++ (e ∷ [])) ≡ sheet_of es ++ event_row e
sheet_next es e = sheet_append es (e ∷ []) ∙ ap (λ (l : List ℕ). sheet_of es ++ l) (sheet_one e)

-- a row put behind those that stand in front
pub sheet_over : (es : List (Event Span)) (e : Event Span) (before : List ℕ) (n : ℕ) → length es ≡ n
    → over (event_row e) (over (sheet_of es) before 0) (n * width) ≡ over (sheet_of (es ++ (e ∷ []))) before 0
sheet_over es e before n counted =
    let behind : n * width ≡ 0 + length (sheet_of es) = omega (arith, sheet_length es) in
    ap (over (event_row e) (over (sheet_of es) before 0)) behind
    ∙ over_over (sheet_of es) (event_row e) before 0 (omega arith)
    ∙ ap (λ (l : List ℕ). over l before 0) (sym (sheet_next es e))

-- what is left where nothing is read
pub unread : (cap : ℕ) (rules : Rules) (s : List ℕ) (at first : ℕ) (cells : List ℕ) → is_running first ≡ false
    → record { cells = cells; answer = gives (record { count = 0; stop = stopped 1; place = at; running = first; padding = 0 }) } ≡ read_sheet (list_at rules cap first s at) cells
unfolding sheet_of
unread cap rules s at first cells v = rw (list_invalid rules cap first s at v, ← put_fits [] cells 0 (omega arith))

-- an event that a list takes is one of so many, and leaves a valid running status
module _ (rules : Rules) (cap : ℕ) (s : List ℕ) (r : Reader) where
  abbrev Known : smf.Next → Type 0
  Known (takes e padding r') = (r.count < cap) × (is_running r'.running ≡ true)
  Known (stops why) = Unit {0}

  event_known : r.count < cap → (a : Reading (Taken (Event (List ℕ)))) → read_event rules r.running (drop r.place s) ≡ a → Known (step_on r (placed s r.place a))
  unfolding step_on placed
  event_known h (reads t) e = (h, (event_read_lem rules r.running (drop r.place s) t e).runs)
  event_known h (refused n after) e = tt

  pub next_known : Known (next_at rules cap s r)
  unfolding next_at event_at
  next_known =
      pick_test Known (leb (length s) r.place) (λ t. tt)
      (λ t. pick_test Known (leb cap r.count) (λ u. tt)
      (λ u. event_known (omega (arith, leb-false cap r.count u)) (read_event rules r.running (drop r.place s)) refl))

  module _ {e : Event Span} {padding : ℕ} {r' : Reader} (q : next_at rules cap s r ≡ takes e padding r') where
    pub next_room : r.count < cap
    next_room = (subst Known q next_known).0

    pub next_runs : is_running r'.running ≡ true
    next_runs = (subst Known q next_known).1

pub record Laying (cap : ℕ) (rules : Rules) (s : List ℕ) (at first : ℕ) (before out : List ℕ) (padding : ℕ) (r : Reader) : Type 0 where
  pub events : List (Event Span)
  pub sofar : Sofar cap rules s at first events padding r
  pub runs : is_running r.running ≡ true
  pub rows : out ≡ over (sheet_of events) before 0

pub laying_first : (cap : ℕ) (rules : Rules) (s : List ℕ) (at first : ℕ) (before : List ℕ) → is_running first ≡ true → Laying cap rules s at first before before 0 (reader_at at first)
unfolding sheet_of
laying_first cap rules s at first before v = record { events = []; sofar = begun cap rules s at first v; runs = v; rows = refl }

module _ {cap : ℕ} {rules : Rules} {s : List ℕ} {at first : ℕ} {before out : List ℕ} {padding : ℕ} {r : Reader} (room : cap * width ≤ length before) (g : Laying cap rules s at first before out padding r) where
  front : length (sheet_of g.events) ≡ r.count * width
  front = sheet_length g.events ∙ ap (λ (k : ℕ). k * width) g.sofar.counted

  fits : 0 + length (sheet_of g.events) ≤ length before
  fits = omega (arith, front, g.sofar.within, room)

  pub laying_length : length out ≡ length before
  laying_length = ap length g.rows ∙ length_over (sheet_of g.events) before 0 fits

  -- the answer, where the step stops
  pub laid : {why : smf.Stop} → next_at rules cap s r ≡ stops why
      → record { cells = out; answer = gives (record { count = r.count; stop = why; place = r.place; running = r.running; padding = padding }) } ≡ read_sheet (list_at rules cap first s at) before
  laid e = rw (all g.sofar e, ← put_fits (sheet_of g.events) before 0 fits, g.sofar.counted, g.rows)

  module _ {own : Event Span} {more : ℕ} {r' : Reader} (e : next_at rules cap s r ≡ takes own more r') where
    pub laying_more : (end : List ℕ) → end ≡ over (event_row own) out (r.count * width) → Laying cap rules s at first before end (padding + more) r'
    laying_more end put =
        record {
          events = g.events ++ (own ∷ []);
          sofar = again g.sofar e;
          runs = next_runs rules cap s r e;
          rows =
              put
              ∙ ap (λ (l : List ℕ). over (event_row own) l (r.count * width)) g.rows
              ∙ sheet_over g.events own before r.count g.sofar.counted;
        }

-- what a step that was laid says of the step that the list takes
pub record LaidOn (n : smf.Next) (count : ℕ) (cells end : List ℕ) (padding : ℕ) (r : Reader) : Type 0 where
  pub event : Event Span
  pub is : n ≡ takes event padding r
  pub put : end ≡ over (event_row event) cells (count * width)

abbrev padded : Onward → ℕ → ℕ
padded (goes padding r) none = padding
padded (halts why) none = none

abbrev reader : Onward → Reader → Reader
reader (goes padding r) none = r
reader (halts why) none = none

abbrev why : Onward → smf.Stop → smf.Stop
why (goes padding r) none = none
why (halts w) none = w

abbrev which : Onward → ℕ
which (goes padding r) = 0
which (halts w) = 1

pub laid_on : (n : smf.Next) (count : ℕ) {cells end : List ℕ} {padding : ℕ} {r : Reader} → record { onward = goes padding r; cells = end } ≡ laid_next n count cells → LaidOn n count cells end padding r
laid_on (takes e more r') count {padding = padding} {r = r} q =
    record {
      event = e;
      is = ap (λ (l : LaidStep). takes e (padded l.onward padding) (reader l.onward r)) (sym q);
      put = ap (λ (l : LaidStep). l.cells) q;
    }
laid_on (stops w) count q = absurd (omega (arith, ap (λ (l : LaidStep). which l.onward) q))

pub record LaidStop (n : smf.Next) (cells end : List ℕ) (w : smf.Stop) : Type 0 where
  pub is : n ≡ stops w
  pub kept : end ≡ cells

pub laid_stop : (n : smf.Next) (count : ℕ) {cells end : List ℕ} {w : smf.Stop} → record { onward = halts w; cells = end } ≡ laid_next n count cells → LaidStop n cells end w
laid_stop (stops w') count {w = w} q =
    record {
      is = ap (λ (l : LaidStep). stops (why l.onward w)) (sym q);
      kept = ap (λ (l : LaidStep). l.cells) q;
    }
laid_stop (takes e padding r) count q = absurd (omega (arith, ap (λ (l : LaidStep). which l.onward) q))
