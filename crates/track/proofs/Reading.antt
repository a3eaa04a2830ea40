-- What a reader of lists keeps: the events and the padding so far, and that the list from the cursor on is what is left of the answer.
use mathlib.Core.Path.{◌≡◌, ap, subst, ◌∙◌}
use mathlib.Core.Bool.{true}
use mathlib.Core.List.{List, [], ◌∷◌, ◌++◌, append_assoc, append-nil}
use Prim.Native.Nat.{ℕ, ◌+◌, ◌≤◌}
use native.Mathlib.Nat.{zero-add, add-zero, add_assoc}
use native.Mathlib.Omega.{arith}
use lib.ListN.{length, drop, length-append, length-map}
use Rattle.smf.specs.Answer.{Rules}
use Rattle.smf.specs.Running.{is_running}
use Rattle.smf.specs.Place.{Span}
use Rattle.smf.specs.Event.{Event}
use Rattle.smf.specs.Lists as smf
use Rattle.smf.specs.Lists.{read_list, event_from, ListAt, list_at, Reader, next_at}
use Rattle.smf.proofs.Place.{Sited, site_begun}
use Rattle.smf.proofs.Lists.{list_read}
use Rattle.smf.proofs.Steps.{list_from, reader_at, Took, Stepped, list_from_lem, next_stepped}

-- events and their padding in front of those of a list
abbrev behind : List (Event Span) → ℕ → ListAt → ListAt
behind es padding l = record { events = es ++ l.events; stop = l.stop; place = l.place; running = l.running; padding = padding + l.padding }

-- these events were read, with so much padding, up to where the reader is
pub record Sofar (cap : ℕ) (rules : Rules) (s : List ℕ) (at first : ℕ) (es : List (Event Span)) (padding : ℕ) (r : Reader) : Type 0 where
  pub counted : length es ≡ r.count
  pub within : r.count ≤ cap
  pub site : Sited s at r.place
  pub padded : padding ≤ r.place
  pub sofar : list_at rules cap first s at ≡ behind es padding (list_from rules cap s at r)

module _ (cap : ℕ) (rules : Rules) (s : List ℕ) (at first : ℕ) where
  -- the list is of these events, with so much padding, and stopped where the reader is
  abbrev pub Answered : List (Event Span) → ℕ → smf.Stop → Reader → Type 0
  Answered es padding stop r = list_at rules cap first s at ≡ record { events = es; stop = stop; place = r.place; running = r.running; padding = padding }

  -- it has no more events than may be
  pub few : length (list_at rules cap first s at).events ≤ cap
  unfolding list_at
  few = omega (arith, (list_read rules cap first (drop at s)).count, length-map (read_list rules cap first (drop at s)).events (event_from s at))

  pub begun : is_running first ≡ true → Sofar cap rules s at first [] 0 (reader_at at first)
  begun v =
      record {
        counted = omega arith;
        within = omega arith;
        site = site_begun s at;
        padded = omega arith;
        sofar = list_from_lem rules cap s at first v ∙ rw zero-add;
      }

module _ {cap : ℕ} {rules : Rules} {s : List ℕ} {at first : ℕ} {es : List (Event Span)} {padding : ℕ} {r : Reader} (h : Sofar cap rules s at first es padding r) where
  -- the list has at least the events so far
  pub among : r.count ≤ length (list_at rules cap first s at).events
  among = omega (arith, h.counted, ap (λ (l : ListAt). length l.events) h.sofar, length-append es (list_from rules cap s at r).events)

  stepped : Stepped rules cap s at r (next_at rules cap s r)
  stepped = next_stepped rules cap s at r h.site

  -- where the step stops, the events so far are all
  pub all : {why : smf.Stop} → next_at rules cap s r ≡ smf.stops why → Answered cap rules s at first es padding why r
  all {why} e =
      let q : Stepped rules cap s at r (smf.stops why) = subst (Stepped rules cap s at r) e stepped in
      h.sofar ∙ ap (behind es padding) q ∙ rw (append-nil es, add-zero)

  module _ {own : Event Span} {more : ℕ} {r' : Reader} (e : next_at rules cap s r ≡ smf.takes own more r') where
    pub took : Took rules cap s at r own more r'
    took = subst (Stepped rules cap s at r) e stepped

    -- where it takes an event, that is one more
    pub again : Sofar cap rules s at first (es ++ (own ∷ [])) (padding + more) r'
    again =
        record {
          counted = length-append es (own ∷ []) ∙ omega (arith, h.counted, took.counted);
          within = omega (arith, took.room, took.counted);
          site = took.site;
          padded = omega (arith, h.padded, took.padded);
          sofar = h.sofar ∙ ap (behind es padding) took.list ∙ rw (append_assoc es (own ∷ []) (list_from rules cap s at r').events, add_assoc);
        }
