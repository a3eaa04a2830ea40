-- What is told of a bank that was read: its ranges, as the code holds them and as cells, are those of its tracks.
use Rattle.std.specs.Prelude.{Result, Ok, Err}
use mathlib.Core.Path.{◌≡◌, refl, sym, ap, ◌∙◌}
use mathlib.Core.List.{List, [], ◌∷◌, ◌++◌, append_assoc}
use Prim.Native.Nat.{ℕ, ◌+◌, ◌-◌, ◌*◌, ◌≤◌, ◌<◌}
use native.Mathlib.Omega.{arith}
use lib.ListN.{length, take, get_or, replicate, length-append, length-replicate}
use lib.Seq.{take-append_seam, get_or-append_seam, get_or-append-add, get_or-take}
use Rattle.smf.specs.Answer.{Answer, gives, refuses}
use Rattle.base.specs.Refusal.{number_of}
use Rattle.base.specs.declared.Refusal.{Refusal}
use Rattle.smf.specs.Place.{Span}
use Rattle.smf.specs.Event.{no_span}
use Rattle.smf.specs.Write.{Written}
use Rattle.smf.proofs.Answer.{by_answer}
use Rattle.loader.specs.Entry as entry
use Rattle.loader.specs.Entry.{answered}
use Rattle.bank.specs.Bank.{most_tracks, bank_length, IsBank}
use Rattle.bank.specs.Read.{ranges, read_bank, track_at}
use Rattle.bank.specs.Write.{tracks_of, write_bank}
use Rattle.bank.specs.Answers.{BankAnswer, held_tracks, spans_of, bank_answer}
use Rattle.bank.specs.Entries.{cells_of, range_in, ranges_in}
use Rattle.claims.specs.Handed.{ReadBank, verdict_of}
use Rattle.claims.proofs.Handed.{bank_shown, verdict_of_injective}
use Rattle.bank.proofs.Encoded.{bank_length_lem}
use Rattle.bank.proofs.OneForm.{read_few, read_inside}
use Rattle.claims.specs.Table.{of_bank}
use Rattle.claims.proofs.Player.{never_nought}
use Rattle.claims.specs.Point3.{Bytes}
use Rattle.claims.proofs.BankRefusals.{bank_by}
use Rattle.bank.proofs.Tracks.{track_there, track_none}
use Rattle.claims.proofs.BankForms.{one_form}
use Rattle.claims.proofs.BankWrites.{accepts, leaves}

-- cells are read as the ranges that they are of
ranges_back : (spans : List Span) (cells front : List ℕ) (i : ℕ) → cells ≡ front ++ cells_of spans → length front ≡ 2 * i → ranges (range_in cells) i (length spans) ≡ spans
unfolding cells_of range_in ranges
ranges_back [] cells front i e h = refl
ranges_back (span ∷ spans) cells front i e h =
    let rest : List ℕ = span.start ∷ span.length ∷ cells_of spans in
    let start : get_or cells (2 * i) 0 ≡ span.start = rw (e, ← h) (get_or-append_seam front span.start (span.length ∷ cells_of spans) 0) in
    let long : get_or cells (2 * i + 1) 0 ≡ span.length = rw (e, ← h) (get_or-append-add front rest 1 0) in
    let next : cells ≡ (front ++ (span.start ∷ span.length ∷ [])) ++ cells_of spans = e ∙ simp append_assoc in
    rw (start, long)
    (ap (λ (more : List Span). span ∷ more)
    (ranges_back spans cells (front ++ (span.start ∷ span.length ∷ [])) (i + 1) next (rw length-append (omega arith))))

pub cells_back : (most : ℕ) (spans : List Span) → length spans ≡ most → ranges_in most (cells_of spans) ≡ spans
cells_back most spans e = rw (← e) (ranges_back spans (cells_of spans) [] 0 refl refl)

-- the ranges of a bank's tracks stand first among those that are held, which are as many as a bank may have
module _ (most : ℕ) (spans : List Span) where
  pub held_first : take (length spans) (held_tracks most spans).tracks ≡ spans
  unfolding held_tracks
  held_first = take-append_seam spans (replicate (most - length spans) no_span)

  pub held_length : length spans ≤ most → length (held_tracks most spans).tracks ≡ most
  unfolding held_tracks
  held_length few = rw (length-append, length-replicate) (omega arith)

-- a block was read as a bank: so many of these ranges are those of its tracks
pub record Given (block : List ℕ) (held : List Span) (count : ℕ) : Type 0 where
  pub read : read_bank most_tracks block ≡ gives (take count held)
  pub counted : count ≡ length (take count held)

held_given : (block : List ℕ) (spans held : List Span) (count : ℕ) → read_bank most_tracks block ≡ gives spans → held ≡ (held_tracks most_tracks spans).tracks → count ≡ length spans
    → Given block held count
held_given block spans held count e h c =
    let same : take count held ≡ spans = rw (h, c) (held_first most_tracks spans) in
    record { read = rw same e; counted = rw same c }

-- the tracks of a bank are those that it was made of
pub given_tracks : (block : List ℕ) (held : List Span) (count : ℕ) → Given block held count → (tracks : List (List ℕ)) → (spans : List Span)
    → read_bank most_tracks block ≡ gives spans → tracks_of block spans ≡ tracks → tracks_of block (take count held) ≡ tracks
given_tracks block held count g tracks spans e is = let same : take count held ≡ spans = cc (g.read, e) in ap (tracks_of block) same ∙ is

-- of `read_bank`
module _ (block : List ℕ) (r : ReadBank) (told : bank_shown r ≡ bank_answer most_tracks (read_bank most_tracks block)) where
  -- where it is a bank
  pub read_accepts : (spans : List Span) → read_bank most_tracks block ≡ gives spans → (r.verdict ≡ Ok tt) × Given block (spans_of r.bank.tracks) r.bank.count
  unfolding bank_answer held_tracks
  read_accepts spans e =
      let t = rw e at told in (
        verdict_of_injective (ap (λ (b : BankAnswer). b.verdict) t),
        held_given block spans _ _ e (ap (λ (b : BankAnswer). b.bank.tracks) t) (ap (λ (b : BankAnswer). b.bank.count) t),
      )

  pub read_refuses : (n : ℕ) → read_bank most_tracks block ≡ refuses n → verdict_of r.verdict ≡ refuses n
  unfolding bank_answer
  read_refuses n e = let t = rw e at told in ap (λ (b : BankAnswer). b.verdict) t

  given_of : (asked : Answer (List Span)) → read_bank most_tracks block ≡ asked → r.verdict ≡ Ok tt → Given block (spans_of r.bank.tracks) r.bank.count
  given_of (gives spans) e ok = (read_accepts spans e).1
  given_of (refuses n) e ok =
      let said : gives (tt {0}) ≡ refuses n = rw ok at (read_refuses n e) in
      let z : ◌≡◌ {A = ℕ} 0 1 = cc in
      absurd (omega arith)

  refused_of : (asked : Answer (List Span)) → read_bank most_tracks block ≡ asked → (n : Refusal) → r.verdict ≡ Err n → read_bank most_tracks block ≡ refuses (number_of n)
  refused_of (gives spans) e n not =
      let said : ◌≡◌ {A = Result (Unit {0}) Refusal} (Err n) (Ok tt) = rw not at (read_accepts spans e).0 in
      let z : ◌≡◌ {A = ℕ} 0 1 = cc in
      absurd (omega arith)
  refused_of (refuses m) e n not =
      let said : ◌≡◌ {A = Answer (Unit {0})} (refuses (number_of n)) (refuses m) = rw not at (read_refuses m e) in
      let same : number_of n ≡ m = cc in
      e ∙ ap refuses (sym same)

  -- where it was accepted
  pub read_given : r.verdict ≡ Ok tt → Given block (spans_of r.bank.tracks) r.bank.count
  read_given ok =
      given_of (read_bank most_tracks block) refl ok

  -- where it was refused
  pub bank_no : (n : Refusal) → r.verdict ≡ Err n → read_bank most_tracks block ≡ refuses (number_of n)
  bank_no n not = refused_of (read_bank most_tracks block) refl n not

-- of `apk_bank_read`
module _ (block cells : List ℕ) (count : ℕ) {r : ℕ} {cells' : List ℕ} {count' : ℕ}
    (told : (r ≡ answered (read_bank most_tracks block)) × ((cells' ≡ entry.leaves (λ (tracks : List Span). cells_of (held_tracks most_tracks tracks).tracks) (read_bank most_tracks block) cells)
    × (count' ≡ entry.leaves (λ (tracks : List Span). length tracks) (read_bank most_tracks block) count))) where
  pub entry_accepts : (spans : List Span) → read_bank most_tracks block ≡ gives spans → (r ≡ 0) × Given block (ranges_in most_tracks cells') count'
  entry_accepts spans e =
      let t = rw e at told in
      let held = held_length most_tracks spans (read_few most_tracks block e) in
      (t.0, held_given block spans _ _ e (rw t.1.0 (cells_back most_tracks (held_tracks most_tracks spans).tracks held)) t.1.1)

  pub entry_refuses : (n : ℕ) → read_bank most_tracks block ≡ refuses n → r ≡ n
  entry_refuses n e = let t = rw e at told in t.0

  pub entry_given : r ≡ 0 → Given block (ranges_in most_tracks cells') count'
  entry_given z =
      by_answer (read_bank most_tracks block) (λ spans e. (entry_accepts spans e).1)
      (λ n e. absurd (never_nought of_bank (read_bank most_tracks block) n (bank_by most_tracks block) e (sym (entry_refuses n e) ∙ z)))

  pub entry_refused : (r ≡ 0 → ⊥) → read_bank most_tracks block ≡ refuses r
  entry_refused never =
      by_answer (read_bank most_tracks block) (λ spans e. absurd (never (entry_accepts spans e).0))
      (λ n e. e ∙ ap refuses (sym (entry_refuses n e)))

-- a bank that was read: its form, its tracks by their index, and what is written of its ranges
module _ (block : List ℕ) (held : List Span) (count : ℕ) (g : Given block held count) where
  pub given_form : Bytes block → IsBank most_tracks block (tracks_of block (take count held))
  given_form bytes = one_form most_tracks block (take count held) bytes g.read

  pub given_there : (index : ℕ) → index < count → track_at most_tracks block index ≡ gives (get_or held index no_span)
  given_there index h =
      track_there most_tracks block index (take count held) g.read (omega (arith, g.counted)) ∙ ap gives (get_or-take count held index no_span h)

  pub given_none : (index : ℕ) → count ≤ index → track_at most_tracks block index ≡ refuses 34
  given_none index h = track_none most_tracks block index (take count held) g.read (omega (arith, g.counted))

  pub given_writes : Bytes block → (out : List ℕ) → length block ≤ length out
      → ((write_bank most_tracks block held count out).answer ≡ gives (length block))
      × (take (length block) (write_bank most_tracks block held count out).buffer ≡ block)
  given_writes bytes out room =
      let form = given_form bytes in
      let is = form.bytes in
      let tracks : List (List ℕ) = tracks_of block (take count held) in
      let size : bank_length (tracks_of block (take count held)) ≡ length block = sym (bank_length_lem tracks) ∙ ap length (sym is) in
      let small = form.small in
      let w = accepts most_tracks block held count out (record {
        few = omega (arith, g.counted, read_few most_tracks block g.read);
        inner = read_inside most_tracks block g.read;
        small = omega arith;
        fits = omega arith;
      }) in
      let answer = ap (λ (w : Written). w.answer) w in
      let l = leaves most_tracks block held count out (bank_length tracks) answer in
      (answer ∙ ap gives size, ap (λ (n : ℕ). take n (write_bank most_tracks block held count out).buffer) (sym size) ∙ l.written.bytes ∙ sym is)
