-- What the entries that write leave is what the definitions do: an entry's plain numbers, read as the definition's answer, are that answer.
use mathlib.Core.Path.{◌≡◌, refl, subst}
use mathlib.Core.List.{List}
use Prim.Native.Nat.{ℕ}
use Rattle.smf.specs.Answer.{Answer, gives, refuses, Rules}
use Rattle.smf.specs.Event.{Event, EventWritten, write_event}
use Rattle.smf.specs.Lists.{ListAnswer, wrote, refuses_at, ListSize, size_list, ListWritten, write_list}
use Rattle.track.specs.List.{capacity}
use Rattle.rows.specs.RowEvent.{row_judged}
use Rattle.rows.specs.RowLists.{rows_judged}
use Rattle.loader.specs.Entry.{answered, leaves}
use Rattle.loader_track.specs.Lists.{number_answered, length_left, index_left}
use Rattle.claims.specs.Table.{By, of_writing, of_list_length, of_list_writing}
use Rattle.claims.specs.Leaves.{EventLeaves, SizeLeaves, ListLeaves}
use Rattle.claims.specs.EntrySays.{Outcome, AnswersBy, said, said_list}
use Rattle.claims.proofs.Refusals.{row_by}
use Rattle.claims.proofs.EventWrites.{event_leaves}
use Rattle.claims.proofs.ListLeaves.{rows_by, size_leaves, list_leaves_lem}
use Rattle.claims.proofs.EntrySays.{answers, ListBy, list_kept, event_itself, size_itself, list_left_itself}

module _ (rules : Rules) (running : ℕ) (payload : List ℕ) where
  module _ (row out : List ℕ) (at next : ℕ) where
    abbrev pub judged : Answer (Event (List ℕ))
    judged = row_judged rules payload row

    abbrev pub written : EventWritten
    written = write_event running judged out at

    says : EventLeaves running at out written written.written.answer
    says = event_leaves running judged (row_by rules payload row) out at

    by : By of_writing written.written.answer
    by = of written.written.answer says where
      of : (x : Answer ℕ) → EventLeaves running at out written x → By of_writing x
      of (gives n) l = tt
      of (refuses n) l = l.number

    -- what `apk_event_write` promises
    abbrev pub EventPut : ℕ → List ℕ → ℕ → ℕ → Type 0
    EventPut r out' next' after' =
        (r ≡ answered written.written.answer) × ((out' ≡ written.written.buffer) × ((next' ≡ leaves (λ (n : ℕ). n) written.written.answer next) × (after' ≡ written.running)))

    pub event_put : {r next' after' : ℕ} {out' : List ℕ} → EventPut r out' next' after' → written ≡ record { written = record { buffer = out'; answer = said r next' }; running = after' }
    event_put told = event_itself of_writing written next by told

    pub event_write : {r next' after' : ℕ} {out' : List ℕ} → EventPut r out' next' after'
        → AnswersBy of_writing r (next' ≡ next) × EventLeaves running at out (record { written = record { buffer = out'; answer = said r next' }; running = after' }) (said r next')
    event_write told = (
      rw (told.0, told.1.1.0) (answers of_writing written.written.answer (λ x. leaves (λ (n : ℕ). n) x next ≡ next) by (λ n. refl)),
      subst (λ (x : EventWritten). EventLeaves running at out x x.written.answer) (event_put told) says,
    )

  module _ (rows : List ℕ) (count long index : ℕ) where
    abbrev pub all : List (Answer (Event (List ℕ)))
    all = rows_judged rules payload count rows

    abbrev size : ListSize
    size = size_list capacity running all count

    size_says : SizeLeaves all count running size size.answer
    size_says = size_leaves all (rows_by rules payload count rows) count capacity running

    size_by : ListBy of_list_length size.answer
    size_by = of size.answer size_says where
      of : (x : ListAnswer) → SizeLeaves all count running size x → ListBy of_list_length x
      of (wrote n) l = tt
      of (refuses_at n i) l = l.0.number

    pub list_length : {r long' after' index' : ℕ}
        → (r ≡ number_answered size.answer) × ((long' ≡ length_left size.answer long) × ((after' ≡ size.running) × (index' ≡ index_left size.answer index)))
        → Outcome of_list_length r (index' ≡ index) (long' ≡ long) × SizeLeaves all count running (record { answer = said_list r long' index'; running = after' }) (said_list r long' index')
    list_length told = (
      rw (told.0, told.1.0, told.1.1.1) (list_kept of_list_length size.answer long index size_by),
      subst (λ (x : ListSize). SizeLeaves all count running x x.answer) (size_itself of_list_length size long index size_by told) size_says,
    )

    module _ (out : List ℕ) where
      abbrev pub put : ListWritten
      put = write_list capacity running all count out

      list_says : ListLeaves all count running out put put.answer
      list_says = list_leaves_lem all (rows_by rules payload count rows) count capacity running out

      list_by : ListBy of_list_writing put.answer
      list_by = of put.answer list_says where
        of : (x : ListAnswer) → ListLeaves all count running out put x → ListBy of_list_writing x
        of (wrote n) l = tt
        of (refuses_at n i) l = l.0.number

      -- what `apk_list_write` promises
      abbrev pub ListPut : ℕ → List ℕ → ℕ → ℕ → ℕ → Type 0
      ListPut r out' long' after' index' =
          (r ≡ number_answered put.answer) × ((out' ≡ put.buffer) × ((long' ≡ length_left put.answer long) × ((after' ≡ put.running) × (index' ≡ index_left put.answer index))))

      pub list_put : {r long' after' index' : ℕ} {out' : List ℕ} → ListPut r out' long' after' index' → put ≡ record { buffer = out'; answer = said_list r long' index'; running = after' }
      list_put told = list_left_itself of_list_writing put long index list_by told

      pub list_write : {r long' after' index' : ℕ} {out' : List ℕ} → ListPut r out' long' after' index'
          → Outcome of_list_writing r (index' ≡ index) (long' ≡ long) × ListLeaves all count running out (record { buffer = out'; answer = said_list r long' index'; running = after' }) (said_list r long' index')
      list_write told = (
        rw (told.0, told.1.1.0, told.1.1.1.1) (list_kept of_list_writing put.answer long index list_by),
        subst (λ (x : ListWritten). ListLeaves all count running out x x.answer) (list_put told) list_says,
      )
