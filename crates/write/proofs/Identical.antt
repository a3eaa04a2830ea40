-- No two answers of one function say the same, so that its promise permits one answer alone, and one buffer.
use Rattle.write.specs.declared.answer.WriteRefused.{WriteRefused}
use Rattle.write.specs.declared.answer.Size.{Size}
use Rattle.write.specs.declared.answer.Past.{Past}
use Rattle.write.specs.declared.answer.ListRefused.{ListRefused}
use Rattle.std.specs.Prelude.{Err, Ok, Result}
use mathlib.Core.Path.{◌≡◌, refl, ap}
use mathlib.Core.List.{List}
use Prim.Native.Nat.{ℕ}
use Rattle.smf.specs.Answer.{Answer, gives, refuses}
use Rattle.smf.specs.Event.{EventWritten}
use Rattle.smf.specs.Lists as smf
use Rattle.smf.proofs.Answer.{injective}
use Rattle.base.specs.declared.Refusal.{Refusal}
use Rattle.base.proofs.RefusalNumbers.{refusal_of, number_back}
use Rattle.write.specs.Size as sizes
use Rattle.base.proofs.Said.{said_injective}
use Rattle.write.specs.Size.{length_said, size_of}
use Rattle.write.specs.Wrote.{wrote_event}
use Rattle.write.specs.ListAnswers.{size_said, wrote_list}

-- one event's length
pub length_said_injective : {x y : Result Size Refusal} → length_said x ≡ length_said y → x ≡ y
length_said_injective = said_injective size_of (λ (s : sizes.Size). record { length = s.length; running = record { status = s.running } }) (λ s. refl)

-- one event, written
back_wrote : Answer ℕ → ℕ → Result Past WriteRefused
back_wrote (gives next) running = Ok (record { next = next; running = record { status = running } })
back_wrote (refuses n) running = Err (record { refusal = refusal_of n; running = record { status = running } })

same_wrote : (r : Result Past WriteRefused) (b : List ℕ) → back_wrote (wrote_event r b).written.answer (wrote_event r b).running ≡ r
unfolding back_wrote
same_wrote (Ok p) b = refl
same_wrote (Err n) b = ap (λ (x : Refusal). Err (record { refusal = x; running = n.running })) (number_back n.refusal)

kept_wrote : (r : Result Past WriteRefused) (b : List ℕ) → (wrote_event r b).written.buffer ≡ b
kept_wrote (Ok p) b = refl
kept_wrote (Err n) b = refl

pub wrote_event_injective : {x y : Result Past WriteRefused} {b d : List ℕ} → wrote_event x b ≡ wrote_event y d → (x ≡ y) × (b ≡ d)
wrote_event_injective {x} {y} {b} {d} e =
    let wrote = ap (λ (w : EventWritten). back_wrote w.written.answer w.running) e in
    let buffer = ap (λ (w : EventWritten). w.written.buffer) e in
    let sx = same_wrote x b in
    let sy = same_wrote y d in
    let kx = kept_wrote x b in
    let ky = kept_wrote y d in
    (cc, cc)

-- a list's length
back_size : smf.ListAnswer → ℕ → Result Size ListRefused
back_size (smf.wrote n) running = Ok (record { length = n; running = record { status = running } })
back_size (smf.refuses_at n i) running = Err (record { refusal = refusal_of n; index = i; running = record { status = running } })

back_sized : smf.ListSize → Result Size ListRefused
back_sized s = back_size s.answer s.running

same_size : (r : Result Size ListRefused) → back_sized (size_said r) ≡ r
unfolding back_sized back_size
same_size (Ok s) = refl
same_size (Err n) = ap (λ (x : Refusal). Err (record { refusal = x; index = n.index; running = n.running })) (number_back n.refusal)

pub size_said_injective : {x y : Result Size ListRefused} → size_said x ≡ size_said y → x ≡ y
size_said_injective = injective size_said back_sized same_size

-- a list, written
same_list_lem : (r : Result Size ListRefused) (b : List ℕ) → back_size (wrote_list r b).answer (wrote_list r b).running ≡ r
unfolding back_size
same_list_lem (Ok s) b = refl
same_list_lem (Err n) b = ap (λ (x : Refusal). Err (record { refusal = x; index = n.index; running = n.running })) (number_back n.refusal)

kept_list : (r : Result Size ListRefused) (b : List ℕ) → (wrote_list r b).buffer ≡ b
kept_list (Ok s) b = refl
kept_list (Err n) b = refl

pub wrote_list_injective : {x y : Result Size ListRefused} {b d : List ℕ} → wrote_list x b ≡ wrote_list y d → (x ≡ y) × (b ≡ d)
wrote_list_injective {x} {y} {b} {d} e =
    let wrote = ap (λ (w : smf.ListWritten). back_size w.answer w.running) e in
    let buffer = ap (λ (w : smf.ListWritten). w.buffer) e in
    let sx = same_list_lem x b in
    let sy = same_list_lem y d in
    let kx = kept_list x b in
    let ky = kept_list y d in
    (cc, cc)
