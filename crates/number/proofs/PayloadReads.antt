-- What a payload's reader answers, by what the reader of its number answered.
use Rattle.std.specs.Prelude.{Err, Ok, Result}
use mathlib.Core.Path.{◌≡◌, sym, ap, ◌∙◌}
use mathlib.Core.Bool.{true, false}
use mathlib.Core.List.{List}
use Prim.Native.Nat.{ℕ, ◌-◌, ◌≤◌, ◌<◌}
use native.Mathlib.Omega.{arith}
use lib.ListN.{length}
use Rattle.smf.specs.Answer.{gives, refuses, Rules}
use Rattle.smf.specs.Place.{number_at, payload_at}
use Rattle.smf.proofs.Place.{payload_refused, payload_whole, payload_cut_strict, payload_cut_lenient}
use Rattle.base.specs.Refusal.{number_of}
use Rattle.number.specs.Varlen.{number_read_of}
use Rattle.base.specs.declared.Refusal.{Refusal}
use Rattle.number.specs.declared.varlen.NumberAt.{NumberAt}

module _ (rules : Rules) (s : List ℕ) (at : ℕ) {r : Result NumberAt Refusal} (read : number_read_of r ≡ number_at rules s at) where
  pub slice_refused : {n : Refusal} → r ≡ Err n → refuses (number_of n) ≡ payload_at rules s at
  slice_refused e = sym (payload_refused rules s at (sym read ∙ ap number_read_of e))

  module _ {n : NumberAt} (e : r ≡ Ok n) where
    pub slice_whole : {left : ℕ} → left ≡ length s - n.next → n.value.0 ≤ left → gives (record { span = record { start = n.next; length = n.value.0 }; padding = n.padding }) ≡ payload_at rules s at
    slice_whole count h = sym (payload_whole rules s at _ (sym read ∙ ap number_read_of e) (omega arith))

    -- what is left there, as it was counted
    module _ {left : ℕ} (count : left ≡ length s - n.next) (h : left < n.value.0) where
      pub slice_cut_strict : rules.strict ≡ true → refuses 11 ≡ payload_at rules s at
      slice_cut_strict t = sym (payload_cut_strict rules s at _ (sym read ∙ ap number_read_of e) (omega arith) t)

      pub slice_cut_lenient : rules.strict ≡ false → gives (record { span = record { start = n.next; length = left }; padding = n.padding }) ≡ payload_at rules s at
      slice_cut_lenient t = sym (payload_cut_lenient rules s at _ (sym read ∙ ap number_read_of e) (omega arith) t ∙ rw count)
