-- How many bytes a sound raw form has, and the running status after it.
use mathlib.Core.Path.{◌≡◌, refl, ap, ◌∙◌}
use mathlib.Core.Bool.{Bool, true, false}
use mathlib.Core.List.{List}
use Prim.Native.Nat.{ℕ, ◌+◌, ◌^◌, ◌≤◌}
use native.Mathlib.Omega.{arith}
use lib.ListN.{length, length-append}
use lib.Dec.{eqb, leb}
use borrow.Author.Tests.{leb-true}
use Rattle.smf.specs.Answer.{pick}
use Rattle.smf.specs.Number.{encode_number}
use Rattle.smf.specs.Wire.{raw_event, encode_raw, encode_raw_event, running_after}
use Rattle.smf.proofs.Answer.{pick_both, both}
use Rattle.smf.proofs.Number.{encode_most}
use Rattle.meta.specs.Meta.{span_of}
use Rattle.write.specs.Raw.{status_bytes, data_bytes, wire_of, is_sound, raw_length, raw_after, Short}
use Rattle.write.specs.Size.{size, raw_size}
use Rattle.write.specs.declared.raw.Raw.{Raw}
use Rattle.write.specs.declared.raw.Raw.TheVariants as raw
use Rattle.write.proofs.Payloads.{lent_inside, load_length_lem, own_length}
use Rattle.write.proofs.Channels.{channel_wire, channel_after, data_length_lem}

module _ (bytes : List ℕ) where
  pub sound_short : (r : Raw) → is_sound bytes r ≡ true → Short r
  unfolding is_sound Short
  sound_short (raw.Channel c) e = tt
  sound_short (raw.System status load) e = (lent_inside bytes (span_of load) e).short
  sound_short (raw.Typed t load) e = (lent_inside bytes (span_of load) e).short
  sound_short (raw.Fixed t own) e = omega (arith, leb-true own.n 5 (both (leb own.n 5) (leb own.n (length own.bytes)) e).0)

  module _ (running : ℕ) where
    pub raw_length_lem : (r : Raw) → is_sound bytes r ≡ true → length (encode_raw running (wire_of bytes r)) ≡ raw_length running r
    unfolding is_sound raw_length wire_of encode_raw
    raw_length_lem (raw.Channel c) e = ap length (channel_wire running c) ∙ length-append (status_bytes running c.status) (data_bytes c) ∙ rw (data_length_lem running c)
    raw_length_lem (raw.System status load) e = omega (arith, load_length_lem bytes (span_of load) (lent_inside bytes (span_of load) e))
    raw_length_lem (raw.Typed t load) e = omega (arith, load_length_lem bytes (span_of load) (lent_inside bytes (span_of load) e))
    raw_length_lem (raw.Fixed t own) e = omega (arith, own_length own (leb-true own.n (length own.bytes) (both (leb own.n 5) (leb own.n (length own.bytes)) e).1))

    pub raw_after_lem : (r : Raw) → running_after (wire_of bytes r) ≡ raw_after r
    unfolding wire_of raw_after
    raw_after_lem (raw.Channel c) = channel_after running c
    raw_after_lem (raw.System status load) = refl
    raw_after_lem (raw.Typed t load) = refl
    raw_after_lem (raw.Fixed t own) = refl

    pub raw_size_lem : (delta : ℕ) (r : Raw) → is_sound bytes r ≡ true
        → size (length (encode_number delta) + raw_length running r) (raw_after r) ≡ raw_size running (raw_event delta (wire_of bytes r))
    unfolding encode_raw_event
    raw_size_lem delta r e = rw (raw_after_lem r, length-append (encode_number delta) (encode_raw running (wire_of bytes r)), raw_length_lem r e)

-- one status byte, or none
status_few : (running status : ℕ) → length (status_bytes running status) ≤ 1
status_few running status = pick_both (λ (l : List ℕ). length l ≤ 1) (eqb running status) (omega arith) (omega arith)

data_few : (pair : Bool) → pick pair 2 1 ≤ 2
data_few true = omega arith
data_few false = omega arith

-- and not many bytes
pub raw_few : (running : ℕ) → (r : Raw) → Short r → raw_length running r ≤ 2 ^ 28 + 6
unfolding Short raw_length
raw_few running (raw.Channel c) s = omega (arith, status_few running c.status, data_few c.pair)
raw_few running (raw.System status load) s = omega (arith, encode_most load.length)
raw_few running (raw.Typed t load) s = omega (arith, encode_most load.length)
raw_few running (raw.Fixed t own) s = omega (arith, encode_most own.n)
