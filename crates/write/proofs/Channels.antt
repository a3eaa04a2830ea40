-- A channel message's bytes are its status, unless that is the running status, and its data.
use mathlib.Core.Path.{◌≡◌}
use mathlib.Core.List.{◌++◌}
use Prim.Native.Nat.{ℕ}
use lib.Dec.{eqb}
use lib.ListN.{length}
use Rattle.smf.specs.Answer.{pick}
use Rattle.smf.specs.Wire.{encode_raw, running_after}
use Rattle.smf.proofs.Answer.{by_test}
use Rattle.write.specs.Raw.{channel_raw, status_bytes, data_bytes}
use Rattle.write.specs.declared.raw.Channel.{Channel}

module _ (running : ℕ) (c : Channel) where
  pub channel_wire : encode_raw running (channel_raw c) ≡ status_bytes running c.status ++ data_bytes c
  unfolding encode_raw
  channel_wire =
      by_test c.pair
      (λ p. rw p (by_test (eqb running c.status) (λ e. rw e) (λ e. rw e)))
      (λ p. rw p (by_test (eqb running c.status) (λ e. rw e) (λ e. rw e)))

  pub channel_after : running_after (channel_raw c) ≡ c.status
  channel_after = by_test c.pair (λ p. rw p) (λ p. rw p)

  pub data_length_lem : length (data_bytes c) ≡ pick c.pair 2 1
  data_length_lem = by_test c.pair (λ p. rw p) (λ p. rw p)
