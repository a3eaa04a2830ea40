-- No refusal's number is 0, which says that something was accepted.
use mathlib.Core.Path.{◌≡◌, refl, sym}
use mathlib.Core.Bool.{false, true≢false}
use lib.Dec.{eqb}
use borrow.Author.Tests.{eq-eqb}
use Rattle.base.specs.Refusal.{number_of}
use Rattle.base.specs.declared.Refusal.{Refusal}
use Rattle.base.specs.declared.Refusal.TheVariants as refusal

not_nought : (n : Refusal) → eqb (number_of n) 0 ≡ false
not_nought refusal.RunningStatus = refl
not_nought refusal.NumberCutOff = refl
not_nought refusal.NumberContinues = refl
not_nought refusal.NoStatus = refl
not_nought refusal.NoRunningStatus = refl
not_nought refusal.SystemCommon = refl
not_nought refusal.SystemRealtime = refl
not_nought refusal.ChannelDataShort = refl
not_nought refusal.ChannelDataTopBit = refl
not_nought refusal.NoMetaType = refl
not_nought refusal.PayloadCutOff = refl
not_nought refusal.ChannelOrPort = refl
not_nought refusal.SmpteTime = refl
not_nought refusal.KeySignatureShort = refl
not_nought refusal.NoSuchFormat = refl
not_nought refusal.NoSuchRate = refl
not_nought refusal.HeaderFieldShort = refl
not_nought refusal.AboveWidth = refl
not_nought refusal.PayloadOutside = refl
not_nought refusal.NoRoom = refl
not_nought refusal.TooManyEvents = refl
not_nought refusal.PayloadTooLong = refl
not_nought refusal.UnknownNamed = refl
not_nought refusal.BankShort = refl
not_nought refusal.TooManyTracks = refl
not_nought refusal.BankDisagrees = refl
not_nought refusal.NoSuchTrack = refl

pub never_nought : (n : Refusal) → number_of n ≡ 0 → ⊥
never_nought n h = true≢false (rw (not_nought n) at (sym (eq-eqb (number_of n) 0 h)))
