-- No two refusals have one number: a table gives the refusal back.
use mathlib.Core.Path.{◌≡◌, refl}
use mathlib.Core.List.{List, [], ◌∷◌}
use Prim.Native.Nat.{ℕ}
use lib.ListN.{get_or}
use Rattle.smf.proofs.Answer.{injective}
use Rattle.base.specs.Refusal.{number_of}
use Rattle.base.specs.declared.Refusal.{Refusal}
use Rattle.base.specs.declared.Refusal.TheVariants as refusal

-- by number, from 0, which is none's, as 27 to 33 are
table : List Refusal
table =
    refusal.RunningStatus
    ∷ refusal.RunningStatus
    ∷ refusal.NumberCutOff
    ∷ refusal.NumberContinues
    ∷ refusal.NoStatus
    ∷ refusal.NoRunningStatus
    ∷ refusal.SystemCommon
    ∷ refusal.SystemRealtime
    ∷ refusal.ChannelDataShort
    ∷ refusal.ChannelDataTopBit
    ∷ refusal.NoMetaType
    ∷ refusal.PayloadCutOff
    ∷ refusal.ChannelOrPort
    ∷ refusal.SmpteTime
    ∷ refusal.KeySignatureShort
    ∷ refusal.NoSuchFormat
    ∷ refusal.NoSuchRate
    ∷ refusal.HeaderFieldShort
    ∷ refusal.AboveWidth
    ∷ refusal.PayloadOutside
    ∷ refusal.NoRoom
    ∷ refusal.TooManyEvents
    ∷ refusal.PayloadTooLong
    ∷ refusal.UnknownNamed
    ∷ refusal.BankShort
    ∷ refusal.TooManyTracks
    ∷ refusal.BankDisagrees
    ∷ refusal.RunningStatus
    ∷ refusal.RunningStatus
    ∷ refusal.RunningStatus
    ∷ refusal.RunningStatus
    ∷ refusal.RunningStatus
    ∷ refusal.RunningStatus
    ∷ refusal.RunningStatus
    ∷ refusal.NoSuchTrack
    ∷ []

pub refusal_of : ℕ → Refusal
refusal_of n = get_or table n refusal.RunningStatus

pub number_back : (x : Refusal) → refusal_of (number_of x) ≡ x
unfolding refusal_of table
number_back refusal.RunningStatus = refl
number_back refusal.NumberCutOff = refl
number_back refusal.NumberContinues = refl
number_back refusal.NoStatus = refl
number_back refusal.NoRunningStatus = refl
number_back refusal.SystemCommon = refl
number_back refusal.SystemRealtime = refl
number_back refusal.ChannelDataShort = refl
number_back refusal.ChannelDataTopBit = refl
number_back refusal.NoMetaType = refl
number_back refusal.PayloadCutOff = refl
number_back refusal.ChannelOrPort = refl
number_back refusal.SmpteTime = refl
number_back refusal.KeySignatureShort = refl
number_back refusal.NoSuchFormat = refl
number_back refusal.NoSuchRate = refl
number_back refusal.HeaderFieldShort = refl
number_back refusal.AboveWidth = refl
number_back refusal.PayloadOutside = refl
number_back refusal.NoRoom = refl
number_back refusal.TooManyEvents = refl
number_back refusal.PayloadTooLong = refl
number_back refusal.UnknownNamed = refl
number_back refusal.BankShort = refl
number_back refusal.TooManyTracks = refl
number_back refusal.BankDisagrees = refl
number_back refusal.NoSuchTrack = refl

pub number_of_injective : {x y : Refusal} → number_of x ≡ number_of y → x ≡ y
number_of_injective = injective number_of refusal_of number_back
