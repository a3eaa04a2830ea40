-- The refusals' numbers: document 01, "Refusal numbers".
use Rattle.std.specs.Prelude.{ℕ}
use Rattle.base.specs.declared.Refusal.{Refusal}
use Rattle.base.specs.declared.Refusal.TheVariants as refusal

-- the number of each refusal in the table
abbrev pub number_of : Refusal → ℕ
number_of refusal.RunningStatus = 1
number_of refusal.NumberCutOff = 2
number_of refusal.NumberContinues = 3
number_of refusal.NoStatus = 4
number_of refusal.NoRunningStatus = 5
number_of refusal.SystemCommon = 6
number_of refusal.SystemRealtime = 7
number_of refusal.ChannelDataShort = 8
number_of refusal.ChannelDataTopBit = 9
number_of refusal.NoMetaType = 10
number_of refusal.PayloadCutOff = 11
number_of refusal.ChannelOrPort = 12
number_of refusal.SmpteTime = 13
number_of refusal.KeySignatureShort = 14
number_of refusal.NoSuchFormat = 15
number_of refusal.NoSuchRate = 16
number_of refusal.HeaderFieldShort = 17
number_of refusal.AboveWidth = 18
number_of refusal.PayloadOutside = 19
number_of refusal.NoRoom = 20
number_of refusal.TooManyEvents = 21
number_of refusal.PayloadTooLong = 22
number_of refusal.UnknownNamed = 23
number_of refusal.BankShort = 24
number_of refusal.TooManyTracks = 25
number_of refusal.BankDisagrees = 26
number_of refusal.NoSuchTrack = 34
