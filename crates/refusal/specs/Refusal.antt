-- The numbers of the refusals (document 01, "Refusal numbers"), in the order of its table, then those of document 02 (T-07).
-- Number 9 is out of the table, and stays unused (T-08).
-- Assumes nothing.
use Rattle.std.specs.Prelude.{ℕ}
use Rattle.refusal.specs.declared.Refusal.{Refusal}
use Rattle.refusal.specs.declared.Refused.{Refused}
use Rattle.refusal.specs.declared.Refusal.TheVariants.{
  RegionSize,
  PasswordLength,
  EntryOutside,
  TooLong,
  TextMalformed,
  AddressOutside,
  AddressRepeated,
  OutputShort,
  ScriptHead,
  PacketCut,
  PictureDiffers,
  RefusedOverZeros,
  BytesAfterStart,
  NotStarted,
  RequestUnknown,
  RequestForOtherCard,
  RecordUnsound,
  CutBeyondWork,
}

-- the papers' number of a refusal
abbrev pub number_of : Refusal → ℕ
number_of RegionSize = 1
number_of PasswordLength = 2
number_of EntryOutside = 14
number_of TooLong = 18
number_of TextMalformed = 3
number_of AddressOutside = 4
number_of AddressRepeated = 5
number_of OutputShort = 13
number_of ScriptHead = 6
number_of PacketCut = 7
number_of PictureDiffers = 10
number_of RefusedOverZeros = 8
number_of BytesAfterStart = 11
number_of NotStarted = 12
number_of RequestUnknown = 15
number_of RequestForOtherCard = 16
number_of RecordUnsound = 17
number_of CutBeyondWork = 21

-- a refusal for which no place is named
abbrev pub at_no_place : Refusal → Refused
at_no_place refusal = record { refusal = refusal; place = 0 }
