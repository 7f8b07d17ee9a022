-- RULES, "Refusals": which number a reason has, and which place is told for the item that failed. Every call has its
-- numbers and places from here. What a carriage says of them (specs/Places) is proved of these. The words beside a
-- number are a reminder; RULES says when it is given.
use Rattle.std.specs.Prelude.{ℕ}
use Rattle.refusal.specs.declared.Reason.{Reason}
use Rattle.refusal.specs.declared.Reason.TheVariants.{TooLong, NoStart, StartCode, SecondUnit, Ends, Unfixed, FieldNumberZero, DescriptorLine, FieldFalls, LineDoesNotRise, FifthPriority, SampledVideo, WordRange, WordParity, SdpChecksum, Checksum, Unfit, NoRoom, Unholdable, AdditionalData, NotShown, OtherLine, UnknownUnit, SurplusUnit, UnitLine, NoInner, InnerOverrun, InnerChecksum}
use Rattle.refusal.specs.declared.Fixed.{Fixed}
use Rattle.refusal.specs.declared.Fixed.TheVariants.{Marker, Alignment, Stuffing, Identifier, FormatCode, RunIn, FramingCode, Footer, UnitReserved, UnitFraming, LineField}
use Rattle.refusal.specs.declared.Item.{Item}
use Rattle.refusal.specs.declared.Item.TheVariants.{Whole, Bit, Body, Word, Byte, Length}
use Rattle.refusal.specs.Verdict.{Verdict}
use Rattle.refusal.specs.Verdict.{Accepted, Refused}
use Rattle.refusal.specs.declared.Refusal.{Refusal}

-- a constant that has another value
abbrev pub fixed_number : Fixed → ℕ
fixed_number Identifier = 6
fixed_number FormatCode = 6
fixed_number Footer = 6
fixed_number UnitReserved = 6
fixed_number UnitFraming = 6
fixed_number LineField = 6
fixed_number Marker = 18
fixed_number Alignment = 19
fixed_number Stuffing = 19
fixed_number RunIn = 20
fixed_number FramingCode = 20

abbrev pub number_of : Reason → ℕ
-- too long for its carriage
number_of TooLong = 1
-- no area, packet or payload begins so
number_of NoStart = 2
-- a start code of something else, or cut off
number_of StartCode = 3
-- more than one unit is ours
number_of SecondUnit = 4
-- too little is left
number_of Ends = 5
-- a constant has another value
number_of (Unfixed which) = fixed_number which
-- no such field
number_of FieldNumberZero = 7
-- no such line
number_of DescriptorLine = 7
number_of UnitLine = 7
-- out of order
number_of FieldFalls = 8
number_of LineDoesNotRise = 8
-- one priority 0 too many
number_of FifthPriority = 9
-- sampled video
number_of SampledVideo = 10
-- no word of ten bits
number_of WordRange = 11
-- a word whose upper bits contradict the others
number_of WordParity = 11
-- a wrong sum
number_of SdpChecksum = 12
number_of Checksum = 12
number_of InnerChecksum = 12
-- lengths that contradict each other
number_of (Unfit which) = 13
-- the buffer is too short
number_of NoRoom = 14
-- no layout has room for it
number_of (Unholdable which) = 15
-- GA94 with its third flag set
number_of AdditionalData = 16
-- a field that the picture does not show
number_of NotShown = 21
-- not on the line that is carried
number_of OtherLine = 22
-- neither teletext nor stuffing
number_of UnknownUnit = 23
-- a 32nd unit
number_of SurplusUnit = 24
-- no inner packet, or one that is not all there
number_of NoInner = 26
number_of InnerOverrun = 26

-- in an area, for what failed in a unit's body, the bit of the area; in a packet the word; in a data field the byte; the
-- length where that is at fault. A value that is written has no place, and neither has a body that stands in no area
abbrev pub place_of : Item → ℕ
place_of Whole = 0
place_of (Bit bit) = 0
place_of (Body unit bit) = bit
place_of (Word w) = w
place_of (Byte b) = b
place_of (Length n) = n

-- an accepted answer has number and place 0
abbrev pub refusal_of : Verdict → Refusal
refusal_of Accepted = record { number = 0; place = 0 }
refusal_of (Refused reason item) = record { number = number_of reason; place = place_of item }
