-- A caller tells a refusal from an acceptance by its number: no reason has number 0.
-- Assumes nothing.
use Prim.Native.Nat.{ℕ, ◌<◌}
use native.Mathlib.Omega.{arith}
use mathlib.Core.Path.{◌≡◌, ◌∙◌, ap, sym, refl}
use Rattle.refusal.specs.declared.Reason.{Reason}
use Rattle.refusal.specs.declared.Reason.TheVariants.{TooLong, NoStart, StartCode, SecondUnit, Ends, Unfixed, FieldNumberZero, DescriptorLine, FieldFalls, LineDoesNotRise, FifthPriority, SampledVideo, WordRange, WordParity, SdpChecksum, Checksum, Unfit, NoRoom, Unholdable, AdditionalData, NotShown, OtherLine, UnknownUnit, SurplusUnit, UnitLine, NoInner, InnerOverrun, InnerChecksum}
use Rattle.refusal.specs.declared.Fixed.{Fixed}
use Rattle.refusal.specs.declared.Fixed.TheVariants.{Marker, Alignment, Stuffing, Identifier, FormatCode, RunIn, FramingCode, Footer, UnitReserved, UnitFraming, LineField}
use Rattle.refusal.specs.Verdict.{Verdict}
use Rattle.refusal.specs.Verdict.{Accepted, Refused}
use Rattle.refusal.specs.declared.Refusal.{Refusal}
use Rattle.refusal.specs.Numbers.{fixed_number, number_of, refusal_of}
use Rattle.refusal.specs.Answers.{refused}

fixed-not-zero : (which : Fixed) → 0 < fixed_number which
fixed-not-zero Identifier = omega arith
fixed-not-zero FormatCode = omega arith
fixed-not-zero Footer = omega arith
fixed-not-zero Marker = omega arith
fixed-not-zero Alignment = omega arith
fixed-not-zero Stuffing = omega arith
fixed-not-zero RunIn = omega arith
fixed-not-zero FramingCode = omega arith
fixed-not-zero UnitReserved = omega arith
fixed-not-zero UnitFraming = omega arith
fixed-not-zero LineField = omega arith

number-not-zero : (reason : Reason) → 0 < number_of reason
number-not-zero TooLong = omega arith
number-not-zero NoStart = omega arith
number-not-zero StartCode = omega arith
number-not-zero SecondUnit = omega arith
number-not-zero Ends = omega arith
number-not-zero (Unfixed which) = fixed-not-zero which
number-not-zero FieldNumberZero = omega arith
number-not-zero DescriptorLine = omega arith
number-not-zero FieldFalls = omega arith
number-not-zero LineDoesNotRise = omega arith
number-not-zero FifthPriority = omega arith
number-not-zero SampledVideo = omega arith
number-not-zero WordRange = omega arith
number-not-zero WordParity = omega arith
number-not-zero SdpChecksum = omega arith
number-not-zero Checksum = omega arith
number-not-zero (Unfit which) = omega arith
number-not-zero NoRoom = omega arith
number-not-zero (Unholdable which) = omega arith
number-not-zero AdditionalData = omega arith
number-not-zero NotShown = omega arith
number-not-zero OtherLine = omega arith
number-not-zero UnknownUnit = omega arith
number-not-zero SurplusUnit = omega arith
number-not-zero UnitLine = omega arith
number-not-zero NoInner = omega arith
number-not-zero InnerOverrun = omega arith
number-not-zero InnerChecksum = omega arith

pub told-accepted : (verdict : Verdict) → (refusal_of verdict).number ≡ 0 → verdict ≡ Accepted
told-accepted Accepted e = refl
told-accepted (Refused reason item) e = let f : ⊥ = omega (arith, number-not-zero reason) in absurd f

pub told-refused : (verdict : Verdict) (number place : ℕ) → 0 < number → refusal_of verdict ≡ refused number place → verdict ≡ Accepted → ⊥
told-refused verdict number place some told e =
    omega (arith, sym (ap (λ (v : Verdict). (refusal_of v).number) e) ∙ ap (λ (x : Refusal). x.number) told)
