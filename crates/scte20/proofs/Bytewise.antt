-- What stands at the front of a body, and where its bits end, by its bytes.
-- Assumes nothing.
use Prim.Native.Nat.{ℕ, ◌+◌, ◌*◌, ◌/◌, ◌%◌, ◌≤◌, ◌<◌}
use native.Mathlib.Omega.{arith}
use mathlib.Core.Path.{◌≡◌, ap}
use mathlib.Core.Bool.{Bool}
use mathlib.Core.List.{List}
use borrow.Author.Tests.{lt-ltb}
use lib.ListN.{length, get_or}
use Rattle.lists.specs.Bytes.{Bytes}
use Rattle.lists.proofs.Each.{each_at}
use Rattle.refusal.specs.Verdict.{Accepted, Refused}
use Rattle.refusal.specs.declared.Reason.TheVariants.{Ends}
use Rattle.refusal.specs.declared.Item.TheVariants.{Bit}
use Rattle.refusal.specs.Checks.{refuse_if}
use Rattle.bits.specs.Bits.{bits_of, field}
use Rattle.bits.proofs.Stream.{length-bits_of}
use Rattle.bits.proofs.Fields.{field-byte}
use Rattle.scte20.specs.Value.{flag_byte}
use Rattle.scte20.specs.Reading.{missing, reserved_in, flag_in, count_in}
use Rattle.scte20.proofs.Constructs.{missing-accepted}

-- 5, by how many bytes there are
module _ (s : List ℕ) (at w : ℕ) where
  pub missing-some : 8 * length s < at + w → missing at w (bits_of s) ≡ Refused Ends (Bit at)
  unfolding missing
  missing-some h =
      let short : length (bits_of s) < at + w = omega (arith, length-bits_of s) in
      ap (λ (t : Bool). refuse_if t Ends (Bit at)) (lt-ltb (length (bits_of s)) (at + w) short)

  pub missing-none : at + w ≤ 8 * length s → missing at w (bits_of s) ≡ Accepted
  missing-none h = missing-accepted at w (bits_of s) (omega (arith, length-bits_of s))

-- reserved, the flag and cc_count
module _ (s : List ℕ) (h : Bytes s) where
  pub reserved-in : 1 < length s → field (bits_of s) 8 7 ≡ get_or s 1 0 / 2
  reserved-in inside =
      let byte : get_or s 1 0 < 256 = each_at (λ (b : ℕ). b < 256) 0 s h 1 inside in
      omega (arith, field-byte s 1 0 7 h inside (omega arith))

  pub flag-in : 1 < length s → flag_in (bits_of s) ≡ get_or s 1 0 % 2
  flag-in inside = omega (arith, field-byte s 1 7 1 h inside (omega arith))

  -- the byte of both
  pub flag-byte : 1 < length s → flag_byte (reserved_in (bits_of s)) (flag_in (bits_of s)) ≡ get_or s 1 0
  flag-byte inside = omega (arith, reserved-in inside, flag-in inside)

  pub count-in : 2 < length s → count_in (bits_of s) ≡ get_or s 2 0 / 8
  count-in inside =
      let byte : get_or s 2 0 < 256 = each_at (λ (b : ℕ). b < 256) 0 s h 2 inside in
      omega (arith, field-byte s 2 0 5 h inside (omega arith))
