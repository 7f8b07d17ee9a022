-- The first two bytes of a layout, and which layouts are a caption unit's in an area: those whose reserved bits and flag make no type of a data group.
-- Assumes nothing.
use Prim.Native.Nat.{ℕ, zero, suc, ◌≤◌, ◌<◌}
use native.Mathlib.Omega.{arith}
use mathlib.Core.Path.{◌≡◌, ◌∙◌, ap, ap₂, sym}
use mathlib.Core.Bool.{true, not, ◌&&◌}
use mathlib.Core.List.{List}
use lib.Dec.{eqb}
use lib.ListN.{length, get_or}
use Rattle.bits.specs.Bits.{bits_of}
use Rattle.bits.proofs.Numbers.{num-bits-small}
use Rattle.kind.specs.declared.Kind.TheVariants.{Scte20}
use Rattle.kind.specs.Ours.{group_type, ours}
use Rattle.kind.proofs.First.{scte20-first}
use Rattle.scte20.specs.Value.{Content, flag_byte, Legal}
use Rattle.scte20.specs.Layout.{layout, size_in}
use Rattle.scte20.specs.Reading.{reserved_in, flag_in}
use Rattle.scte20.proofs.Sizes.{length-layout, layout-bytes, bits_of-layout, begins}
use Rattle.scte20.proofs.Bytewise.{flag-byte}

size-two : (f n : ℕ) → 2 ≤ size_in f n
size-two zero n = omega arith
size-two (suc f) n = omega arith

-- the two numbers, where the layout holds them
pub reserved-back : (c : Content) → c.reserved < 128 → reserved_in (bits_of (layout c)) ≡ c.reserved
reserved-back c small = ap reserved_in (bits_of-layout c) ∙ num-bits-small 7 c.reserved small

pub flag-back : (c : Content) → c.flag < 2 → flag_in (bits_of (layout c)) ≡ c.flag
flag-back c small = ap flag_in (bits_of-layout c) ∙ num-bits-small 1 c.flag small

module _ (c : Content) (reserved : c.reserved < 128) (flag : c.flag < 2) where
  long : 2 ≤ length (layout c)
  long = omega (arith, length-layout c, size-two c.flag (length c.records))

  first_byte : get_or (layout c) 0 0 ≡ 3
  first_byte = ap (λ (s : List ℕ). get_or s 0 0) (begins c).1

  second-byte : get_or (layout c) 1 0 ≡ flag_byte c.reserved c.flag
  second-byte = sym (flag-byte (layout c) (layout-bytes c) long) ∙ ap₂ flag_byte (reserved-back c reserved) (flag-back c flag)

  pub layout-ours : ours Scte20 (layout c) ≡ not (group_type (flag_byte c.reserved c.flag))
  layout-ours = scte20-first (layout c) long ∙ ap₂ (λ (a b : ℕ). eqb a 3 && not (group_type b)) first_byte second-byte

pub legal-ours : (c : Content) → Legal c → ours Scte20 (layout c) ≡ true
legal-ours c h = layout-ours c h.reserved h.flag ∙ ap not h.no_group
