-- The theorems of a caption unit's value in words (docs/RULES.md, "Programs", PR-2). What they speak of is defined in
-- specs/Words and specs/Value, and in listing's specs/Texts.
-- How to read it: docs/NOTATION.md.
-- Assumes nothing.
use Prim.Native.Nat.{ℕ, ◌≤◌, ◌<◌}
use mathlib.Core.List.{List}
use mathlib.Core.Path.{◌≡◌}
use lib.ListN.{length}
use Rattle.lists.specs.Each.{Each}
use Rattle.std.proofs.Common.{Option, Some}
use Rattle.scte20.specs.declared.CaptionUnit.{CaptionUnit}
use Rattle.scte20.specs.Value.{Content, stored}
use Rattle.notation.specs.Value.{InBytes, unit_text, meant_of}
use Rattle.notation.proofs.Listed as listed

-- What `cclist` prints of a value's records, typed behind reserved, flag and z, tells that value.
pub listed-meant : (c : Content) → c.reserved < 256 → c.flag < 256 → c.z < 1000000000 → length c.records ≤ 31
    → Each InBytes c.records → meant_of (unit_text c) ≡ Some (stored c)
listed-meant = listed.listed-meant

-- Two answers that keep the promise of `unit_of` are equal.
pub unit-determined : (text : List ℕ) (a b : Option CaptionUnit) → a ≡ meant_of text → b ≡ meant_of text → a ≡ b
unit-determined = listed.unit-determined
