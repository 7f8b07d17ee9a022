-- The theorems of the two counts of fields (docs/RULES.md, "Picture area" and "Film"). What they speak of is defined in
-- specs/Sides: 1 is odd, 0 is even. How to read it: docs/NOTATION.md. Assumes nothing.
use Prim.Native.Nat.{ℕ, ◌+◌, ◌-◌, ◌<◌}
use mathlib.Core.Path.{◌≡◌}
use mathlib.Core.Logic.{◌↔◌}
use mathlib.Core.Bool.{Bool, true}
use Rattle.fields.specs.declared.OddEven.{OddEven}
use Rattle.fields.specs.Sides.{side}
use Rattle.fields.proofs.Sides as sides

-- The first display field is odd exactly when top_field_first is set,
pub first-odd : (top_field_first : Bool) → side top_field_first 1 ≡ 1 ↔ (top_field_first ≡ true)
first-odd = sides.first-odd

-- and each next one is the opposite of the one before.
pub alternate : (top_field_first : Bool) (field : ℕ)
    → side top_field_first (field + 1) ≡ 1 - side top_field_first field
alternate = sides.alternate

-- Every field is odd or even.
pub one_side : (top_field_first : Bool) (field : ℕ) → side top_field_first field < 2
one_side = sides.one_side

-- Two answers that keep the promise of `odd_even` are equal.
pub odd-even-determined : (top_field_first : Bool) (field : ℕ) (a b : OddEven)
    → a ≡ record { 0 = side top_field_first field } → b ≡ record { 0 = side top_field_first field } → a ≡ b
odd-even-determined = sides.odd-even-determined
