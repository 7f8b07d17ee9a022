-- The laws behind the theorem page: which side a display field has.
-- Assumes nothing.
use Prim.Native.Nat.{ℕ, zero, suc, ◌+◌, ◌-◌, ◌%◌, ◌<◌}
use native.Mathlib.Omega.{arith}
use mathlib.Core.Path.{◌≡◌, ◌∙◌, refl, sym, ap}
use mathlib.Core.Logic.{◌↔◌}
use mathlib.Core.Bool.{Bool, true, false, true≢false}
use Rattle.fields.specs.declared.OddEven.{OddEven}
use Rattle.fields.specs.Sides.{opposite, side}

less : (n : ℕ) → n < 2 → opposite n ≡ 1 - n
less zero h = refl
less (suc zero) h = refl
less (suc (suc n)) h = let f : ⊥ = omega (arith, h) in absurd f

-- where the top field comes first, odd numbers are odd fields
pub side-top : (field : ℕ) → side true field ≡ field % 2
side-top zero = refl
side-top (suc k) =
    ap opposite (side-top k) ∙ less (k % 2) (omega arith) ∙ omega arith

-- where the bottom field does, they are even fields
pub side-bottom : (field : ℕ) → side false field ≡ 1 - field % 2
side-bottom zero = refl
side-bottom (suc k) =
    ap opposite (side-bottom k) ∙ less (1 - k % 2) (omega arith) ∙ omega arith

-- the same of the struct, where the flag was asked
pub odd-even-top : (top_field_first : Bool) (field : ℕ) → top_field_first ≡ true
    → ◌≡◌ {A = OddEven} (record { 0 = field % 2 }) (record { 0 = side top_field_first field })
odd-even-top t field e =
    ap (λ (n : ℕ). record { 0 = n }) (sym (ap (λ (t : Bool). side t field) e ∙ side-top field))

pub odd-even-bottom : (top_field_first : Bool) (field : ℕ) → top_field_first ≡ false
    → ◌≡◌ {A = OddEven} (record { 0 = 1 - field % 2 }) (record { 0 = side top_field_first field })
odd-even-bottom t field e =
    ap (λ (n : ℕ). record { 0 = n }) (sym (ap (λ (t : Bool). side t field) e ∙ side-bottom field))

pub first-odd : (top_field_first : Bool) → side top_field_first 1 ≡ 1 ↔ (top_field_first ≡ true)
first-odd true = (λ e. refl, λ e. refl)
first-odd false = (λ e. let f : ⊥ = omega (arith, e) in absurd f, λ e. absurd (true≢false (sym e)))

pub alternate : (top_field_first : Bool) (field : ℕ)
    → side top_field_first (field + 1) ≡ 1 - side top_field_first field
alternate true k = side-top (k + 1) ∙ omega (arith, side-top k)
alternate false k = side-bottom (k + 1) ∙ omega (arith, side-bottom k)

pub one_side : (top_field_first : Bool) (field : ℕ) → side top_field_first field < 2
one_side true k = omega (arith, side-top k)
one_side false k = omega (arith, side-bottom k)

pub odd-even-determined : (top_field_first : Bool) (field : ℕ) (a b : OddEven)
    → a ≡ record { 0 = side top_field_first field } → b ≡ record { 0 = side top_field_first field } → a ≡ b
odd-even-determined t field a b p q = p ∙ sym q
