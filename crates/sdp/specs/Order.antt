-- RULES, "Order of checks": the checks of descriptors, structures and slots, as lists in the order of RULES.
use Rattle.std.specs.Prelude.{ℕ, zero, suc, ◌+◌, ◌%◌, not, ◌&&◌, ◌||◌, List, [], ◌∷◌, eqb, ltb, get_or, drop}
use Rattle.refusal.specs.Verdict.{Verdict}
use Rattle.refusal.specs.declared.Reason.TheVariants.{Unfixed, DescriptorLine, Unholdable}
use Rattle.refusal.specs.declared.Fixed.TheVariants.{RunIn, FramingCode}
use Rattle.refusal.specs.declared.Excess.TheVariants.{SlotMark, SlotLine, SlotReserved, SlotField, SlotUnwritable}
use Rattle.refusal.specs.declared.Item.{Item}
use Rattle.refusal.specs.declared.Item.TheVariants.{Whole, Word}
use Rattle.refusal.specs.Checks.{refuse_if}
use Rattle.sdp.specs.Value.{SlotRow, descriptor}
use Rattle.sdp.specs.SlotVerdict.{all_zero, unwritable}

-- 7: line 1 to 5, or 23 and above
abbrev pub line_check : Item → ℕ → Verdict
line_check item l = refuse_if (ltb 0 l && (ltb l 6 || ltb 22 l)) DescriptorLine item

-- 7: each descriptor in order, the first in word `at`
abbrev pub descriptors_checks : ℕ → List ℕ → List Verdict
descriptors_checks at [] = []
descriptors_checks at (d ∷ ds) = line_check (Word at) (d % 32) ∷ descriptors_checks (suc at) ds

-- 20: each of k structures in order, the first from word `at` on, begins 55 55 27
abbrev pub structures_checks : ℕ → ℕ → List ℕ → List Verdict
structures_checks at zero u = []
structures_checks at (suc k) u =
    refuse_if (not (eqb (get_or u 0 0) 0x55)) (Unfixed RunIn) (Word at)
    ∷ refuse_if (not (eqb (get_or u 1 0) 0x55)) (Unfixed RunIn) (Word (at + 1))
    ∷ refuse_if (not (eqb (get_or u 2 0) 0x27)) (Unfixed FramingCode) (Word (at + 2))
    ∷ structures_checks (at + 45) k (drop 45 u)

-- one slot that is written
abbrev pub slot_checks : SlotRow → List Verdict
slot_checks x =
    -- 15: a mark that is no bit, line above 31, reserved above 3, a field that is no bit
    refuse_if (ltb 1 x.slot.full) (Unholdable SlotMark) Whole
    ∷ refuse_if (ltb 31 x.slot.line) (Unholdable SlotLine) Whole
    ∷ refuse_if (ltb 3 x.slot.reserved) (Unholdable SlotReserved) Whole
    ∷ refuse_if (ltb 1 x.slot.field.0) (Unholdable SlotField) Whole
    -- 15: an unwritable slot
    ∷ refuse_if (unwritable x.slot.full (descriptor x.slot) (all_zero x.row)) (Unholdable SlotUnwritable) Whole
    -- 7: line 1 to 5, or 23 to 31
    ∷ line_check Whole x.slot.line
    ∷ []
