-- Which slots can be written. RULES, "Order of checks": in each slot 15, an unwritable one 15, then 7.
use Rattle.std.specs.Prelude.{ℕ, zero, suc, Bool, true, false, not, ◌&&◌, List, [], ◌∷◌, map, eqb, ltb}
use Rattle.refusal.specs.Verdict.{Verdict}
use Rattle.refusal.specs.declared.Reason.TheVariants.{Unholdable}
use Rattle.refusal.specs.declared.Excess.TheVariants.{SlotMark, SlotLine, SlotReserved, SlotField, SlotUnwritable}
use Rattle.refusal.specs.declared.Item.TheVariants.{Whole}
use Rattle.refusal.specs.Checks.{refuse_if, first}
use Rattle.sdp.specs.Value.{SlotRow, descriptor}
use Rattle.sdp.specs.User.{line_verdict}

abbrev pub all_zero : List ℕ → Bool
all_zero [] = true
all_zero (zero ∷ xs) = all_zero xs
all_zero (suc x ∷ xs) = false

-- whether a slot has no layout, from its mark, its descriptor and whether its row is all zero: full with descriptor 0,
-- or empty with anything in it
abbrev pub unwritable : ℕ → ℕ → Bool → Bool
unwritable zero d blank = not (eqb d 0 && blank)
unwritable (suc mark) d blank = eqb d 0

unfoldable pub slot_verdict : SlotRow → Verdict
slot_verdict x =
    first
    (refuse_if (ltb 1 x.slot.full) (Unholdable SlotMark) Whole
    ∷ refuse_if (ltb 31 x.slot.line) (Unholdable SlotLine) Whole
    ∷ refuse_if (ltb 3 x.slot.reserved) (Unholdable SlotReserved) Whole
    ∷ refuse_if (ltb 1 x.slot.field.0) (Unholdable SlotField) Whole
    ∷ refuse_if (unwritable x.slot.full (descriptor x.slot) (all_zero x.row)) (Unholdable SlotUnwritable) Whole
    ∷ line_verdict Whole x.slot.line
    ∷ [])

abbrev pub slots_verdict : List SlotRow → Verdict
slots_verdict xs = first (map slot_verdict xs)
