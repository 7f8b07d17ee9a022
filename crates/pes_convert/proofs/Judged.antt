-- What the writer of the data field finds in the units of a packet that was accepted: only their lines and the room.
-- Assumes nothing.
use Prim.Native.Nat.{ℕ, ◌≤◌}
use native.Mathlib.Omega.{arith}
use mathlib.Core.Path.{◌≡◌, ◌∙◌, ap, ap₂, sym, refl}
use mathlib.Core.Logic.{⊎_elim}
use mathlib.Core.List.{List, [], ◌∷◌}
use lib.Dec.{ltb}
use lib.ListN.{length, take}
use Rattle.lists.specs.Each.{Each}
use Rattle.lists.proofs.Each.{each_map}
use Rattle.refusal.specs.Verdict.{Verdict}
use Rattle.refusal.specs.Verdict.{Accepted}
use Rattle.refusal.specs.declared.Reason.TheVariants.{NoRoom}
use Rattle.refusal.specs.declared.Item.TheVariants.{Whole}
use Rattle.refusal.specs.Checks.{refuse_if, and_then, first}
use Rattle.refusal.proofs.Checks.{and_then-last}
use Rattle.sdp.specs.Value.{SlotRow, Sdp, Legal, LegalSlot, FullSlot}
use Rattle.sdp.proofs.Numbers.{RowSlot}
use Rattle.sdp.proofs.Slots.{legal-below}
use Rattle.pes.specs.Value.{DataUnit, TypedUnit}
use Rattle.pes.specs.Layout.{layout}
use Rattle.pes.specs.Order.{line_check}
use Rattle.pes.specs.Reading.{line_verdict}
use Rattle.pes.specs.Writing.{written_verdict, written_units, value_verdict}
use Rattle.pes.proofs.Writable.{written-line, value-units}
use Rattle.pes_convert.specs.Converting.{slot_unit, full_units, lines_checks, convert_verdict}
use Rattle.pes_convert.proofs.Full.{if-empty, if-full, full-each}

-- the unit of a slot is as its type has it
pub slot-typed : (x : SlotRow) → RowSlot x → TypedUnit (slot_unit x)
slot-typed x h = record { other = λ e. omega (arith, e); places = h.0; bytes = h.1 }

pub full_typed : (xs : List SlotRow) → Each RowSlot xs → Each TypedUnit (full_units xs)
full_typed xs h = full-each TypedUnit xs (each_map RowSlot _ (λ x row full. slot-typed x row) xs h)

-- ONE SLOT

slot-line : (x : SlotRow) → FullSlot x → written_verdict (slot_unit x) ≡ line_check Whole x.slot.line
unfolding line_verdict
slot-line x h = written-line _ refl (omega (arith, h.field)) (omega (arith, legal-below x.slot.line h.line))

-- ALL OF THEM

step : (x : SlotRow) (xs : List SlotRow) → LegalSlot x → written_units (full_units xs) ≡ first (lines_checks xs)
    → written_units (full_units (x ∷ xs)) ≡ first (lines_checks (x ∷ xs))
step x xs h e =
    ⊎_elim
    (λ empty.
    let none : x.slot.full ≡ 0 = ap (λ (y : SlotRow). y.slot.full) empty in
    ap written_units (if-empty x.slot.full (slot_unit x) (full_units xs) none)
    ∙ e
    ∙ ap first (sym (if-empty x.slot.full (line_check Whole x.slot.line) (lines_checks xs) none)))
    (λ full.
    let some : x.slot.full ≡ 0 → ⊥ = λ none. omega (arith, none, full.mark) in
    ap written_units (if-full x.slot.full (slot_unit x) (full_units xs) some)
    ∙ ap₂ and_then (slot-line x full) e
    ∙ ap first (sym (if-full x.slot.full (line_check Whole x.slot.line) (lines_checks xs) some)))
    h

lines-judged : (xs : List SlotRow) → Each LegalSlot xs → written_units (full_units xs) ≡ first (lines_checks xs)
lines-judged [] h = refl
lines-judged (x ∷ xs) h = step x xs h.0 (lines-judged xs h.1)

-- units of which no 15 is found: the lines, and then the room
pub value-judged : (n room : ℕ) (us : List DataUnit) (v : Sdp) → Legal v → n ≤ 31 → take n us ≡ full_units v.slots
    → value_verdict (record { data_identifier = 0x10; n = n; units = us }) room ≡ convert_verdict Accepted v room
unfolding convert_verdict
value-judged n room us v h few same =
    let room_for : List DataUnit → Verdict =
    λ ws. refuse_if (ltb room (length (layout (record { data_identifier = 0x10; units = ws })))) NoRoom Whole in
    value-units (record { data_identifier = 0x10; n = n; units = us }) room refl few
    ∙ ap (λ (ws : List DataUnit). and_then (written_units ws) (room_for ws)) same
    ∙ ap₂ and_then (lines-judged v.slots h.each) (sym (and_then-last (room_for (full_units v.slots))))
