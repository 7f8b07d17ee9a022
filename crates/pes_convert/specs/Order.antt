-- RULES, "Order of checks", for the conversion: all its checks as one list, and which values a data field carries.
use Rattle.std.specs.Prelude.{ℕ, ◌≤◌, ◌≡◌, List, [], ◌∷◌, ◌++◌, ltb, length}
use Rattle.lists.specs.Each.{Each}
use Rattle.refusal.specs.Verdict.{Verdict}
use Rattle.refusal.specs.declared.Reason.TheVariants.{NoRoom}
use Rattle.refusal.specs.declared.Item.TheVariants.{Whole}
use Rattle.refusal.specs.Checks.{refuse_if}
use Rattle.sdp.specs.Value.{SlotRow, Sdp, Legal, together}
use Rattle.pes.specs.Value.{LegalLine}
use Rattle.pes.specs.Layout.{layout}
use Rattle.pes_convert.specs.Converting.{converted, lines_checks}

-- `packet` is the list of the packet's own checks
abbrev pub convert_checks : List Verdict → Sdp → ℕ → List Verdict
convert_checks packet v room =
    packet
    -- 7: each full slot, in order, whose line no data unit may have
    ++ (lines_checks v.slots
    -- 14: the output is shorter than the result
    ++ (refuse_if (ltb room (length (layout (converted v)))) NoRoom Whole
    ∷ []))

-- the line of a full slot is 0 or 7 to 22. What an empty slot has is not asked
abbrev pub LineCarried : SlotRow → Type 0
LineCarried x = x.slot.full ≡ 1 → LegalLine x.slot.line

-- a data field carries the value, and finds room
pub record Carried (v : Sdp) (room : ℕ) : Type 0 where
  pub legal : Legal v
  pub lines : Each LineCarried v.slots
  pub fits : length (layout (converted v)) ≤ room

-- a slot without its reserved bits
abbrev pub unreserved : SlotRow → SlotRow
unreserved x =
    together (record { full = x.slot.full; line = x.slot.line; reserved = 0; field = x.slot.field }) x.row
