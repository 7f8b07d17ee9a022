-- Which slots can be held, in the words of RULES, "Subtitling packet" and "Refusals": 15 and 7.
use Rattle.std.specs.Prelude.{ℕ, ◌≤◌, ◌≡◌, ◌⊎◌, false}
use Rattle.sdp.specs.Value.{SlotRow, descriptor, empty_row}
use Rattle.sdp.specs.SlotVerdict.{all_zero, unwritable}

-- a slot that the layout can hold: each number is in its range, and the slot is not unwritable
pub record Holdable (x : SlotRow) : Type 0 where
  pub mark : x.slot.full ≤ 1
  pub line : x.slot.line ≤ 31
  pub reserved : x.slot.reserved ≤ 3
  pub field : x.slot.field.0 ≤ 1
  pub writable : unwritable x.slot.full (descriptor x.slot) (all_zero x.row) ≡ false

-- full, but with the descriptor of an empty slot; or marked empty, with something in it
abbrev pub Unwritable : SlotRow → Type 0
Unwritable x = ((x.slot.full ≡ 1) × (descriptor x.slot ≡ 0)) ⊎ ((x.slot.full ≡ 0) × (x ≡ empty_row → ⊥))

-- line 1 to 5 or 23 to 31
abbrev pub NoLine : ℕ → Type 0
NoLine l = ((1 ≤ l) × (l ≤ 5)) ⊎ ((23 ≤ l) × (l ≤ 31))
