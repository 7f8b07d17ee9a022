-- A subtitling packet's value, when it is legal, and how the code holds it. RULES, "Subtitling packet"; 002, 5.4.2.
use Rattle.std.specs.Prelude.{ℕ, ◌+◌, ◌*◌, ◌≤◌, ◌<◌, ◌≡◌, ◌⊎◌, List, [], ◌∷◌, map, length, replicate}
use Rattle.lists.specs.Each.{Each}
use Rattle.lists.specs.Bytes.{Bytes}
use Rattle.sdp.specs.declared.Slot.{Slot}
use Rattle.sdp.specs.declared.Packet.{Packet}

-- one slot: its numbers, and the 42 bytes of its row
pub record SlotRow : Type 0 where
  pub slot : Slot
  pub row : List ℕ

-- the counter, and the five slots in order
pub record Sdp : Type 0 where
  pub counter : ℕ
  pub slots : List SlotRow

-- line in b0 to b4, reserved in b5 and b6, field in b7 (1 odd, 0 even)
abbrev pub descriptor : Slot → ℕ
descriptor s = s.line + 32 * s.reserved + 128 * s.field.0

-- an empty slot: its line, reserved, field and 42 bytes are all 0
abbrev pub empty_slot : Slot
empty_slot = record { full = 0; line = 0; reserved = 0; field = record { 0 = 0 } }

abbrev pub zero_row : List ℕ
zero_row = replicate 42 0

abbrev pub together : Slot → List ℕ → SlotRow
together slot row = record { slot = slot; row = row }

abbrev pub empty_row : SlotRow
empty_row = together empty_slot zero_row

-- 0, or 6 to 22
abbrev pub LegalLine : ℕ → Type 0
LegalLine l = (l ≡ 0) ⊎ ((6 ≤ l) × (l ≤ 22))

-- a full slot: a descriptor of 0 would make it an empty one, so that it is not 0. The 42 bytes are carried as they are
pub record FullSlot (x : SlotRow) : Type 0 where
  pub mark : x.slot.full ≡ 1
  pub line : LegalLine x.slot.line
  pub reserved : x.slot.reserved < 4
  pub field : x.slot.field.0 < 2
  pub some : 0 < descriptor x.slot
  pub places : length x.row ≡ 42
  pub bytes : Bytes x.row

abbrev pub LegalSlot : SlotRow → Type 0
LegalSlot x = (x ≡ empty_row) ⊎ FullSlot x

-- counter 0 to 65,535; empty slots may stand between full ones
pub record Legal (v : Sdp) : Type 0 where
  pub count : v.counter < 65536
  pub five : length v.slots ≡ 5
  pub each : Each LegalSlot v.slots

-- how the code holds a value: the numbers in a struct, and beside them the five rows
abbrev pub beside : List Slot → List (List ℕ) → List SlotRow
beside [] rows = []
beside (s ∷ ss) [] = []
beside (s ∷ ss) (row ∷ rows) = together s row ∷ beside ss rows

abbrev pub held : Packet → List (List ℕ) → Sdp
held p rows = record { counter = p.counter; slots = beside p.slots rows }

abbrev pub numbers_of : Sdp → Packet
numbers_of v = record { counter = v.counter; slots = map (λ (x : SlotRow). x.slot) v.slots }

abbrev pub rows_of : Sdp → List (List ℕ)
rows_of v = map (λ (x : SlotRow). x.row) v.slots

-- no value: what a refusal holds
abbrev pub none : Sdp
none = record { counter = 0; slots = replicate 5 empty_row }

-- what the code's struct and rows satisfy by their types: five slots, and five rows of 42 bytes
abbrev pub Row : List ℕ → Type 0
Row row = (length row ≡ 42) × Bytes row

pub record Typed (p : Packet) (rows : List (List ℕ)) : Type 0 where
  pub slots : length p.slots ≡ 5
  pub five : length rows ≡ 5
  pub each : Each Row rows
