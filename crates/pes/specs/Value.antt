-- The value of a PES data field of teletext, when it is legal, and how it is told. RULES, "PES data field"; EN 300 472, the
-- syntax and semantics of the PES data field.
use Rattle.std.specs.Prelude.{ℕ, ◌≤◌, ◌<◌, ◌≡◌, ◌⊎◌, List, [], length, take, replicate}
use Rattle.lists.specs.Each.{Each}
use Rattle.lists.specs.Bytes.{Bytes}
use Rattle.lists.specs.Room.{filled}

-- a unit of teletext: field_parity is 1 in the first field of the frame, the odd one; the 42 bytes of its row are in
-- our order, as in a packet's slot
pub record Teletext : Type 0 where
  pub data_unit_id : ℕ
  pub field_parity : ℕ
  pub line_offset : ℕ
  pub row : List ℕ

-- a unit: teletext, or 44 bytes of stuffing as they stand in the stream
pub data DataUnit : Type 0 where
  teletext : Teletext → DataUnit
  stuffing : List ℕ → DataUnit

-- data_identifier, and the units in order
pub record DataField : Type 0 where
  pub data_identifier : ℕ
  pub units : List DataUnit

-- teletext with another row
abbrev pub with_row : Teletext → List ℕ → Teletext
with_row t row =
    record {
      data_unit_id = t.data_unit_id;
      field_parity = t.field_parity;
      line_offset = t.line_offset;
      row = row;
    }

-- 02 non-subtitle, 03 subtitle
abbrev pub TeletextId : ℕ → Type 0
TeletextId id = (id ≡ 0x02) ⊎ (id ≡ 0x03)

-- 0, no line told; or 7 to 22, as in a field's blanking interval. 1 to 6 and 23 to 31 are reserved
abbrev pub LegalLine : ℕ → Type 0
LegalLine l = (l ≡ 0) ⊎ ((7 ≤ l) × (l ≤ 22))

pub record LegalTeletext (t : Teletext) : Type 0 where
  pub id : TeletextId t.data_unit_id
  pub parity : t.field_parity < 2
  pub line : LegalLine t.line_offset
  pub places : length t.row ≡ 42
  pub bytes : Bytes t.row

pub record LegalStuffing (bytes : List ℕ) : Type 0 where
  pub places : length bytes ≡ 44
  pub carried : Bytes bytes

-- each unit by itself: the order of lines is carried, not judged
abbrev pub LegalUnit : DataUnit → Type 0
LegalUnit (teletext t) = LegalTeletext t
LegalUnit (stuffing bytes) = LegalStuffing bytes

-- data_identifier 10 to 1F, and at most 31 units; there may be none
pub record Legal (v : DataField) : Type 0 where
  pub low : 0x10 ≤ v.data_identifier
  pub high : v.data_identifier ≤ 0x1F
  pub few : length v.units ≤ 31
  pub each : Each LegalUnit v.units

-- a value as it is told to a writer and by a reader: how many units there are, and beside it 31 of them
pub record Told : Type 0 where
  pub data_identifier : ℕ
  pub n : ℕ
  pub units : List DataUnit

-- a unit of zeros, which fills the room beyond the n units
abbrev pub blank : DataUnit
blank = teletext (record { data_unit_id = 0; field_parity = 0; line_offset = 0; row = replicate 42 0 })

-- no value: what a refusal holds
abbrev pub none : DataField
none = record { data_identifier = 0; units = [] }

-- a value so told: n units, and zeros beyond them
abbrev pub stored : DataField → Told
stored v = record { data_identifier = v.data_identifier; n = length v.units; units = filled v.units 31 blank }

-- the value that is told: entries beyond n are not looked at
abbrev pub held : Told → DataField
held t = record { data_identifier = t.data_identifier; units = take t.n t.units }

-- a legal value, of no more units than there are places
pub record LegalTold (t : Told) : Type 0 where
  pub few : t.n ≤ 31
  pub value : Legal (held t)

-- what a lent array tells by its type: rows are 42 bytes, and stuffing, which has the id FF, is 44
pub record TypedTeletext (t : Teletext) : Type 0 where
  pub other : t.data_unit_id ≡ 0xFF → ⊥
  pub places : length t.row ≡ 42
  pub bytes : Bytes t.row

abbrev pub TypedUnit : DataUnit → Type 0
TypedUnit (teletext t) = TypedTeletext t
TypedUnit (stuffing bytes) = LegalStuffing bytes

-- and there are 31 places
pub record Typed (t : Told) : Type 0 where
  pub places : length t.units ≡ 31
  pub units : Each TypedUnit t.units
