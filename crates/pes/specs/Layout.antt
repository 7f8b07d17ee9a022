-- The bytes of a PES data field, from its value alone. RULES, "PES data field"; EN 300 472, the syntax of the data field.
use Rattle.std.specs.Prelude.{ℕ, ◌+◌, ◌*◌, List, ◌∷◌, map}
use Rattle.lists.specs.Flat.{flat}
use Rattle.bits.specs.Bits.{reversed}
use Rattle.pes.specs.Value.{DataUnit, DataField, teletext, stuffing}

-- data_unit_id, data_unit_length, two reserved ones with field_parity and line_offset, the framing code, and the row,
-- each byte turned round; or the id of stuffing, data_unit_length, and its bytes as they are
abbrev pub layout_unit : DataUnit → List ℕ
layout_unit (teletext t) =
    t.data_unit_id ∷ 0x2C ∷ (192 + 32 * t.field_parity + t.line_offset) ∷ 0xE4 ∷ map reversed t.row
layout_unit (stuffing bytes) = 0xFF ∷ 0x2C ∷ bytes

abbrev pub layout_units : List DataUnit → List ℕ
layout_units us = flat layout_unit us

abbrev pub layout : DataField → List ℕ
layout v = v.data_identifier ∷ layout_units v.units
