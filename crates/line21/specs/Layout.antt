-- The bytes of a Line 21 payload, from its value alone. RULES, "Line 21 payload"; 004, 3.2.1, Tables 1 and 2.
use Rattle.std.specs.Prelude.{ℕ, ◌+◌, ◌*◌, List, [], ◌∷◌}
use Rattle.lists.specs.Flat.{flat}
use Rattle.line21.specs.declared.AccessUnit.{AccessUnit}
use Rattle.line21.specs.Value.{Line21}

-- byte 0 from its top bit: the two flags, the padding. Then the fields, two bytes each
abbrev pub layout_access_unit : AccessUnit → List ℕ
layout_access_unit u =
    (u.cc_valid_1 * 128 + u.cc_valid_2 * 64 + u.padding)
    ∷ u.field1_data1 ∷ u.field1_data2 ∷ u.field2_data1 ∷ u.field2_data2 ∷ []

abbrev pub layout_access_units : List AccessUnit → List ℕ
layout_access_units us = flat layout_access_unit us

-- one flags byte, then the units
abbrev pub layout : Line21 → List ℕ
layout v = v.flags ∷ layout_access_units v.units
