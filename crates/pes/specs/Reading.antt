-- What reading a PES data field answers, for every list of bytes. RULES, "Order of checks": from left to right, 5 before
-- each item; 6 of data_identifier; 24 before a 32nd unit; in each unit 23, 13, 6 of the reserved bits, 7, 6 of the
-- framing code.
use Rattle.std.specs.Prelude.{ℕ, ◌-◌, ◌/◌, ◌%◌, Bool, true, false, List, map, eqb, length, get_or, drop}
use Rattle.lists.specs.Part.{part}
use Rattle.lists.specs.Flat.{taken}
use Rattle.refusal.specs.Verdict.{Verdict}
use Rattle.refusal.specs.declared.Item.{Item}
use Rattle.refusal.specs.Checks.{first}
use Rattle.bits.specs.Bits.{reversed}
use Rattle.pes.specs.Value.{DataUnit, DataField, teletext, stuffing}
use Rattle.pes.specs.Order.{line_check, body_checks, unit_checks, units_checks, reading_checks}

-- 7 of a line
unfoldable pub line_verdict : Item → ℕ → Verdict
line_verdict item l = line_check item l

-- what a unit of teletext has behind data_unit_length
unfoldable pub teletext_verdict : ℕ → List ℕ → Verdict
teletext_verdict at u = first (body_checks false at u)

-- one unit, of which a byte is there
unfoldable pub unit_verdict : ℕ → List ℕ → Verdict
unit_verdict at u = first (unit_checks at u)

unfoldable pub units_verdict : ℕ → ℕ → List ℕ → Verdict
units_verdict k at u = first (units_checks k at u)

unfoldable pub field_verdict : List ℕ → Verdict
field_verdict s = first (reading_checks s)

-- the unit that the first 46 bytes hold, by its kind
abbrev pub unit_of : Bool → List ℕ → DataUnit
unit_of true u = stuffing (part 2 46 u)
unit_of false u =
    teletext
    (record {
      data_unit_id = get_or u 0 0;
      field_parity = get_or u 2 0 / 32 % 2;
      line_offset = get_or u 2 0 % 32;
      row = map reversed (part 4 46 u);
    })

unfoldable pub read_unit : List ℕ → DataUnit
read_unit u = unit_of (eqb (get_or u 0 0) 0xFF) u

-- how many units follow data_identifier
abbrev pub unit_count : ℕ → ℕ
unit_count n = (n - 1) / 46

abbrev pub value_of : List ℕ → DataField
value_of s = record { data_identifier = get_or s 0 0; units = taken read_unit 46 (unit_count (length s)) (drop 1 s) }
