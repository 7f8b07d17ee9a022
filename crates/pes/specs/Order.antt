-- RULES, "Order of checks", for the data field: all checks of reading and of writing, each of the input alone, in the
-- order of RULES. Reading and writing give the first that finds a fault.
use Rattle.std.specs.Prelude.{ℕ, zero, suc, ◌+◌, ◌/◌, ◌%◌, Bool, true, false, not, ◌&&◌, ◌||◌, List, [], ◌∷◌, ◌++◌, eqb, ltb, length, get_or, drop}
use Rattle.refusal.specs.Verdict.{Verdict}
use Rattle.refusal.specs.Verdict.{Refused}
use Rattle.refusal.specs.declared.Reason.TheVariants.{Ends, Unfixed, UnknownUnit, SurplusUnit, UnitLine, Unfit, NoRoom, Unholdable}
use Rattle.refusal.specs.declared.Fixed.TheVariants.{Identifier, UnitReserved, UnitFraming}
use Rattle.refusal.specs.declared.Misfit.TheVariants.{UnitLength}
use Rattle.refusal.specs.declared.Excess.TheVariants.{Count, DataIdentifier, DataUnitId, FieldParity, LineOffset}
use Rattle.refusal.specs.declared.Item.{Item}
use Rattle.refusal.specs.declared.Item.TheVariants.{Whole, Byte}
use Rattle.refusal.specs.Checks.{refuse_if}
use Rattle.refusal.specs.Order.{each_of}
use Rattle.pes.specs.Value.{DataUnit, Told, teletext, stuffing, held}
use Rattle.pes.specs.Layout.{layout}

-- 7: line 1 to 6, or 23 and above
abbrev pub line_check : Item → ℕ → Verdict
line_check item l = refuse_if (ltb 0 l && (ltb l 7 || ltb 22 l)) UnitLine item

-- whether a data_unit_id is that of teletext, 02 or 03; or of stuffing, FF
abbrev pub teletext_id : ℕ → Bool
teletext_id id = eqb id 0x02 || eqb id 0x03

abbrev pub known_id : ℕ → Bool
known_id id = teletext_id id || eqb id 0xFF

-- behind data_unit_length, by whether the unit is stuffing. `at` is the byte of the data field in which the unit begins,
-- u all that is left from there on
abbrev pub body_checks : Bool → ℕ → List ℕ → List Verdict
body_checks true at u =
    -- 5: the 44 bytes of stuffing
    refuse_if (ltb (length u) 46) Ends (Byte (at + 2)) ∷ []
body_checks false at u =
    -- 5, 6: the reserved bits, which are ones
    refuse_if (ltb (length u) 3) Ends (Byte (at + 2))
    ∷ refuse_if (not (eqb (get_or u 2 0 / 64) 3)) (Unfixed UnitReserved) (Byte (at + 2))
    -- 7: line_offset
    ∷ line_check (Byte (at + 2)) (get_or u 2 0 % 32)
    -- 5, 6: the framing code
    ∷ refuse_if (ltb (length u) 4) Ends (Byte (at + 3))
    ∷ refuse_if (not (eqb (get_or u 3 0) 0xE4)) (Unfixed UnitFraming) (Byte (at + 3))
    -- 5: the 42 bytes of the row
    ∷ refuse_if (ltb (length u) 46) Ends (Byte (at + 4))
    ∷ []

-- one unit
abbrev pub unit_checks : ℕ → List ℕ → List Verdict
unit_checks at u =
    -- 23: data_unit_id. That it is there was asked before the unit began
    refuse_if (not (known_id (get_or u 0 0))) UnknownUnit (Byte at)
    -- 5, 13: data_unit_length
    ∷ refuse_if (ltb (length u) 2) Ends (Byte (at + 1))
    ∷ refuse_if (not (eqb (get_or u 1 0) 0x2C)) (Unfit UnitLength) (Byte (at + 1))
    ∷ body_checks (eqb (get_or u 0 0) 0xFF) at u

-- where no byte is left, and where one is
abbrev pub at_end : {A : Type 0} → List ℕ → A → A → A
at_end [] end more = end
at_end (b ∷ u) end more = more

-- unit after unit up to the end, k at the most
abbrev pub units_checks : ℕ → ℕ → List ℕ → List Verdict
-- 24: a byte is left behind the last that may be
units_checks zero at u = at_end u [] (Refused SurplusUnit (Byte at) ∷ [])
units_checks (suc k) at u = at_end u [] (unit_checks at u ++ units_checks k (at + 46) (drop 46 u))

abbrev pub reading_checks : List ℕ → List Verdict
reading_checks s =
    -- 5, 6: data_identifier
    refuse_if (eqb (length s) 0) Ends (Byte 0)
    ∷ refuse_if (not (eqb (get_or s 0 0 / 16) 1)) (Unfixed Identifier) (Byte 0)
    ∷ units_checks 31 1 (drop 1 s)

-- one unit that is written
abbrev pub written_checks : DataUnit → List Verdict
written_checks (teletext t) =
    -- 15: an id of no teletext, a parity that is no bit, a line above 31
    refuse_if (not (teletext_id t.data_unit_id)) (Unholdable DataUnitId) Whole
    ∷ refuse_if (ltb 1 t.field_parity) (Unholdable FieldParity) Whole
    ∷ refuse_if (ltb 31 t.line_offset) (Unholdable LineOffset) Whole
    -- 7
    ∷ line_check Whole t.line_offset
    ∷ []
written_checks (stuffing bytes) = []

abbrev pub writing_checks : Told → ℕ → List Verdict
writing_checks t room =
    -- 15: data_identifier is not 10 to 1F
    refuse_if (not (eqb (t.data_identifier / 16) 1)) (Unholdable DataIdentifier) Whole
    -- 15: n above 31
    ∷ refuse_if (ltb 31 t.n) (Unholdable Count) Whole
    -- 15, 7: each unit, in order. Entries beyond n are not looked at
    ∷ (each_of written_checks (held t).units
    -- 14: the output is shorter than the result
    ++ (refuse_if (ltb room (length (layout (held t)))) NoRoom Whole
    ∷ []))
