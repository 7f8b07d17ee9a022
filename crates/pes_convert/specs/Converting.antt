-- A subtitling packet carried into a PES data field. RULES, "PES data field", "Conversion".
use Rattle.std.specs.Prelude.{ℕ, zero, suc, List, [], ◌∷◌, ltb, length}
use Rattle.refusal.specs.Verdict.{Verdict}
use Rattle.refusal.specs.declared.Reason.TheVariants.{NoRoom}
use Rattle.refusal.specs.declared.Item.TheVariants.{Whole}
use Rattle.refusal.specs.declared.Written.{Written}
use Rattle.refusal.specs.Checks.{refuse_if, first}
use Rattle.refusal.specs.Answers.{Wrote}
use Rattle.sdp.specs.declared.Packet.{Packet}
use Rattle.sdp.specs.Value.{SlotRow, Sdp, Typed, held}
use Rattle.subtitling.specs.Reading.{packet_verdict, value_of}
use Rattle.subtitling.specs.Writing.{value_verdict}
use Rattle.pes.specs.Value.{DataUnit, DataField, teletext}
use Rattle.pes.specs.Layout.{layout}
use Rattle.pes.specs.Order.{line_check}

-- the unit of a full slot: subtitles, and the slot's field, line and row as they are. The odd field, 1 in a slot, is the
-- first of the frame, whose field_parity is 1
abbrev pub slot_unit : SlotRow → DataUnit
slot_unit x =
    teletext
    (record {
      data_unit_id = 0x03;
      field_parity = x.slot.field.0;
      line_offset = x.slot.line;
      row = x.row;
    })

-- by a slot's mark: nothing for an empty one
abbrev pub if_full : {A : Type 0} → ℕ → A → List A → List A
if_full zero a rest = rest
if_full (suc mark) a rest = a ∷ rest

-- the units of the full slots, in order
abbrev pub full_units : List SlotRow → List DataUnit
full_units [] = []
full_units (x ∷ xs) = if_full x.slot.full (slot_unit x) (full_units xs)

-- reserved bits and counter have no place in it
abbrev pub converted : Sdp → DataField
converted v = record { data_identifier = 0x10; units = full_units v.slots }

-- 7 for each full slot, in order, whose line no data unit may have
abbrev pub lines_checks : List SlotRow → List Verdict
lines_checks [] = []
lines_checks (x ∷ xs) = if_full x.slot.full (line_check Whole x.slot.line) (lines_checks xs)

-- the packet's own checks, then the lines, then 14
unfoldable pub convert_verdict : Verdict → Sdp → ℕ → Verdict
convert_verdict packet v room =
    first
    (packet
    ∷ first (lines_checks v.slots)
    ∷ refuse_if (ltb room (length (layout (converted v)))) NoRoom Whole
    ∷ [])

-- the checks of a packet's value: those of writing it where any packet has room
abbrev pub own_verdict : Sdp → Verdict
own_verdict v = value_verdict v 245

-- the promise of `convert`, from a packet's words
abbrev pub Converts : List ℕ → List ℕ → Written → List ℕ → Type 0
Converts s out answer exit =
    Wrote (convert_verdict (packet_verdict s) (value_of s) (length out)) (layout (converted (value_of s))) out answer exit

-- the promise of `convert_value`, from its value. By their types there are five slots, and five rows of 42 bytes: the
-- code shows it
pub record ConvertsValue (p : Packet) (rows : List (List ℕ)) (out : List ℕ) (answer : Written) (exit : List ℕ) : Type 0 where
  pub typed : Typed p rows
  pub wrote :
      Wrote (convert_verdict (own_verdict (held p rows)) (held p rows) (length out)) (layout (converted (held p rows))) out answer exit
