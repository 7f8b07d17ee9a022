-- Units as bytes in a lent array, 45 bytes each: data_unit_id; then field_parity, line_offset and the row of 42, or the
-- 44 of stuffing. What the C interface lends and is lent.
use Rattle.std.specs.Prelude.{ℕ, ◌≡◌, Bool, true, false, List, ◌∷◌, eqb, get_or}
use Rattle.lists.specs.Bytes.{Bytes}
use Rattle.lists.specs.Part.{part}
use Rattle.lists.specs.Flat.{flat, taken}
use Rattle.refusal.specs.Verdict.{Verdict}
use Rattle.refusal.specs.Verdict.{Accepted, Refused}
use Rattle.refusal.specs.Numbers.{refusal_of}
use Rattle.refusal.specs.Answers.{lent_of}
use Rattle.pes.specs.declared.Head.{Head}
use Rattle.pes.specs.Value.{DataUnit, DataField, Told, teletext, stuffing, stored}
use Rattle.pes.specs.Reading.{field_verdict, value_of}

abbrev pub unit_bytes : DataUnit → List ℕ
unit_bytes (teletext t) = t.data_unit_id ∷ t.field_parity ∷ t.line_offset ∷ t.row
unit_bytes (stuffing bytes) = 0xFF ∷ bytes

abbrev pub units_bytes : List DataUnit → List ℕ
units_bytes us = flat unit_bytes us

-- the unit that the first 45 bytes tell, by its id: FF is stuffing
abbrev pub told_unit : Bool → List ℕ → DataUnit
told_unit true s = stuffing (part 1 45 s)
told_unit false s =
    teletext
    (record {
      data_unit_id = get_or s 0 0;
      field_parity = get_or s 1 0;
      line_offset = get_or s 2 0;
      row = part 3 45 s;
    })

unfoldable pub unit_in : List ℕ → DataUnit
unit_in s = told_unit (eqb (get_or s 0 0) 0xFF) s

abbrev pub units_in : List ℕ → List DataUnit
units_in s = taken unit_in 45 31 s

-- what data_identifier, a count and a lent array tell
abbrev pub field_in : ℕ → ℕ → List ℕ → Told
field_in identifier n s = record { data_identifier = identifier; n = n; units = units_in s }

-- what reading answers beside the units: in a refusal all is zero
abbrev pub head_of : Verdict → DataField → Head
head_of Accepted v =
    record { refusal = refusal_of Accepted; data_identifier = v.data_identifier; n = (stored v).n }
head_of (Refused reason item) v = record { refusal = refusal_of (Refused reason item); data_identifier = 0; n = 0 }

-- the promise of `read_into`: the head, and in the lent array all units of the value, zeros beyond n; a refusal leaves
-- the array as it was. By its type the input is a list of bytes: the code shows it
pub record ReadsInto (s lent : List ℕ) (r : Head) (exit : List ℕ) : Type 0 where
  pub bytes : Bytes s
  pub answer : r ≡ head_of (field_verdict s) (value_of s)
  pub left : exit ≡ lent_of (field_verdict s) (units_bytes (stored (value_of s)).units) lent
