-- A payload's units as bytes in a lent array, seven bytes each, in the order of the struct: what the C interface lends
-- and is lent.
use Rattle.std.specs.Prelude.{ℕ, ◌/◌, ◌≡◌, List, [], ◌∷◌, length, get_or}
use Rattle.lists.specs.Bytes.{Bytes}
use Rattle.lists.specs.Flat.{flat, taken}
use Rattle.refusal.specs.Answers.{lent_of}
use Rattle.line21.specs.declared.AccessUnit.{AccessUnit}
use Rattle.line21.specs.declared.Payload.{Payload}
use Rattle.line21.specs.declared.Head.{Head}
use Rattle.line21.specs.Reading.{length_verdict, read_of, head_of}

abbrev pub access_unit_bytes : AccessUnit → List ℕ
access_unit_bytes u =
    u.cc_valid_1 ∷ u.cc_valid_2 ∷ u.padding
    ∷ u.field1_data1 ∷ u.field1_data2 ∷ u.field2_data1 ∷ u.field2_data2 ∷ []

abbrev pub access_units_bytes : List AccessUnit → List ℕ
access_units_bytes us = flat access_unit_bytes us

-- the unit that the first seven bytes tell
unfoldable pub access_unit_in : List ℕ → AccessUnit
access_unit_in s =
    record {
      cc_valid_1 = get_or s 0 0;
      cc_valid_2 = get_or s 1 0;
      padding = get_or s 2 0;
      field1_data1 = get_or s 3 0;
      field1_data2 = get_or s 4 0;
      field2_data1 = get_or s 5 0;
      field2_data2 = get_or s 6 0;
    }

abbrev pub access_units_in : List ℕ → List AccessUnit
access_units_in s = taken access_unit_in 7 291 s

-- the same in a lent slice of any length: all whole units in it
abbrev pub run_in : List ℕ → List AccessUnit
run_in s = taken access_unit_in 7 (length s / 7) s

-- the struct that a flags byte, a count and a lent array tell
abbrev pub payload_in : ℕ → ℕ → List ℕ → Payload
payload_in flags m s = record { flags = flags; m = m; units = access_units_in s }

-- the promise of `read_into`: the head, and all units of `read`'s answer in the lent array, zeros beyond m
pub record ReadsInto (s lent : List ℕ) (r : Head) (exit : List ℕ) : Type 0 where
  pub bytes : Bytes s
  pub answer : r ≡ head_of (read_of s)
  pub left : exit ≡ lent_of (length_verdict (length s)) (access_units_bytes (read_of s).payload.units) lent
