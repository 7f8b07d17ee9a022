-- Which access units go out for a row of slots, and which slot waits: one rule over the whole row. RULES, "Film"; 004,
-- Table 2.
use Rattle.std.specs.Prelude.{List, [], ◌∷◌, ◌++◌, map}
use Rattle.line21.specs.declared.AccessUnit.{AccessUnit}
use Rattle.film.specs.Slot.{Slot}
use Rattle.film.specs.Slot.{Invalid, Pair}
use Rattle.film.specs.State.{State}
use Rattle.film.specs.State.{Nothing, Waiting}
use Rattle.film.specs.declared.Half.{Half}
use Rattle.film.specs.Display.{Event, odd, even, closing}

-- a frame: which slots went out in it
pub data Frame : Type 0 where
  both : Slot → Slot → Frame
  odd_alone : Slot → Frame
  even_alone : Slot → Frame

-- an odd slot goes out beside the even one right after it, and alone where something else comes after it. With nothing
-- after it, it waits. An even slot that comes after no odd one goes out alone
abbrev pub frames_of : List Event → List Frame
frames_of [] = []
frames_of (odd a ∷ []) = []
frames_of (odd a ∷ even b ∷ rest) = both a b ∷ frames_of rest
frames_of (odd a ∷ odd b ∷ rest) = odd_alone a ∷ frames_of (odd b ∷ rest)
frames_of (odd a ∷ closing ∷ rest) = odd_alone a ∷ frames_of rest
frames_of (even b ∷ rest) = even_alone b ∷ frames_of rest
frames_of (closing ∷ rest) = frames_of rest

-- what waits: the odd slot that nothing came after
abbrev pub waiting_of : List Event → State
waiting_of [] = Nothing
waiting_of (odd a ∷ []) = Waiting a
waiting_of (odd a ∷ next ∷ rest) = waiting_of (next ∷ rest)
waiting_of (even b ∷ rest) = waiting_of rest
waiting_of (closing ∷ rest) = waiting_of rest

-- a slot that waits, as the row begins with it in the next call
abbrev pub pending : State → List Event
pending Nothing = []
pending (Waiting a) = odd a ∷ []

-- a slot in an access unit: a pair is valid; an invalid slot is two zeros
abbrev pub half_of : Slot → Half
half_of Invalid = record { cc_valid = 0; data_1 = 0; data_2 = 0 }
half_of (Pair a b) = record { cc_valid = 1; data_1 = a; data_2 = b }

-- field 1 of an access unit is the odd one, field 2 the even one; padding 0
abbrev pub access_unit : Slot → Slot → AccessUnit
access_unit one two =
    record {
      cc_valid_1 = (half_of one).cc_valid;
      cc_valid_2 = (half_of two).cc_valid;
      padding = 0;
      field1_data1 = (half_of one).data_1;
      field1_data2 = (half_of one).data_2;
      field2_data1 = (half_of two).data_1;
      field2_data2 = (half_of two).data_2;
    }

-- a frame with one slot is filled in with an invalid one on the other side
abbrev pub unit_of : Frame → AccessUnit
unit_of (both a b) = access_unit a b
unit_of (odd_alone a) = access_unit a Invalid
unit_of (even_alone b) = access_unit Invalid b

-- the two fields of an access unit, and one that is invalid and zero
abbrev pub field_one : AccessUnit → Half
field_one u = record { cc_valid = u.cc_valid_1; data_1 = u.field1_data1; data_2 = u.field1_data2 }

abbrev pub field_two : AccessUnit → Half
field_two u = record { cc_valid = u.cc_valid_2; data_1 = u.field2_data1; data_2 = u.field2_data2 }

abbrev pub blank : Half
blank = record { cc_valid = 0; data_1 = 0; data_2 = 0 }

abbrev pub units_of : List Event → List AccessUnit
units_of es = map unit_of (frames_of es)

-- the slots that went out in a frame, each on its side. One that was filled in is none of them
abbrev pub slots_in : Frame → List Event
slots_in (both a b) = odd a ∷ even b ∷ []
slots_in (odd_alone a) = odd a ∷ []
slots_in (even_alone b) = even b ∷ []

-- those of all frames, side by side in the order sent
abbrev pub slots_sent : List Frame → List Event
slots_sent [] = []
slots_sent (f ∷ fs) = slots_in f ++ slots_sent fs

-- the slots of a row, without its closings
abbrev pub slots_of : List Event → List Event
slots_of [] = []
slots_of (odd a ∷ rest) = odd a ∷ slots_of rest
slots_of (even b ∷ rest) = even b ∷ slots_of rest
slots_of (closing ∷ rest) = slots_of rest
