-- What pictures show, from their values alone: the slots of their display fields, in display order, each on its side.
-- RULES, "Film"; ISO/IEC 13818-2, 6.3.10.
use Rattle.std.specs.Prelude.{ℕ, zero, suc, Bool, true, false, ◌&&◌, List, [], ◌∷◌, map, eqb}
use Rattle.fields.specs.Sides.{side}
use Rattle.scte20.specs.declared.Record.{Record}
use Rattle.scte20.specs.Value.{field_of}
use Rattle.film.specs.Slot.{Slot}
use Rattle.film.specs.Slot.{Invalid, Pair}
use Rattle.film.specs.declared.Shown.{Shown}

-- the display fields of a picture, in order: two, and three where the first is repeated
abbrev pub fields_shown : Bool → List ℕ
fields_shown false = 1 ∷ 2 ∷ []
fields_shown true = 1 ∷ 2 ∷ 3 ∷ []

-- a record is of that line and that display field
abbrev pub is_at : ℕ → ℕ → Record → Bool
is_at line field r = eqb (field_of r) field && eqb r.line_offset line

abbrev pub pick : Bool → Slot → Slot → Slot
pick true this other = this
pick false this other = other

-- the slot of a display field: its record on that line, or an invalid slot
abbrev pub slot_of : ℕ → ℕ → List Record → Slot
slot_of line field [] = Invalid
slot_of line field (r ∷ rs) = pick (is_at line field r) (Pair r.cc_data_1 r.cc_data_2) (slot_of line field rs)

-- what happens in a run, one thing after the other: a slot on the odd or on the even side, or a closing
pub data Event : Type 0 where
  odd : Slot → Event
  even : Slot → Event
  closing : Event

-- a slot on its side: 1 odd, 0 even
abbrev pub on_side : ℕ → Slot → Event
on_side zero slot = even slot
on_side (suc n) slot = odd slot

-- a display field of a picture with these records
abbrev pub field_event : Shown → List Record → ℕ → Event
field_event how rs field = on_side (side how.top_field_first field) (slot_of how.line_offset field rs)

-- a picture: its display fields in order
abbrev pub picture_events : Shown → List Record → List Event
picture_events how rs = map (field_event how rs) (fields_shown how.repeat_first_field)
