-- What functions promise each other on the way to an answer: slot after slot. A signer may pass it over: it sends what
-- `frames_of` says.
use Rattle.std.specs.Prelude.{ℕ, zero, suc, List}
use Rattle.fields.specs.Sides.{side}
use Rattle.scte20.specs.declared.Record.{Record}
use Rattle.line21.specs.declared.AccessUnit.{AccessUnit}
use Rattle.film.specs.Slot.{Slot}
use Rattle.film.specs.Slot.{Invalid}
use Rattle.film.specs.State.{State}
use Rattle.film.specs.State.{Nothing, Waiting}
use Rattle.film.specs.declared.Shown.{Shown}
use Rattle.film.specs.declared.Half.{Half}
use Rattle.film.specs.declared.Sent.{Sent}
use Rattle.film.specs.declared.Sent.TheVariants as sent
use Rattle.film.specs.Gone.{Gone}
use Rattle.film.specs.Gone as gone
use Rattle.film.specs.declared.Passing.{Passing}
use Rattle.film.specs.Display.{slot_of}
use Rattle.film.specs.Frames.{access_unit}

-- an access unit of two halves
abbrev pub joined : Half → Half → AccessUnit
joined one two =
    record {
      cc_valid_1 = one.cc_valid;
      cc_valid_2 = two.cc_valid;
      padding = 0;
      field1_data1 = one.data_1;
      field1_data2 = one.data_2;
      field2_data1 = two.data_1;
      field2_data2 = two.data_2;
    }

-- an even slot goes out
abbrev pub even_passed : State → Slot → Passing
even_passed Nothing slot = record { gone = gone.Unit (access_unit Invalid slot); state = Nothing }
even_passed (Waiting odd) slot = record { gone = gone.Unit (access_unit odd slot); state = Nothing }

-- an odd one waits
abbrev pub odd_passed : State → Slot → Passing
odd_passed Nothing slot = record { gone = gone.Nothing; state = Waiting slot }
odd_passed (Waiting odd) slot = record { gone = gone.Unit (access_unit odd Invalid); state = Waiting slot }

abbrev pub passed : State → ℕ → Slot → Passing
passed s zero slot = even_passed s slot
passed s (suc n) slot = odd_passed s slot

-- one display field more
abbrev pub shown_field : State → ℕ → Shown → List Record → Passing
shown_field s field how rs = passed s (side how.top_field_first field) (slot_of how.line_offset field rs)

-- what was sent so far in a call, and one unit more, of two at the most
abbrev pub one_more : Sent → AccessUnit → Sent
one_more sent.None unit = sent.One unit
one_more (sent.One a) unit = sent.Two a unit
one_more (sent.Two a b) unit = sent.Two a b

abbrev pub added : Sent → Gone → Sent
added s gone.Nothing = s
added s (gone.Unit unit) = one_more s unit
