-- Every `Payload` that the code holds is `Typed`: the logic says so of what a local of that type owns.
-- Assumes nothing.
use mathlib.Core.List.{List, [], ◌∷◌}
use mir.Val.{Val}
use denote.Shadow.{shadow}
use denote.Array.{each}
use Rattle.lists.specs.Each.{Each}
use Rattle.line21.specs.declared.AccessUnit.{AccessUnit}
use Rattle.line21.specs.declared.Payload.{Payload}
use Rattle.line21.specs.Value.{ByteUnit, Typed}
use Rattle.line21.specs.contracts.AccessUnit as unit
use Rattle.line21.specs.contracts.Payload as payload

byte-unit : (u : AccessUnit) (v : Val) → shadow ((unit.the_row).own_val u (v ∷ [])) → ByteUnit u
byte-unit u v h =
    let four = h.1.1.1.1.1 in
    record { field1-data1 = four.0.1; field1-data2 = four.1.0.1; field2-data1 = four.1.1.0.1; field2-data2 = four.1.1.1.0.1 }

byte-units : (us : List AccessUnit) (vs : List Val) → shadow (each (unit.the_row).Denot (unit.the_row).own_val us vs) → Each ByteUnit us
byte-units [] vs h = tt
byte-units (u ∷ us) [] h = absurd h
byte-units (u ∷ us) (v ∷ vs) h = (byte-unit u v h.0, byte-units us vs h.1)

pub typed : (p : Payload) (vs : List Val) → shadow ((payload.the_field).row.own_val ((payload.the_field).into p) vs) → Typed p
typed p vs h =
    let units = h.1.1.1.1.0 in
    record {
      byte = h.1.1.0.1;
      places = units.1.0.1;
      bytes = byte-units p.units units.0 units.1.1;
    }
