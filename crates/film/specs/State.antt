-- What is kept from call to call: an odd slot that waits for the even one after it. RULES, "Film".
use Rattle.std.specs.Prelude.{Option, Some, None}
use Rattle.film.specs.Slot.{Slot}

abbrev pub State : Type 0
State = Option Slot

pattern abbrev pub Nothing : State
Nothing = None

pattern abbrev pub Waiting : Slot → State
Waiting slot = Some slot
