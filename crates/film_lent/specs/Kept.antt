-- The state that four bytes tell, where some state has them.
use Rattle.std.specs.Prelude.{Option, Some}
use Rattle.std.specs.Prelude.{None as Option·None}
use Rattle.film.specs.State as film

abbrev pub Kept : Type 0
Kept = Option film.State

pattern abbrev pub State : film.State → Kept
State state = Some state

pattern abbrev pub None : Kept
None = Option·None
