-- Each unit before is handed on.
use Rattle.std.proofs.Common.{ℕ, ◌<◌, get_or}
use Rattle.line21.specs.Value.{ByteUnit, blank}
use Rattle.reel_units.proofs.known.Given as goal

abbrev pub invariant-loop-unit : goal.invariant-loop-unit
invariant-loop-unit l = (k : ℕ) → k < l.unit-index → ByteUnit (get_or l.units k blank)
