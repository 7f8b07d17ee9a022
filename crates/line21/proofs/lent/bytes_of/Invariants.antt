-- The array's front is the bytes of the first i units.
use Rattle.std.proofs.Common.{◌≡◌, ◌*◌, length, take}
use Rattle.line21.specs.Lent.{access_units_bytes}
use Rattle.line21.proofs.lent.bytes_of.Given as goal

abbrev pub invariant-loop-i : goal.invariant-loop-i
invariant-loop-i l = (length l.bytes ≡ 2037) × (take (7 * l.i) l.bytes ≡ access_units_bytes (take l.i l.p.units))
