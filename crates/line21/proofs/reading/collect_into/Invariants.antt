-- The bytes of the first i units are laid over the array.
use Rattle.std.proofs.Common.{◌≡◌, drop}
use Rattle.lists.specs.Room.{over}
use Rattle.line21.specs.Reading.{read_units}
use Rattle.line21.specs.Lent.{access_units_bytes}
use Rattle.line21.proofs.reading.collect_into.Given as goal

abbrev pub invariant-loop-i : goal.invariant-loop-i
invariant-loop-i l = l.units ≡ over (access_units_bytes (read_units l.i (drop 1 l.s))) l.initial.units
