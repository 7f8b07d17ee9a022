-- The array holds the first i units, and blanks beyond them.
use Rattle.std.proofs.Common.{◌≡◌, drop}
use Rattle.lists.specs.Room.{filled}
use Rattle.line21.specs.Value.{blank}
use Rattle.line21.specs.Reading.{read_units}
use Rattle.line21.proofs.reading.collect.Given as goal

abbrev pub invariant-loop-i : goal.invariant-loop-i
invariant-loop-i l = l.units ≡ filled (read_units l.i (drop 1 l.s)) 291 blank
