-- `scte20::lent::unit_of` meets its contract. The loop's invariant: the first i records are stored, with blanks beyond.
use mathlib.Core.Path.{◌≡◌}
use lib.ListN.{take}
use Rattle.lists.specs.Room.{filled}
use Rattle.scte20.specs.Value.{blank}
use Rattle.scte20.specs.Lent.{lent_records}
use Rattle.scte20.proofs.lent.unit_of.Given as goal

abbrev pub invariant-loop-i : goal.invariant-loop-i
invariant-loop-i l = l.records ≡ filled (take l.i (lent_records l.bytes)) 31 blank
