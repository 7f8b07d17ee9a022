-- The first i bytes, as the table has them, are laid over the output.
use Rattle.std.proofs.Common.{◌≡◌, map, take}
use Rattle.lists.specs.Room.{over}
use Rattle.bits.specs.Table.{found}
use Rattle.bits.proofs.look_up.Given as goal

abbrev pub invariant-loop-i : goal.invariant-loop-i
invariant-loop-i l = l.out ≡ over (take l.i (map (found l.table) l.s)) l.initial.out
