-- The first i elements are laid over the output.
use Rattle.std.proofs.Common.{◌≡◌, take}
use Rattle.lists.specs.Room.{over}
use Rattle.lists.proofs.copy.Given as goal

abbrev pub invariant-loop-i : goal.invariant-loop-i
invariant-loop-i l = l.out ≡ over (take l.i l.s) l.initial.out
