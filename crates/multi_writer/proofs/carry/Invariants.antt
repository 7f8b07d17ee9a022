-- The first i words are laid over the output, and total is their sum.
use Rattle.std.proofs.Common.{◌≡◌, ◌%◌, take}
use Rattle.lists.specs.Room.{over}
use Rattle.lists.specs.Sum.{sum}
use Rattle.multi_writer.proofs.carry.Given as goal

abbrev pub invariant-loop-i : goal.invariant-loop-i
invariant-loop-i l = (l.out ≡ over (take l.i l.user) l.initial.out) × (l.total ≡ sum (take l.i l.user) % 65536)
