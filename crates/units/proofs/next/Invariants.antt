-- The next 00 00 01 from i on is the next from `from` on.
use Rattle.std.proofs.Common.{◌≡◌, ◌-◌, length}
use Rattle.units.specs.Split.{next_of}
use Rattle.units.proofs.next.Given as goal

abbrev pub invariant-loop-i : goal.invariant-loop-i
invariant-loop-i l = next_of l.s l.from ≡ next_of l.s l.i

abbrev pub decreases-loop-i : goal.decreases-loop-i
decreases-loop-i l = length l.s - l.i
