-- The first set byte from i on is the first from `from` on.
use Rattle.std.proofs.Common.{◌≡◌, ◌-◌, length}
use Rattle.bits.specs.Peek.{first_set}
use Rattle.bits.proofs.first_set.Given as goal

abbrev pub invariant-loop-i : goal.invariant-loop-i
invariant-loop-i l = first_set l.s l.from ≡ first_set l.s l.i

abbrev pub decreases-loop-i : goal.decreases-loop-i
decreases-loop-i l = length l.s - l.i
