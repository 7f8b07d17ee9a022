-- The search has gone on to i.
use Rattle.std.proofs.Common.{◌-◌, length}
use Rattle.units.specs.Inside.{Goes}
use Rattle.units.proofs.by_bytes.Given as goal

abbrev pub invariant-loop-i : goal.invariant-loop-i
invariant-loop-i l = Goes l.s l.from l.i

abbrev pub decreases-loop-i : goal.decreases-loop-i
decreases-loop-i l = length l.s - l.i
