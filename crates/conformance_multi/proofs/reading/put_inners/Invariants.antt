-- What was stored lies within the output.
use Rattle.std.proofs.Common.{◌≤◌, length}
use Rattle.conformance_multi.proofs.reading.put_inners.Given as goal

abbrev pub invariant-loop-i : goal.invariant-loop-i
invariant-loop-i l = l.end ≤ length l.out
