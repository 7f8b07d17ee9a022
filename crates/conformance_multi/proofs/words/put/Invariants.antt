-- What was stored lies within the output.
use Rattle.std.proofs.Common.{◌≤◌, length}
use Rattle.conformance_multi.proofs.words.put.Given as goal

abbrev pub invariant-loop-w : goal.invariant-loop-w
invariant-loop-w l = l.end ≤ length l.out
