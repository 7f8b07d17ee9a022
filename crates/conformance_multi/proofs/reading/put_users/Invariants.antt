-- What was stored lies within the output.
use Rattle.std.proofs.Common.{◌≤◌, length}
use Rattle.conformance_multi.proofs.reading.put_users.Given as goal

abbrev pub invariant-loop-head : goal.invariant-loop-head
invariant-loop-head l = l.end ≤ length l.out
