-- What is decoded lies within the output; each turn takes some of what is left of the field.
use Rattle.std.proofs.Common.{◌≤◌, length}
use Rattle.vectors.proofs.hex.decode_runs.Given as goal

abbrev pub invariant-loop-rest : goal.invariant-loop-rest
invariant-loop-rest l = l.len ≤ length l.out

abbrev pub decreases-loop-rest : goal.decreases-loop-rest
decreases-loop-rest l = length l.rest
