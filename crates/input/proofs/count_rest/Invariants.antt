-- A turn begins below 4 GiB and counts at most 4,096 bytes.
use Rattle.std.proofs.Common.{◌-◌, ◌<◌}
use Rattle.input.proofs.count_rest.Given as goal

abbrev pub invariant-loop-len : goal.invariant-loop-len
invariant-loop-len l = l.len < 4294971392

abbrev pub decreases-loop-len : goal.decreases-loop-len
decreases-loop-len l = 4294967296 - l.len
