-- What the loop of `rest_holds` keeps is `Turn`: the sum so far, and how many strays were NCS words.
use Rattle.std.proofs.Common.{◌-◌}
use Rattle.multi.proofs.Clean.{Turn}
use Rattle.multi_clean.proofs.rest_holds.Given as goal

abbrev pub invariant-loop-at : goal.invariant-loop-at
invariant-loop-at l = Turn l.words l.end l.at l.total l.excused

abbrev pub decreases-loop-at : goal.decreases-loop-at
decreases-loop-at l = l.end - l.at
