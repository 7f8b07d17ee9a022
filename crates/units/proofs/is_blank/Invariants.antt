-- Where `any` is still 0, j places can be passed.
use Rattle.std.proofs.Common.{◌≡◌, ◌+◌}
use Rattle.units.specs.Inside.{Goes}
use Rattle.units.proofs.is_blank.Given as goal

abbrev pub invariant-loop-j : goal.invariant-loop-j
invariant-loop-j l = l.any ≡ 0 → Goes l.s l.i (l.i + l.j)
