-- Where `clean` still holds, j places can be passed.
use Rattle.units.specs.Inside.{Quiet}
use Rattle.units.proofs.is_quiet.Given as goal

abbrev pub invariant-loop-j : goal.invariant-loop-j
invariant-loop-j l = Quiet l.j l.s l.i l.clean
