-- Where what was seen is clear, the units from i on decide as all of them do.
use Rattle.std.proofs.Common.{◌≡◌, drop}
use Rattle.line21.specs.Writing.{units_verdict}
use Rattle.line21.specs.Lent.{run_in}
use Rattle.line21_judge.specs.Seen.{Clear}
use Rattle.line21_judge.proofs.all_hold.Given as goal

abbrev pub invariant-loop-i : goal.invariant-loop-i
invariant-loop-i l = Clear l.seen → units_verdict (run_in l.units) ≡ units_verdict (drop l.i (run_in l.units))
