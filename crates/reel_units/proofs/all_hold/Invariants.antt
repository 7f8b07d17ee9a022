-- Where what was seen is clear, the units from i on decide as all of them do.
use Rattle.std.proofs.Common.{◌≡◌, drop}
use Rattle.line21.specs.Writing.{units_verdict}
use Rattle.line21_judge.specs.Seen.{Clear}
use Rattle.reel_units.proofs.all_hold.Given as goal

abbrev pub invariant-loop-unit : goal.invariant-loop-unit
invariant-loop-unit l = Clear l.seen → units_verdict l.units ≡ units_verdict (drop l.unit-index l.units)
