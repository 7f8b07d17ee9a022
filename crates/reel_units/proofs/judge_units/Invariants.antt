-- The units from i on decide as all of them do.
use Rattle.std.proofs.Common.{◌≡◌, drop}
use Rattle.line21.specs.Writing.{units_verdict}
use Rattle.reel_units.proofs.judge_units.Given as goal

abbrev pub invariant-loop-unit : goal.invariant-loop-unit
invariant-loop-unit l = units_verdict l.units ≡ units_verdict (drop l.unit-index l.units)
