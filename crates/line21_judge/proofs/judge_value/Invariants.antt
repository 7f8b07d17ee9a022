-- The units from i on decide as all of them do.
use Rattle.std.proofs.Common.{◌≡◌, ℕ, List, drop}
use Rattle.line21.specs.declared.AccessUnit.{AccessUnit}
use Rattle.line21.specs.Value.{held}
use Rattle.line21.specs.Writing.{units_verdict}
use Rattle.line21.specs.Lent.{payload_in}
use Rattle.line21_judge.proofs.judge_value.Given as goal

-- the units that are judged
abbrev pub judged : ℕ → List ℕ → List AccessUnit
judged m units = (held (payload_in 0 m units)).units

abbrev pub invariant-loop-i : goal.invariant-loop-i
invariant-loop-i l = units_verdict (judged l.m l.units) ≡ units_verdict (drop l.i (judged l.m l.units))
