-- i constructs are accepted, and those from i on decide.
use Rattle.std.proofs.Common.{◌≡◌, ◌+◌, ◌-◌, ◌*◌}
use Rattle.ga94.specs.Reading.{constructs_verdict}
use Rattle.ga94_reader.proofs.judge_constructs.Given as goal

abbrev pub invariant-loop-i : goal.invariant-loop-i
invariant-loop-i l = constructs_verdict l.n 7 l.body ≡ constructs_verdict (l.n - l.i) (7 + 3 * l.i) l.body
