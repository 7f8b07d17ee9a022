-- What the loop of `judge` keeps: i units are accepted, and what is behind them decides.
use mathlib.Core.Path.{◌≡◌}
use Rattle.pes.specs.Reading.{field_verdict}
use Rattle.pes.proofs.Judged.{behind}
use Rattle.pes_judge.proofs.judge.Given as goal

abbrev pub invariant-loop-i : goal.invariant-loop-i
invariant-loop-i l = field_verdict l.s ≡ behind l.s l.i
