-- What the loop of `judge_value` keeps: i units are let through, and those behind them decide.
use mathlib.Core.Path.{◌≡◌}
use Rattle.pes.specs.Writing.{value_verdict}
use Rattle.pes.specs.Lent.{field_in}
use Rattle.pes_writer.proofs.Judged.{behind}
use Rattle.pes_writer.proofs.judge_value.Given as goal

abbrev pub invariant-loop-i : goal.invariant-loop-i
invariant-loop-i l = value_verdict (field_in l.data_identifier l.n l.units) l.room ≡ behind l.data_identifier l.n l.room l.units l.i
