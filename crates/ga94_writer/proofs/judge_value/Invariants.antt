-- `ga94_writer::judge_value` meets its contract. The loop's invariant: i records are accepted, and those from i on decide.
use Prim.Native.Nat.{◌+◌, ◌*◌}
use mathlib.Core.Path.{◌≡◌}
use lib.ListN.{take, drop}
use Rattle.ga94.specs.Lent.{lent_records}
use Rattle.ga94.specs.Writing.{records_verdict}
use Rattle.ga94_writer.proofs.judge_value.Given as goal

abbrev pub invariant-loop-i : goal.invariant-loop-i
invariant-loop-i l = records_verdict 56 (take l.n (lent_records l.records)) ≡ records_verdict (56 + 24 * l.i) (drop l.i (take l.n (lent_records l.records)))
