-- `ga94_writer::are_in_range` meets its contract. The loop's invariant: as long as no number was too large, the records from i on decide as all of them do.
use Prim.Native.Nat.{◌+◌, ◌*◌}
use mathlib.Core.Path.{◌≡◌}
use mathlib.Core.Bool.{true}
use lib.ListN.{take, drop}
use Rattle.ga94.specs.Lent.{lent_records}
use Rattle.ga94.specs.Writing.{records_verdict}
use Rattle.ga94_writer.proofs.are_in_range.Given as goal

abbrev pub invariant-loop-i : goal.invariant-loop-i
invariant-loop-i l = l.clean ≡ true → records_verdict 56 (take l.n (lent_records l.records)) ≡ records_verdict (56 + 24 * l.i) (drop l.i (take l.n (lent_records l.records)))
