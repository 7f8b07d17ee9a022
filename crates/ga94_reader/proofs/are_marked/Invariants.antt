-- `ga94_reader::are_marked` meets its contract. The loop's invariant: as long as no construct was unmarked, those from i on decide as all of them do.
use Prim.Native.Nat.{◌+◌, ◌-◌, ◌*◌}
use mathlib.Core.Path.{◌≡◌}
use mathlib.Core.Bool.{true}
use Rattle.ga94.specs.Reading.{constructs_verdict}
use Rattle.ga94_reader.proofs.are_marked.Given as goal

abbrev pub invariant-loop-i : goal.invariant-loop-i
invariant-loop-i l = l.clean ≡ true → constructs_verdict l.n 7 l.body ≡ constructs_verdict (l.n - l.i) (7 + 3 * l.i) l.body
