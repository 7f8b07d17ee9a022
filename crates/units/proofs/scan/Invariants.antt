-- `units::scan`. The outer loop's invariant: `Going`, the walk stands at `at`. The inner loop's: the search has gone on from the body's first
-- byte to i.
use Prim.Native.Nat.{◌-◌}
use mathlib.Core.Path.{◌≡◌}
use lib.ListN.{length}
use Rattle.kind.specs.Ours.{ours}
use Rattle.units.specs.Inside.{Bounds, Goes}
use Rattle.units.proofs.Walk.{Going}
use Rattle.units.proofs.scan.Given as goal

abbrev pub invariant-loop-i : goal.invariant-loop-i
invariant-loop-i l = Goes l.s l.body l.i × (l.next ≡ length l.s) × Bounds l.s l.i l.stop

abbrev pub decreases-loop-i : goal.decreases-loop-i
decreases-loop-i l = length l.s - l.i

abbrev pub invariant-units : goal.invariant-units
invariant-units l = Going (ours l.kind) l.s l.found l.at

abbrev pub decreases-units : goal.decreases-units
decreases-units l = length l.s - l.at
