-- `conformance_area::area_units::put_units`: the measure is how many bytes are left, since the next unit begins behind this one's start bytes. So a unit has four bytes or more, and its eight bytes of answer keep within the invariant.
use Rattle.std.proofs.Common.{length, ◌-◌, ◌+◌, ◌*◌, ◌≤◌, ◌≡◌}
use Rattle.conformance_area.proofs.area_units.put_units.Given as goal

abbrev pub invariant-loop-at : goal.invariant-loop-at
invariant-loop-at l = (l.k ≤ 5 + 2 * l.at) × (length l.out ≡ length l.initial.out)

abbrev pub decreases-loop-at : goal.decreases-loop-at
decreases-loop-at l = length l.s - l.at
