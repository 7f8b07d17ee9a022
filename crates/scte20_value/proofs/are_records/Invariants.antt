-- `scte20_value::are_records` meets its contract. The loop's invariant: i records are accepted, and `place` and `urgent` are what counts of them.
use Prim.Native.Nat.{◌≤◌}
use lib.ListN.{take}
use Rattle.scte20.specs.Lent.{lent_records}
use Rattle.scte20_value.proofs.Rising.{Rising}
use Rattle.scte20_value.proofs.are_records.Given as goal

abbrev pub invariant-loop-i : goal.invariant-loop-i
invariant-loop-i l = Rising (take l.n (lent_records l.records)) l.place l.urgent l.i × (l.urgent ≤ 4)
