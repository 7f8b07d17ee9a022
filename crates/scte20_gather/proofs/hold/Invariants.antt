-- `scte20_gather::hold` meets its contract. The loop's invariant: if the constructs from i on are right, all are.
use Prim.Native.Nat.{◌-◌, ◌≤◌}
use Rattle.scte20_gather.specs.Inside.{Held}
use Rattle.scte20_gather.proofs.hold.Given as goal

abbrev pub invariant-loop-i : goal.invariant-loop-i
invariant-loop-i l = (l.urgent ≤ 4) × (Held l.before l.urgent (l.n - l.i) l.i l.found → Held 31 0 l.n 0 l.found)
