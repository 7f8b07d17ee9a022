-- `scte20_gather::gather` meets its contract. The invariant of both loops: so many constructs are in their places.
use Prim.Native.Nat.{◌*◌}
use mathlib.Core.Path.{◌≡◌}
use lib.ListN.{length}
use Rattle.scte20_gather.specs.Inside.{Numbered}
use Rattle.scte20_gather.proofs.gather.Given as goal

abbrev pub invariant-loop-group : goal.invariant-loop-group
invariant-loop-group l = record { room : length l.found ≡ 32; numbered : Numbered l.body (4 * l.group) l.found }

abbrev pub invariant-loop-i : goal.invariant-loop-i
invariant-loop-i l = record { room : length l.found ≡ 32; numbered : Numbered l.body l.i l.found }
