-- `ga94_writer::put_constructs` meets its contract. The loop's invariant: the first i constructs are laid behind seven bytes.
use mathlib.Core.Path.{◌≡◌}
use lib.ListN.{take}
use Rattle.lists.specs.Flat.{flat}
use Rattle.lists.specs.Room.{over_at}
use Rattle.ga94.specs.Layout.{construct_bytes}
use Rattle.ga94.specs.Lent.{lent_records}
use Rattle.ga94_writer.proofs.put_constructs.Given as goal

abbrev pub invariant-loop-i : goal.invariant-loop-i
invariant-loop-i l = l.out ≡ over_at 7 (flat construct_bytes (take l.i (take l.fn.v.n (lent_records l.records)))) l.initial.out
