-- What the loop of `put_slots` keeps: the units of the first i slots, which take `at` bytes, are laid over the output.
use mathlib.Core.Path.{◌≡◌}
use lib.ListN.{length}
use Rattle.lists.specs.Room.{over}
use Rattle.sdp.specs.Value.{held}
use Rattle.pes_convert.proofs.Walked.{bytes}
use Rattle.pes_convert.proofs.put_slots.Given as goal

abbrev pub invariant-loop-i : goal.invariant-loop-i
invariant-loop-i l =
    (length (bytes (held l.p l.rows).slots l.i) ≡ l.at)
    × (l.out ≡ over (bytes (held l.p l.rows).slots l.i) l.initial.out)
