-- The loop's invariant: the slots from i on decide as all of them do, and k of the first i are full, which are those
-- whose descriptor is not 0.
use Rattle.std.proofs.Common.{◌≡◌}
use Rattle.subtitling_writer.proofs.Stored.{slots_left, count_to}
use Rattle.subtitling_writer.proofs.holds.Given as goal

abbrev pub invariant-loop-i : goal.invariant-loop-i
invariant-loop-i l = record {
  counted : l.k ≡ count_to l.p l.i;
  left : slots_left l.p l.rows 0 ≡ slots_left l.p l.rows l.i;
}
