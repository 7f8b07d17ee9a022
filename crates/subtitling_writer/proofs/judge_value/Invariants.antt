-- The loop's invariant: the slots from i on decide as all of them do.
use Rattle.std.proofs.Common.{◌≡◌}
use Rattle.subtitling_writer.proofs.Stored.{slots_left}
use Rattle.subtitling_writer.proofs.judge_value.Given as goal

abbrev pub invariant-loop-i : goal.invariant-loop-i
invariant-loop-i l = slots_left l.p l.rows 0 ≡ slots_left l.p l.rows l.i
