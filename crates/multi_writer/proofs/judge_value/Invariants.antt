-- The heads from i on decide as all of them do.
use Rattle.std.proofs.Common.{◌≡◌, drop}
use Rattle.multi.specs.Writing.{heads_verdict}
use Rattle.multi_writer.proofs.judge_value.Given as goal

abbrev pub invariant-loop-i : goal.invariant-loop-i
invariant-loop-i l = heads_verdict l.words l.heads ≡ heads_verdict l.words (drop l.i l.heads)
