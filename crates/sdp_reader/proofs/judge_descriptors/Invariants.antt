-- The loop's invariant: the descriptors from i on decide as all of them do.
use Rattle.std.proofs.Common.{◌≡◌, ◌+◌, map}
use Rattle.anc.specs.Words.{byte_of}
use Rattle.sdp.specs.User.{descriptors_in, descriptors_verdict}
use Rattle.sdp_reader.proofs.Judged.{lines}
use Rattle.sdp_reader.proofs.judge_descriptors.Given as goal

abbrev pub invariant-loop-i : goal.invariant-loop-i
invariant-loop-i l = descriptors_verdict (l.dc + 5) (descriptors_in (map byte_of l.user)) ≡ lines l.user l.dc l.i
