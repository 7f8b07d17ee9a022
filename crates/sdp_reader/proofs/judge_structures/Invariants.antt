-- The loop's invariant: the structures from i on decide as all of them do.
use Rattle.std.proofs.Common.{◌≡◌, ◌+◌, map, drop}
use Rattle.anc.specs.Words.{byte_of}
use Rattle.sdp.specs.User.{structures_verdict}
use Rattle.sdp_reader.proofs.Judged.{openings}
use Rattle.sdp_reader.proofs.judge_structures.Given as goal

abbrev pub invariant-loop-i : goal.invariant-loop-i
invariant-loop-i l = structures_verdict (l.dc + 10) l.k (drop 9 (map byte_of l.user)) ≡ openings (map byte_of l.user) l.dc l.k l.i
