-- The loop's invariant: the structures from i on decide as all of them do, at each place.
use Rattle.std.proofs.Common.{◌≡◌, ℕ, ◌+◌, map, drop}
use Rattle.anc.specs.Words.{byte_of}
use Rattle.sdp.specs.User.{structures_verdict}
use Rattle.sdp_reader.proofs.Judged.{openings}
use Rattle.sdp_reader.proofs.structures_hold.Given as goal

abbrev pub invariant-loop-i : goal.invariant-loop-i
invariant-loop-i l = (dc : ℕ) → structures_verdict (dc + 10) l.k (drop 9 (map byte_of l.user)) ≡ openings (map byte_of l.user) dc l.k l.i
