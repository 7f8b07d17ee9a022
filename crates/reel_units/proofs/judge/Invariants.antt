-- The payloads that are left, with the room that is left, decide as all of them do.
use Rattle.std.proofs.Common.{◌≡◌}
use Rattle.std.specs.Slice.Iter.{chunks_rest, chunks_size}
use Rattle.reel.specs.Writing.{reel, reel_verdict}
use Rattle.reel_units.proofs.judge.Given as goal

abbrev pub invariant-loop-payload : goal.invariant-loop-payload
invariant-loop-payload l =
    (chunks_size l.payload-iterator ≡ l.size)
    × (reel_verdict (reel 0 l.size l.units) l.room ≡ reel_verdict (reel 0 l.size (chunks_rest l.payload-iterator)) l.left)
