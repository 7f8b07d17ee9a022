-- The payloads that are left, with the room that is left, decide as all of them do.
use Rattle.std.proofs.Common.{◌≡◌, ◌*◌, ◌%◌, length}
use Rattle.std.specs.Slice.Iter.{chunks_rest, chunks_size}
use Rattle.line21.specs.Lent.{run_in}
use Rattle.reel.specs.Writing.{reel, reel_verdict}
use Rattle.reel.proofs.judge_reel.Given as goal

abbrev pub invariant-loop-payload : goal.invariant-loop-payload
invariant-loop-payload l =
    (chunks_size l.payload-iterator ≡ 7 * l.size) × (length (chunks_rest l.payload-iterator) % 7 ≡ 0)
    × (reel_verdict (reel 0 l.size (run_in l.units)) l.room ≡ reel_verdict (reel 0 l.size (run_in (chunks_rest l.payload-iterator))) l.left)
