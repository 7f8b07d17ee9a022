-- The loop's invariant: the structures of the first i slots, which take `at` words, are laid over the output, and total
-- is the sum of their words.
use Rattle.std.proofs.Common.{◌≡◌, ◌%◌, length}
use Rattle.lists.specs.Room.{over}
use Rattle.lists.specs.Sum.{sum}
use Rattle.sdp.specs.Value.{held}
use Rattle.subtitling_writer.proofs.Structures.{words}
use Rattle.subtitling_writer.proofs.put_structures.Given as goal

abbrev pub invariant-loop-i : goal.invariant-loop-i
invariant-loop-i l = record {
  place : length (words (held l.p l.rows).slots l.i) ≡ l.at;
  laid : l.out ≡ over (words (held l.p l.rows).slots l.i) l.fn.out;
  summed : l.total ≡ sum (words (held l.p l.rows).slots l.i) % 65536;
}
