-- The loop's invariant: 55 55 27 and the first j bytes of the row are laid over the output, and total is the sum of
-- their words.
use Rattle.std.proofs.Common.{◌≡◌, ◌%◌, take}
use Rattle.lists.specs.Room.{over}
use Rattle.lists.specs.Sum.{sum}
use Rattle.subtitling_writer.proofs.Words.{row_words}
use Rattle.subtitling_writer.proofs.put_structure.Given as goal

abbrev pub invariant-loop-j : goal.invariant-loop-j
invariant-loop-j l = record {
  laid : l.out ≡ over (row_words (take l.j l.row)) l.fn.out;
  summed : l.total ≡ sum (row_words (take l.j l.row)) % 65536;
}
