-- The loop's invariant: the first i descriptors are laid over the output, and total is the sum of their words.
use Rattle.std.proofs.Common.{◌≡◌, ◌%◌, take}
use Rattle.lists.specs.Room.{over}
use Rattle.lists.specs.Sum.{sum}
use Rattle.subtitling_writer.proofs.Words.{slot_words}
use Rattle.subtitling_writer.proofs.put_descriptors.Given as goal

abbrev pub invariant-loop-i : goal.invariant-loop-i
invariant-loop-i l = record {
  laid : l.out ≡ over (slot_words (take l.i l.p.slots)) l.fn.out;
  summed : l.total ≡ sum (slot_words (take l.i l.p.slots)) % 65536;
}
