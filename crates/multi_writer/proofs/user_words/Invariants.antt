-- The words of the first i inner packets are counted.
use Rattle.std.proofs.Common.{◌≡◌, ◌+◌, ◌≤◌, take}
use Rattle.multi.specs.Inside.{heads_words}
use Rattle.multi_writer.proofs.user_words.Given as goal

abbrev pub invariant-loop-i : goal.invariant-loop-i
invariant-loop-i l = (l.user ≡ 1 + heads_words (take l.i l.heads)) × (l.user ≤ 65795)
