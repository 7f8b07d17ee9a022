-- The loop's invariant: total is the sum of the words so far, modulo 65,536.
use Rattle.std.proofs.Common.{◌≡◌, ◌%◌, take}
use Rattle.lists.specs.Sum.{sum}
use Rattle.anc.proofs.sum.Given as goal

abbrev pub invariant-loop-w : goal.invariant-loop-w
invariant-loop-w l = l.total ≡ sum (take l.w-index l.words) % 65536
